-- An invariant holds at the end of every run through the reset and any number of periods.
use Rattle.std.proofs.Common.{◌≡◌, ◌⊎◌, List, [], ◌∷◌, get_or, refl, sym, ap, ◌∙◌, subst, inl, inr}
use Rattle.std.specs.List.{All}
use Rattle.std.proofs.lemmas.List.Elements.{All-nil, All-cons, All-head, All-tail}
use Rattle.fourvec.specs.declared.Bit.{Bit}
use Rattle.fourvec.specs.declared.Bit.TheVariants.{Zero, One, Unknown, Floating}
use Rattle.settling.specs.Settling.{Store, Even}
use Rattle.goal_text.specs.Scopes.{claims_scope}
use Rattle.goal_tree.specs.declared.tree.GoalTree.{GoalTree}
use Rattle.sv_meaning.specs.Designs.{links_of}
use Rattle.sv_meaning.specs.Meanings.{truth}
use Rattle.sv_meaning.specs.Values.{mean}
use Rattle.sv_tree.specs.declared.exprs.Expr.{Expr}
use Rattle.svtv_runs.specs.Runs.{Run, IsRun, IsRunFrom}
use Rattle.svtv_runs.specs.Truths.{table_values}
use Rattle.svtv_runs.proofs.Runs.{least_run_stands, least_run_stands_from}
use Rattle.svtv_runs.proofs.Truths.{truths_last}
use Rattle.svtv_table.specs.declared.bound.Sample.{Sample}
use Rattle.svtv_periods.specs.Claims.{HoldsAt, HoldsIn}
use Rattle.svtv_periods.specs.Invariants.{IsInvariant}
use Rattle.svtv_periods.specs.Laws.{InvariantsHold}
use Rattle.svtv_periods.specs.Periods.{AreTurns, Course, IsCourse, IsTurn, last_of, none, further}
use Rattle.svtv_periods.proofs.Ends.{even_end, holds_alike, holds_at_end, last_append}

-- ---- what is not refuted is true

one_or_not : (b : Bit) → (b ≡ One) ⊎ (b ≡ One → ⊥)
one_or_not One = inl refl
one_or_not Zero = inr (λ e. cc)
one_or_not Unknown = inr (λ e. cc)
one_or_not Floating = inr (λ e. cc)

all_or_not : (f : Expr → Bit) (xs : List Expr) → All (λ x. f x ≡ One) xs ⊎ (All (λ x. f x ≡ One) xs → ⊥)
all_or_not f [] = inl (All-nil (λ x. f x ≡ One))
all_or_not f (x ∷ xs) = pick (one_or_not (f x)) (all_or_not f xs)
  where
    pick : (f x ≡ One) ⊎ (f x ≡ One → ⊥) → All (λ x. f x ≡ One) xs ⊎ (All (λ x. f x ≡ One) xs → ⊥) → All (λ x. f x ≡ One) (x ∷ xs) ⊎ (All (λ x. f x ≡ One) (x ∷ xs) → ⊥)
    pick (inl a) (inl b) = inl (All-cons (λ x. f x ≡ One) x xs a b)
    pick (inl a) (inr b) = inr (λ h. b (All-tail (λ x. f x ≡ One) x xs h))
    pick (inr a) b = inr (λ h. a (All-head (λ x. f x ≡ One) x xs h))

kept : (f : Expr → Bit) (xs : List Expr) → ((All (λ x. f x ≡ One) xs → ⊥) → ⊥) → All (λ x. f x ≡ One) xs
kept f xs h = pick (all_or_not f xs)
  where
    pick : All (λ x. f x ≡ One) xs ⊎ (All (λ x. f x ≡ One) xs → ⊥) → All (λ x. f x ≡ One) xs
    pick (inl a) = a
    pick (inr a) = absurd (h a)

holds_unless : (samples : List Sample) (goal : GoalTree) (r : Run) → ((HoldsIn samples goal r → ⊥) → ⊥) → HoldsIn samples goal r
holds_unless samples goal r h = kept (λ x. truth (mean (claims_scope [] samples) x) (table_values samples [] r)) goal.claims h

-- ---- the reset

base_holds : (c : Course) (goal : GoalTree) → IsCourse c → IsInvariant c goal → (choice : List (List Bit)) (first : Store) (start : List Store) → Even (links_of c.design.works) first
    → IsTurn c.design c.reset choice first start → HoldsAt c.period.samples goal (last_of first start)
base_holds c goal fit inv choice first start even t =
    let r : Run = record { first = first; later = start } in
    let run : IsRun c.design (c.reset.asked choice) c.reset.phases r = record { even = even; follows = t.follows; long = t.long } in
    let least = least_run_stands c.design (c.reset.asked choice) c.reset.phases (fit.apart choice) in
    let low : HoldsIn c.reset.samples goal least.0 = holds_unless c.reset.samples goal least.0 (λ no. inv.base choice (record { is = t.is; run = least.0; least = least.1; breaks = no })) in
    let high : HoldsIn c.reset.samples goal r = (λ i d l. truths_last [] c.reset.samples [] least.0 r (get_or goal.claims i d) (least.1.least r run) (low i d l)) in
    holds_alike c.reset.samples c.period.samples goal (last_of first start) fit.alike
    (holds_at_end c.reset.samples goal r (λ i d l. fit.at_end i d l ∙ sym t.long) high)

-- ---- a period

step_holds : (c : Course) (goal : GoalTree) → IsCourse c → IsInvariant c goal → (choice : List (List Bit)) (before : Store) (turn : List Store) → Even (links_of c.design.works) before
    → HoldsAt c.period.samples goal before → IsTurn c.design c.period choice before turn → HoldsAt c.period.samples goal (last_of before turn)
step_holds c goal fit inv choice before turn even h t =
    let r : Run = record { first = before; later = turn } in
    let run : IsRunFrom c.design (c.period.asked choice) c.period.phases before r = record { run = record { even = even; follows = t.follows; long = t.long }; begins = refl } in
    let least = least_run_stands_from c.design (c.period.asked choice) c.period.phases before (fit.period_apart choice) even in
    let low : HoldsIn c.period.samples goal least.0 = holds_unless c.period.samples goal least.0
    (λ no. inv.step choice before (record { is = t.is; even = even; before = h; run = least.0; least = least.1; breaks = no })) in
    let high : HoldsIn c.period.samples goal r = (λ i d l. truths_last [] c.period.samples [] least.0 r (get_or goal.claims i d) (least.1.least r run) (low i d l)) in
    holds_at_end c.period.samples goal r (λ i d l. fit.period_at_end i d l ∙ sym t.long) high

-- ---- all periods

turns_hold : (c : Course) (goal : GoalTree) → IsCourse c → IsInvariant c goal → (each : List (List (List Bit))) (from : Store) (vs : List Store) → Even (links_of c.design.works) from
    → HoldsAt c.period.samples goal from → AreTurns c.design c.period each from vs → HoldsAt c.period.samples goal (last_of from vs)
turns_hold c goal fit inv each from vs even h none = h
turns_hold c goal fit inv each from vs even h (further {choice} {choices} {turn} {rest} t turns is) =
    let next : HoldsAt c.period.samples goal (last_of from turn) = step_holds c goal fit inv choice from turn even h t in
    let end : HoldsAt c.period.samples goal (last_of (last_of from turn) rest) =
    turns_hold c goal fit inv choices (last_of from turn) rest (even_end c.design (c.period.asked choice) 0 from turn even t.follows) next turns in
    subst (λ (v : Store). HoldsAt c.period.samples goal v) (sym (ap (last_of from) is ∙ last_append from turn rest)) end

pub invariants_hold : InvariantsHold
invariants_hold c goal fit inv k choices vs long =
    let first = base_holds c goal fit inv choices.reset vs.first long.start long.even long.reset in
    let even = even_end c.design (c.reset.asked choices.reset) 0 vs.first long.start long.even long.reset.follows in
    subst (λ (v : Store). HoldsAt c.period.samples goal v) (sym (ap (last_of vs.first) long.all ∙ last_append vs.first long.start long.rest))
    (turns_hold c goal fit inv choices.periods (last_of vs.first long.start) long.rest even first long.periods)
