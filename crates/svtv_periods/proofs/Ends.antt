-- Last valuations, and what is true in them.
use Rattle.std.proofs.Common.{◌≡◌, ℕ, zero, suc, List, [], ◌∷◌, ◌++◌, map, length, get_or, refl, sym, ap, ◌∙◌, subst, arith}
use Rattle.std.specs.Prelude.{Option, None, Some, slice_get}
use Rattle.std.specs.List.{All}
use Rattle.std.proofs.lemmas.Option.{get_or_from_slice_get, slice_get_within}
use Rattle.fourvec.specs.declared.Bit.{Bit}
use Rattle.fourvec.specs.declared.Bit.TheVariants.{One, Unknown}
use Rattle.settling.specs.Settling.{Store, Even}
use Rattle.goal_text.specs.Scopes.{Vector, claims_scope, sample_vector, variable_entries, vectors_from}
use Rattle.goal_tree.specs.declared.tree.GoalTree.{GoalTree}
use Rattle.sv_meaning.specs.Designs.{Design, links_of}
use Rattle.sv_meaning.specs.Layouts.{Read, Scope, Origin, of_wires, of_choice, of_samples, scope_of}
use Rattle.sv_meaning.specs.Meanings.{truth}
use Rattle.sv_meaning.specs.Values.{mean}
use Rattle.svtv_runs.specs.Runs.{Asked, Run, Follows}
use Rattle.svtv_runs.specs.Truths.{no_store, sampled, table_values}
use Rattle.svtv_table.specs.declared.bound.Sample.{Sample}
use Rattle.svtv_periods.specs.Claims.{HoldsAt, HoldsIn, signal_bit, signal_values}
use Rattle.svtv_periods.specs.Periods.{AreAlike, Sampling, end_of, last_of, sampling}

-- ---- last valuations

pub last_append : (before : Store) (xs ys : List Store) → last_of before (xs ++ ys) ≡ last_of (last_of before xs) ys
last_append before [] ys = refl
last_append before (x ∷ xs) ys = last_append x xs ys

last_is : (before : Store) (xs : List Store) (p : ℕ) → suc p ≡ length xs → get_or xs p no_store ≡ last_of before xs
last_is before [] p e = absurd (omega (arith, e))
last_is before (x ∷ []) zero e = refl
last_is before (x ∷ []) (suc p) e = absurd (omega (arith, e))
last_is before (x ∷ y ∷ xs) zero e = absurd (omega (arith, e))
last_is before (x ∷ y ∷ xs) (suc p) e = last_is x (y ∷ xs) p (omega (arith, e))

pub even_end : (d : Design) (a : Asked) (phase : ℕ) (before : Store) (vs : List Store) → Even (links_of d.works) before → Follows d a phase before vs → Even (links_of d.works) (last_of before vs)
even_end d a phase before [] e h = e
even_end d a phase before (v ∷ vs) e h = even_end d a (suc phase) v vs h.0.4.0 h.1

-- ---- what is read in them

at_end : (samples : List Sample) (r : Run) → All (λ (x : Sample). suc x.phase ≡ length r.later) samples → (n k : ℕ) → sampled r (slice_get samples n) k ≡ signal_bit (end_of r) (slice_get samples n) k
at_end samples r h n k = go (slice_get samples n) refl
  where
    go : (o : Option Sample) → slice_get samples n ≡ o → sampled r o k ≡ signal_bit (end_of r) o k
    go None e = refl
    go (Some x) e =
        let is : get_or samples n x ≡ x = get_or_from_slice_get samples n x x e in
        let p : suc x.phase ≡ length r.later = subst (λ (y : Sample). suc y.phase ≡ length r.later) is (h n x (slice_get_within samples n x e)) in
        ap (λ (v : Store). v x.wire k) (last_is r.first r.later x.phase p)

values_at_end : (samples : List Sample) (r : Run) → All (λ (x : Sample). suc x.phase ≡ length r.later) samples → (o : Origin) (n k : ℕ) → table_values samples [] r o n k ≡ signal_values samples (end_of r) o n k
values_at_end samples r h of_wires n k = refl
values_at_end samples r h of_choice n k = refl
values_at_end samples r h of_samples n k = at_end samples r h n k

-- what is true in a run that samples its last valuation is true there
pub holds_at_end : (samples : List Sample) (goal : GoalTree) (r : Run) → All (λ (x : Sample). suc x.phase ≡ length r.later) samples → HoldsIn samples goal r → HoldsAt samples goal (end_of r)
holds_at_end samples goal r h t =
    let same : table_values samples [] r ≡ signal_values samples (end_of r) = λ i o n k. values_at_end samples r h o n k i in
    λ i d l. subst (λ (f : Read). truth (mean (claims_scope [] samples) (get_or goal.claims i d)) f ≡ One) same (t i d l)

-- ---- samples of the same signals

vectors_of : (xs : List Sample) → map sample_vector xs ≡ map (λ (s : Sampling). (s.name, s.width)) (map sampling xs)
vectors_of [] = refl
vectors_of (x ∷ xs) = ap (λ (vs : List Vector). sample_vector x ∷ vs) (vectors_of xs)

-- they have one list of names and widths
pub vectors_alike : (xs ys : List Sample) → AreAlike xs ys → map sample_vector xs ≡ map sample_vector ys
vectors_alike xs ys h = vectors_of xs ∙ ap (map (λ (s : Sampling). (s.name, s.width))) h ∙ sym (vectors_of ys)

-- so claims over them name the same
pub scopes_alike : (xs ys : List Sample) → AreAlike xs ys → claims_scope [] xs ≡ claims_scope [] ys
scopes_alike xs ys h = ap (λ (vs : List Vector). scope_of (variable_entries [] ++ vectors_from of_samples 0 vs)) (vectors_alike xs ys h)

wire_bit : Store → Option Sampling → ℕ → Bit
wire_bit v None k = Unknown
wire_bit v (Some s) k = v s.wire k

bit_of : (v : Store) (xs : List Sample) (n k : ℕ) → signal_bit v (slice_get xs n) k ≡ wire_bit v (slice_get (map sampling xs) n) k
unfolding wire_bit
bit_of v [] n k = refl
bit_of v (x ∷ xs) zero k = refl
bit_of v (x ∷ xs) (suc n) k = bit_of v xs n k

values_alike : (xs ys : List Sample) (v : Store) → AreAlike xs ys → (o : Origin) (n k : ℕ) → signal_values xs v o n k ≡ signal_values ys v o n k
values_alike xs ys v h of_wires n k = refl
values_alike xs ys v h of_choice n k = refl
values_alike xs ys v h of_samples n k = bit_of v xs n k ∙ ap (λ (all : List Sampling). wire_bit v (slice_get all n) k) h ∙ sym (bit_of v ys n k)

pub holds_alike : (xs ys : List Sample) (goal : GoalTree) (v : Store) → AreAlike xs ys → HoldsAt xs goal v → HoldsAt ys goal v
holds_alike xs ys goal v h t =
    let same : signal_values xs v ≡ signal_values ys v = λ i o n k. values_alike xs ys v h o n k i in
    λ i d l. subst (λ (f : Read). truth (mean (claims_scope [] ys) (get_or goal.claims i d)) f ≡ One) same
    (subst (λ (at : Scope). truth (mean at (get_or goal.claims i d)) (signal_values xs v) ≡ One) (scopes_alike xs ys h) (t i d l))
