-- What stands against goals, one after the other.
use Rattle.std.proofs.Common.{◌≡◌, ℕ, ◌+◌, ◌<◌, ◌≤◌, Bool, true, false, List, [], ◌∷◌, ◌++◌, length, take, drop, get_or, map, Result, Ok, Err, IfErr, refl, sym, ap, ◌∙◌, subst, arith}
use Rattle.std.specs.Result.{IsErrAnd}
use Rattle.std.proofs.lemmas.List.Elements.{Contains-append_left, Contains-append_right}
use Rattle.sv_outside.specs.declared.refusal.Place.{Place}
use Rattle.sv_outside.specs.declared.refusal.TextErr.{TextErr}
use Rattle.sv_outside.specs.declared.refusal.TextErr.TheVariants.{No, Memory}
use Rattle.sv_meaning.specs.Faults.{Faults, fault_if}
use Rattle.sv_meaning.specs.Layouts.{Name, Scope}
use Rattle.sv_meaning.specs.Meanings.{free_faults}
use Rattle.sv_meaning.specs.Values.{mean}
use Rattle.sv_modules.specs.Naming.{holds, Holds, Adds}
use Rattle.sv_modules.specs.declared.name_set.NameSet.{NameSet}
use Rattle.sv_modules.proofs.Sets.{holds_more}
use Rattle.sv_modules.proofs.Turns.{drop_next, drop_none, map_next}
use Rattle.sv_typing.specs.Judging.{IsCause}
use Rattle.sv_tree.specs.declared.exprs.Expr.{Expr}
use Rattle.goal_tree.specs.declared.tree.GoalTree.{GoalTree}
use Rattle.goal_text.specs.Faults.{exprs_faults, goals_faults, tree_faults, twice_goal}

pub cause_left : (a b : Faults) (e : TextErr) → IsCause a e → IsCause (a ++ b) e
cause_left a b (No r) h = Contains-append_left a b r h
cause_left a b Memory h = tt

pub cause_right : (a b : Faults) (e : TextErr) → IsCause b e → IsCause (a ++ b) e
cause_right a b (No r) h = Contains-append_right a b r h
cause_right a b Memory h = tt

-- what `?` hands on
pub cause_handed : {A : Type 0} (r : Result A TextErr) (e : TextErr) (P : TextErr → Type 0) → IsErrAnd r (λ y. y ≡ e) → P e → IfErr r P
cause_handed (Ok x) e P h p = tt
cause_handed (Err y) e P h p = subst P (sym h) p

pub twice : (b : Bool) (p : Place) → b ≡ true → IsCause (fault_if b twice_goal p) (No (record { number = 34; place = p; count = 0 }))
twice true p e = (0, omega arith, refl)
twice false p e = absurd (cc)

clear_both : (a b : Faults) → a ≡ [] → b ≡ [] → a ++ b ≡ []
clear_both a b e f = ap (λ l. l ++ b) e ∙ f

-- ---- expressions

module _ (at : Scope) (whole : Faults) (all : List Expr) (i : ℕ) where
  exprs_here : (x : Expr) → i < length all → x ≡ get_or all i x → whole ≡ exprs_faults at (drop i all) → whole ≡ free_faults (mean at x) ++ exprs_faults at (drop (i + 1) all)
  unfolding exprs_faults
  exprs_here x lt is h = h ∙ ap (exprs_faults at) (drop_next all i x lt is)

  pub exprs_next : (x : Expr) → i < length all → x ≡ get_or all i x → free_faults (mean at x) ≡ [] → whole ≡ exprs_faults at (drop i all) → whole ≡ exprs_faults at (drop (i + 1) all)
  exprs_next x lt is clear h = exprs_here x lt is h ∙ ap (λ l. l ++ exprs_faults at (drop (i + 1) all)) clear

  pub exprs_refused : (x : Expr) (e : TextErr) → i < length all → x ≡ get_or all i x → whole ≡ exprs_faults at (drop i all) → IsCause (free_faults (mean at x)) e → IsCause whole e
  exprs_refused x e lt is h c = subst (λ l. IsCause l e) (sym (exprs_here x lt is h)) (cause_left (free_faults (mean at x)) (exprs_faults at (drop (i + 1) all)) e c)

  pub exprs_end : length all ≤ i → whole ≡ exprs_faults at (drop i all) → whole ≡ []
  unfolding exprs_faults
  exprs_end le h = h ∙ ap (exprs_faults at) (drop_none all i le)

-- ---- one goal

module _ (taken : Bool) (hyps claims : Scope) (g : GoalTree) where
  pub tree_clear : fault_if taken twice_goal g.name.place ≡ [] → exprs_faults hyps g.hyps ≡ [] → exprs_faults claims g.claims ≡ [] → tree_faults taken hyps claims g ≡ []
  tree_clear a b c = clear_both (fault_if taken twice_goal g.name.place) (exprs_faults hyps g.hyps ++ exprs_faults claims g.claims) a (clear_both (exprs_faults hyps g.hyps) (exprs_faults claims g.claims) b c)

  pub tree_twice : (e : TextErr) → IsCause (fault_if taken twice_goal g.name.place) e → IsCause (tree_faults taken hyps claims g) e
  tree_twice e h = cause_left (fault_if taken twice_goal g.name.place) (exprs_faults hyps g.hyps ++ exprs_faults claims g.claims) e h

  pub tree_hyp : (e : TextErr) → IsCause (exprs_faults hyps g.hyps) e → IsCause (tree_faults taken hyps claims g) e
  tree_hyp e h =
      cause_right (fault_if taken twice_goal g.name.place) (exprs_faults hyps g.hyps ++ exprs_faults claims g.claims) e (cause_left (exprs_faults hyps g.hyps) (exprs_faults claims g.claims) e h)

  pub tree_claim : (e : TextErr) → IsCause (exprs_faults claims g.claims) e → IsCause (tree_faults taken hyps claims g) e
  tree_claim e h =
      cause_right (fault_if taken twice_goal g.name.place) (exprs_faults hyps g.hyps ++ exprs_faults claims g.claims) e (cause_right (exprs_faults hyps g.hyps) (exprs_faults claims g.claims) e h)

-- ---- goals

abbrev pub names_of : List GoalTree → List Name
names_of trees = map (λ g. g.name.text) trees

module _ (hyps claims : Scope) (whole : Faults) (all : List GoalTree) (i : ℕ) (names : NameSet) where
  abbrev pub Rest : ℕ → Type 0
  Rest j = whole ≡ goals_faults (names_of (take j all)) hyps claims (drop j all)

  goals_here : (g : GoalTree) → i < length all → g ≡ get_or all i g → Holds names (names_of (take i all)) → Rest i
      → whole ≡ tree_faults (holds names g.name.text) hyps claims g ++ goals_faults (names_of (take (i + 1) all)) hyps claims (drop (i + 1) all)
  unfolding goals_faults
  goals_here g lt is used h =
      h ∙ ap (goals_faults (names_of (take i all)) hyps claims) (drop_next all i g lt is)
      ∙ ap (λ b. tree_faults b hyps claims g ++ goals_faults (names_of (take i all) ++ g.name.text ∷ []) hyps claims (drop (i + 1) all)) (sym (used g.name.text))
      ∙ ap (λ l. tree_faults (holds names g.name.text) hyps claims g ++ goals_faults l hyps claims (drop (i + 1) all)) (sym (map_next (λ (g : GoalTree). g.name.text) all i g lt is))

  pub goals_next : (g : GoalTree) → i < length all → g ≡ get_or all i g → Holds names (names_of (take i all)) → tree_faults (holds names g.name.text) hyps claims g ≡ [] → Rest i → Rest (i + 1)
  goals_next g lt is used clear h = goals_here g lt is used h ∙ ap (λ l. l ++ goals_faults (names_of (take (i + 1) all)) hyps claims (drop (i + 1) all)) clear

  pub goals_refused : (g : GoalTree) (e : TextErr) → i < length all → g ≡ get_or all i g → Holds names (names_of (take i all)) → Rest i
      → IsCause (tree_faults (holds names g.name.text) hyps claims g) e → IsCause whole e
  goals_refused g e lt is used h c =
      subst (λ l. IsCause l e) (sym (goals_here g lt is used h)) (cause_left (tree_faults (holds names g.name.text) hyps claims g) (goals_faults (names_of (take (i + 1) all)) hyps claims (drop (i + 1) all)) e c)

  pub goals_end : length all ≤ i → Rest i → whole ≡ []
  unfolding goals_faults
  goals_end le h = h ∙ ap (goals_faults (names_of (take i all)) hyps claims) (drop_none all i le)

  pub goals_used : (later : NameSet) (g : GoalTree) → i < length all → g ≡ get_or all i g → Holds names (names_of (take i all)) → Adds names (g.name.text ∷ []) later → Holds later (names_of (take (i + 1) all))
  goals_used later g lt is used adds =
      subst (Holds later) (sym (map_next (λ (g : GoalTree). g.name.text) all i g lt is)) (holds_more names later (names_of (take i all)) (g.name.text ∷ []) used adds)
