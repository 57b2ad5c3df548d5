-- What the variables are where the literals of a clause are false.
use Rattle.std.proofs.Common.{◌≡◌, ℕ, ◌<◌, ◌≤◌, Bool, true, false, not, nat_eq, cond, List, [], ◌∷◌, ◌++◌, length, get_or, take, Option, Some, None, sym, refl, ap, ◌∙◌, arith, drop, subst, ⊎_elim}
use mathlib.Core.Bool.{beq}
use mathlib.Core.Path.{fun_ext}
use Rattle.std.specs.List.{All, Contains}
use Rattle.std.proofs.lemmas.List.{take-append-drop}
use Rattle.std.proofs.lemmas.List.Elements.{All-push, All-nil, All-cons, All-contains, Contains-get_or, Contains-append_left, Contains-push_cases, Contains-append_right}
use Rattle.std.proofs.lemmas.Bool.{eqb-true, eqb-false, ne_eqb}
use Rattle.cnf.specs.declared.Dim.{Dim}
use Rattle.cnf.specs.Clauses.{negate, Valuation, all_open, assume, denied}
use Rattle.refute_check.specs.Accepted.{IsConsistent}

pub denied_push_some : (xs : List Dim) (d : Dim) (v : ℕ) (b : Bool) → denied xs v ≡ Some b → denied (xs ++ d ∷ []) v ≡ Some b
denied_push_some [] d v b h = cc
denied_push_some (x ∷ xs) d v b h =
    let P : Bool → Type 0 = λ t. cond t (Some x.negated) (denied xs v) ≡ Some b → cond t (Some x.negated) (denied (xs ++ d ∷ []) v) ≡ Some b in
    let at : (t : Bool) → P t = λ t. elim t as P [ true ↦ λ k. k | false ↦ λ k. denied_push_some xs d v b k ] in
    at (nat_eq v x.var) h

pub denied_push_none : (xs : List Dim) (d : Dim) (v : ℕ) → denied xs v ≡ None → denied (xs ++ d ∷ []) v ≡ cond (nat_eq v d.var) (Some d.negated) None
denied_push_none [] d v h = refl
denied_push_none (x ∷ xs) d v h =
    let P : Bool → Type 0 = λ t. cond t (Some x.negated) (denied xs v) ≡ None → cond t (Some x.negated) (denied (xs ++ d ∷ []) v) ≡ cond (nat_eq v d.var) (Some d.negated) None in
    let at : (t : Bool) → P t = λ t. elim t as P [ true ↦ λ k. cc | false ↦ λ k. denied_push_none xs d v k ] in
    at (nat_eq v x.var) h

Contains-cons : (x : Dim) (xs : List Dim) (d : Dim) → Contains xs d → Contains (x ∷ xs) d
Contains-cons x xs d h = Contains-append_right (x ∷ []) xs d h

pub dim_by : (d : Dim) (v : ℕ) (b : Bool) → d.var ≡ v → d.negated ≡ b → d ≡ record { var = v; negated = b }
dim_by d v b p q = ap (λ (p : ℕ × Bool). let r : Dim = record { var = p.0; negated = p.1 } in r) (let r : ◌≡◌ {A = ℕ × Bool} (d.var, d.negated) (v, b) = cc in r)

pub denied_contains : (xs : List Dim) (v : ℕ) (b : Bool) → denied xs v ≡ Some b → Contains xs (record { var = v; negated = b })
denied_contains [] v b h = cc
denied_contains (x ∷ xs) v b h =
    let P : Bool → Type 0 = λ t. nat_eq v x.var ≡ t → cond t (Some x.negated) (denied xs v) ≡ Some b → Contains (x ∷ xs) (record { var = v; negated = b }) in
    let at : (t : Bool) → P t = λ t. elim t as P [
      | true ↦ λ e k. let same : x ≡ record { var = v; negated = b } = dim_by x v b (sym (eqb-true v x.var e)) (cc) in (0, omega arith, same)
      | false ↦ λ e k. Contains-cons x xs _ (denied_contains xs v b k)
    ] in
    at (nat_eq v x.var) refl h

-- what the push leaves at each variable
denied_kept : (xs : List Dim) (d : Dim) → denied xs d.var ≡ Some d.negated → (v : ℕ) → denied xs v ≡ denied (xs ++ d ∷ []) v
denied_kept xs d e v =
    let P : Option Bool → Type 0 = λ o. denied xs v ≡ o → o ≡ denied (xs ++ d ∷ []) v in
    let at : (o : Option Bool) → P o = λ o. elim o as P [
      | None ↦ λ k. sym (denied_push_none xs d v k ∙ ap (λ t. cond t (Some d.negated) None) (ne_eqb v d.var (λ s. let k2 : denied xs d.var ≡ None = subst (λ (w : ℕ). denied xs w ≡ None) s k in cc)))
      | Some b ↦ λ k. sym (denied_push_some xs d v b k)
    ] in
    at (denied xs v) refl

denied_new : (xs : List Dim) (d : Dim) → denied xs d.var ≡ None → (v : ℕ) → cond (nat_eq v d.var) (Some d.negated) (denied xs v) ≡ denied (xs ++ d ∷ []) v
denied_new xs d e v =
    let P : Option Bool → Type 0 = λ o. denied xs v ≡ o → cond (nat_eq v d.var) (Some d.negated) o ≡ denied (xs ++ d ∷ []) v in
    let at : (o : Option Bool) → P o = λ o. elim o as P [
      | None ↦ λ k. sym (denied_push_none xs d v k)
      | Some b ↦ λ k. ap (λ t. cond t (Some d.negated) (Some b)) (ne_eqb v d.var (λ s. let k2 : denied xs d.var ≡ Some b = subst (λ (w : ℕ). denied xs w ≡ Some b) s k in cc)) ∙ sym (denied_push_some xs d v b k)
    ] in
    at (denied xs v) refl

pub other_sign : (v n : Bool) → not (beq v n) ≡ true → v ≡ not n
other_sign true true h = cc
other_sign true false h = refl
other_sign false true h = refl
other_sign false false h = cc

pub denied_none : (xs : List Dim) (v : ℕ) → denied xs v ≡ None → All (λ e. e.var ≡ v → ⊥) xs
denied_none [] v h = All-nil (λ e. e.var ≡ v → ⊥)
denied_none (x ∷ xs) v h =
    let P : Bool → Type 0 = λ t. nat_eq v x.var ≡ t → cond t (Some x.negated) (denied xs v) ≡ None → All (λ e. e.var ≡ v → ⊥) (x ∷ xs) in
    let at : (t : Bool) → P t = λ t. elim t as P [
      | true ↦ λ e k. cc
      | false ↦ λ e k. All-cons (λ e. e.var ≡ v → ⊥) x xs (λ s. eqb-false v x.var e (sym s)) (denied_none xs v k)
    ] in
    at (nat_eq v x.var) refl h

abbrev pub no_dim : Dim
no_dim = record { var = 0; negated = false }

Contains-take : (xs : List Dim) (i : ℕ) (d : Dim) → Contains (take i xs) d → Contains xs d
Contains-take xs i d h = rw (← take-append-drop i xs) (Contains-append_left (take i xs) (drop i xs) d h)

not_not : (b : Bool) → not (not b) ≡ b
not_not true = refl
not_not false = refl

pub negate_twice : (d : Dim) → negate (negate d) ≡ d
negate_twice d = dim_by (negate (negate d)) d.var d.negated refl (not_not d.negated)

own_negation : (d : Dim) → d ≡ negate d → ⊥
own_negation d h = let P : Bool → Type 0 = λ t. t ≡ not t → ⊥ in
    let at : (t : Bool) → P t = λ t. elim t as P [ true ↦ λ k. cc | false ↦ λ k. cc ] in at d.negated (ap (λ (e : Dim). e.negated) h)

consistent_push : (xs : List Dim) (d : Dim) → IsConsistent xs → (Contains xs (negate d) → ⊥) → IsConsistent (xs ++ d ∷ [])
consistent_push xs d h absent =
    let P : Dim → Type 0 = λ e. Contains (xs ++ d ∷ []) (negate e) → ⊥ in
    All-push P xs d
    (λ k e lt. λ c. ⊎_elim (h k e lt) (λ s. absent (subst (Contains xs) (sym (ap negate s ∙ negate_twice (get_or xs k e))) (Contains-get_or xs k e lt))) (Contains-push_cases xs d _ c))
    (λ c. ⊎_elim absent (own_negation d) (Contains-push_cases xs d _ c))

-- what is kept after i literals of the clause
pub record Denied (vars : ℕ) (a : Valuation) (xs : List Dim) : Type 0 where
  pub in_range : All (λ d. d.var < vars) xs
  pub consistent : IsConsistent xs
  pub values : a ≡ denied xs

pub denied_nil : (vars : ℕ) (a : Valuation) → a ≡ all_open → Denied vars a []
denied_nil vars a h = record { in_range = All-nil (λ (d : Dim). d.var < vars); consistent = All-nil (λ (d : Dim). Contains [] (negate d) → ⊥); values = h }

-- a literal whose variable has the value already
pub denied_again : (vars : ℕ) (a : Valuation) (xs : List Dim) (d : Dim) → d.var < vars → a d.var ≡ Some d.negated → Denied vars a xs → Denied vars a (xs ++ d ∷ [])
denied_again vars a xs d lt e h =
    let e2 : denied xs d.var ≡ Some d.negated = ap (λ (f : Valuation). f d.var) (sym h.values) ∙ e in
    record {
      in_range = All-push (λ (d : Dim). d.var < vars) xs d h.in_range lt;
      consistent = consistent_push xs d h.consistent (λ c. All-contains (λ d. Contains xs (negate d) → ⊥) xs d h.consistent (denied_contains xs d.var d.negated e2) c);
      values = h.values ∙ fun_ext (λ v. denied_kept xs d e2 v);
    }

-- a literal whose variable has no value yet
pub denied_more : (vars : ℕ) (a b : Valuation) (xs : List Dim) (d : Dim) → d.var < vars → a d.var ≡ None → b ≡ assume a (negate d) → Denied vars a xs → Denied vars b (xs ++ d ∷ [])
denied_more vars a b xs d lt e up h =
    let e2 : denied xs d.var ≡ None = ap (λ (f : Valuation). f d.var) (sym h.values) ∙ e in
    record {
      in_range = All-push (λ (d : Dim). d.var < vars) xs d h.in_range lt;
      consistent = consistent_push xs d h.consistent (λ c. All-contains (λ e. e.var ≡ d.var → ⊥) xs (negate d) (denied_none xs d.var e2) c refl);
      values = up ∙ ap (λ (n : Bool). λ v. cond (nat_eq v d.var) (Some n) (a v)) (not_not d.negated) ∙ ap (λ (f : Valuation). λ v. cond (nat_eq v d.var) (Some d.negated) (f v)) h.values ∙ fun_ext (λ v. denied_new xs d e2 v);
    }

-- a literal whose variable has the other value
pub denied_clash : (vars : ℕ) (a : Valuation) (front later all : List Dim) (d : Dim) (value : Bool) → front ++ d ∷ later ≡ all →
    a d.var ≡ Some value → not (beq value d.negated) ≡ true → Denied vars a front → IsConsistent all → ⊥
denied_clash vars a front later all d value whole e ne h consistent =
    let e2 : denied front d.var ≡ Some value = ap (λ (f : Valuation). f d.var) (sym h.values) ∙ e in
    let inside : Contains all d = subst (λ (l : List Dim). Contains l d) whole (Contains-append_right front (d ∷ later) d (0, omega arith, refl)) in
    let c : Contains all (record { var = d.var; negated = value }) =
    subst (λ (l : List Dim). Contains l (record { var = d.var; negated = value })) whole (Contains-append_left front (d ∷ later) _ (denied_contains front d.var value e2)) in
    All-contains (λ d. Contains all (negate d) → ⊥) all d consistent inside
    (subst (Contains all) (let s : ◌≡◌ {A = Dim} (record { var = d.var; negated = value }) (negate d) = ap (λ t. let r : Dim = record { var = d.var; negated = t } in r) (other_sign value d.negated ne) in s) c)

-- a literal whose variable is past the bound
pub range_clash : (vars : ℕ) (front later all : List Dim) (d : Dim) → front ++ d ∷ later ≡ all → vars ≤ d.var → All (λ d. d.var < vars) all → ⊥
range_clash vars front later all d whole le h =
    let inside : Contains all d = subst (λ (l : List Dim). Contains l d) whole (Contains-append_right front (d ∷ later) d (0, omega arith, refl)) in
    let lt : d.var < vars = All-contains (λ d. d.var < vars) all d h inside in
    omega arith
