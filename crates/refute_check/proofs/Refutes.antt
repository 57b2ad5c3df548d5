-- An accepted log refutes the clauses.
use Rattle.std.proofs.Common.{◌≡◌, ℕ, ◌<◌, ◌⊎◌, inl, inr, suc, zero, Bool, true, false, not, nat_eq, cond, List, [], ◌∷◌, length, get_or, map, take, Some, sym, refl, ◌∙◌, arith, subst, ⊎_elim, length-take-le}
use Rattle.std.specs.List.{Contains}
use Rattle.std.proofs.lemmas.Bool.{eqb-true}
use Rattle.std.proofs.lemmas.List.{get_or-take, get_or_default}
use Rattle.std.proofs.lemmas.List.Elements.{All-contains, All-append, All-map, All-get_or, Contains-append_right, Contains-append_cases}
use Rattle.cnf.specs.declared.Dim.{Dim}
use Rattle.cnf.specs.Formula.{Formula}
use Rattle.cnf.specs.Clauses.{Holds, ClauseHolds, Solves, HasNoSolution, Valuation, assume, denied, IsFalsified, IsConflict, IsUnit}
use Rattle.refute_check.specs.Entry.{Entry, no_entry}
use Rattle.refute_check.specs.Accepted.{Derives, IsDerived, entry_at, known, IsDerivedAt, IsAccepted}
use Rattle.refute_check.proofs.Denials.{denied_contains}

-- the values so far are those of v
abbrev Agrees : (ℕ → Bool) → Valuation → Type 0
Agrees v a = (w : ℕ) (b : Bool) → a w ≡ Some b → v w ≡ b

not_self : (b : Bool) → b ≡ not b → ⊥
not_self true h = cc
not_self false h = cc

contains_cons : (x : Dim) (xs : List Dim) (d : Dim) → Contains xs d → Contains (x ∷ xs) d
contains_cons x xs d h = Contains-append_right (x ∷ []) xs d h

by_sign : (a b : Bool) → (a ≡ not b) ⊎ (a ≡ b)
by_sign true true = inr refl
by_sign true false = inl refl
by_sign false true = inl refl
by_sign false false = inr refl

one_contains : (x d : Dim) → Contains (x ∷ []) d → x ≡ d
one_contains x d h = let l : h.0 < 1 = h.1 in let z : h.0 ≡ 0 = omega arith in subst (λ (k : ℕ). get_or (x ∷ []) k d ≡ d) z h.2

holds_at : (v : ℕ → Bool) (d : Dim) → Holds v d ⊎ (v d.var ≡ d.negated)
holds_at v d = by_sign (v d.var) d.negated

fails_cons : (v : ℕ → Bool) (x : Dim) (c : List Dim) → v x.var ≡ x.negated → ((d : Dim) → Contains c d → v d.var ≡ d.negated) → (d : Dim) → Contains (x ∷ c) d → v d.var ≡ d.negated
fails_cons v x c h f d k = ⊎_elim
    (λ here. let e : x ≡ d = one_contains x d here in subst (λ (y : Dim). v y.var ≡ y.negated) e h)
    (λ later. f d later) (Contains-append_cases (x ∷ []) c d k)

-- a literal that is false so far does not hold
false_fails : (v : ℕ → Bool) (a : Valuation) (d : Dim) → Agrees v a → IsFalsified a d → Holds v d → ⊥
false_fails v a d agrees f h = let e : v d.var ≡ d.negated = agrees d.var d.negated f in not_self d.negated (sym e ∙ h)

conflict_fails : (v : ℕ → Bool) (a : Valuation) (c : List Dim) → Agrees v a → IsConflict a c → ClauseHolds v c → ⊥
conflict_fails v a c agrees f h = false_fails v a h.0 agrees (All-contains (IsFalsified a) c h.0 f h.1) h.2

-- the open literal of a clause that holds holds
unit_holds : (v : ℕ → Bool) (a : Valuation) (c : List Dim) (d : Dim) → Agrees v a → IsUnit a c d → ClauseHolds v c → Holds v d
unit_holds v a c d agrees u h = ⊎_elim (λ s. subst (Holds v) s h.2) (λ f. absurd (false_fails v a h.0 agrees f h.2))
    (All-contains (λ e. (e ≡ d) ⊎ IsFalsified a e) c h.0 u.others h.1)

assume_agrees : (v : ℕ → Bool) (a : Valuation) (d : Dim) → Agrees v a → Holds v d → Agrees v (assume a d)
assume_agrees v a d agrees h w b e =
    let P : Bool → Type 0 = λ t. nat_eq w d.var ≡ t → cond t (Some (not d.negated)) (a w) ≡ Some b → v w ≡ b in
    let at : (t : Bool) → P t = λ t. elim t as P [
      | true ↦ λ k f. let same : w ≡ d.var = eqb-true w d.var k in let f2 : not d.negated ≡ b = cc in rw same (h ∙ f2)
      | false ↦ λ k f. agrees w b f
    ] in
    at (nat_eq w d.var) refl e

derives_fails : (v : ℕ → Bool) (db : List (List Dim)) (hints : List ℕ) (a : Valuation) → Solves v db → Agrees v a → Derives db a hints → ⊥
derives_fails v db [] a s agrees h = h
derives_fails v db (i ∷ []) a s agrees h = conflict_fails v a _ agrees h.1 (All-get_or (ClauseHolds v) db i [] h.0 s)
derives_fails v db (i ∷ j ∷ js) a s agrees h =
    derives_fails v db (j ∷ js) (assume a h.1) s (assume_agrees v a h.1 agrees (unit_holds v a _ h.1 agrees h.2 (All-get_or (ClauseHolds v) db i [] h.0 s))) h.3

-- a clause holds, or each of its literals fails
pub holds_or_not : (v : ℕ → Bool) (c : List Dim) → ClauseHolds v c ⊎ ((d : Dim) → Contains c d → v d.var ≡ d.negated)
holds_or_not v [] = inr (λ d h. absurd (omega (arith, h.1)))
holds_or_not v (x ∷ c) = ⊎_elim
    (λ e. inl (x, (0, omega arith, refl), e))
    (λ ne. ⊎_elim (λ h. inl (h.0, contains_cons x c h.0 h.1, h.2)) (λ none. inr (fails_cons v x c ne none)) (holds_or_not v c))
    (holds_at v x)

derived_holds : (v : ℕ → Bool) (vars : ℕ) (db : List (List Dim)) (s : Entry) → Solves v db → IsDerived vars db s → ClauseHolds v s.clause
derived_holds v vars db s solves d = ⊎_elim (λ h. h)
    (λ fails. absurd (derives_fails v db s.hints (denied s.clause) solves (λ w b e. fails (record { var = w; negated = b }) (denied_contains s.clause w b e)) d.derives))
    (holds_or_not v s.clause)

-- the clause of each step that follows holds, by the number of the step
steps_hold : (v : ℕ → Bool) (formula : Formula) (log : List Entry) → Solves v formula.clauses → ((j : ℕ) → j < length log → IsDerivedAt formula log j) →
    (n : ℕ) → (k : ℕ) → k < n → k < length log → ClauseHolds v (entry_at log k).clause
steps_hold v formula log solves derived zero k lt kl = absurd (omega arith)
steps_hold v formula log solves derived (suc n) k lt kl =
    derived_holds v formula.vars (known formula log k) (entry_at log k)
    (All-append (ClauseHolds v) formula.clauses (map (λ s. s.clause) (take k log)) solves
    (All-map (ClauseHolds v) (λ s. s.clause) (take k log) (λ j e jt.
    let len : length (take k log) ≡ k = length-take-le k log (omega arith) in
    let jk : j < k = omega arith in
    let jl : j < length log = omega arith in
    rw (get_or-take k log j e jk) (subst (λ (s : Entry). ClauseHolds v s.clause) (get_or_default log j no_entry e jl)
    (steps_hold v formula log solves derived n j (omega arith) jl)))))
    (derived k kl)

-- no values make all clauses true
pub accepted_refutes : (formula : Formula) (log : List Entry) → IsAccepted formula log → HasNoSolution formula.clauses
accepted_refutes formula log h v solves =
    let k : ℕ = h.empty.0 in
    let holds : ClauseHolds v (entry_at log k).clause = steps_hold v formula log solves h.derived (suc k) k (omega arith) h.empty.1 in
    let none : ClauseHolds v [] = subst (ClauseHolds v) h.empty.2 holds in
    let lt : none.1.0 < 0 = none.1.1 in omega arith
