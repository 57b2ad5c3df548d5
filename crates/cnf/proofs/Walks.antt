-- The walk over a clause, by one more literal.
use Rattle.std.proofs.Common.{◌≡◌, ℕ, ◌<◌, ◌≤◌, ◌+◌, ◌⊎◌, inl, inr, ⊎_elim, Bool, true, false, not, ◌&&◌, nat_eq, List, [], ◌∷◌, ◌++◌, length, get_or, take, drop, Option, Some, None, sym, refl, ap, ◌∙◌, arith, subst, drop-cons, add-one}
use Rattle.std.specs.List.{Contains}
use Rattle.std.specs.Bool.{OnTrue, OnFalse}
use mathlib.Core.Bool.{beq}
use Rattle.std.proofs.lemmas.List.{take_more, take-append-drop}
use Rattle.std.proofs.lemmas.Bool.{and_parts, and_from, eqb-true, eq-eqb, both_ways, OnTrue_from, OnFalse_from}
use Rattle.std.proofs.lemmas.Option.{same_Some, none-some}
use Rattle.std.proofs.lemmas.List.Elements.{All-push, All-weaker, All-contains, Contains-append_left, Contains-append_right, Contains-push}
use Rattle.cnf.specs.declared.Dim.{Dim}
use Rattle.cnf.specs.Clauses.{Valuation, IsOpen, IsFalsified, IsConflict, IsUnit}
use Rattle.cnf.specs.State.{IsNeither, Looked}

abbrev pub no_dim : Dim
no_dim = record { var = 0; negated = false }

pub looked_false : (a : Valuation) (xs : List Dim) (d : Dim) (o : Option Dim) → IsFalsified a d → Looked a xs o → Looked a (xs ++ d ∷ []) o
looked_false a xs d None f h = All-push (IsFalsified a) xs d h f
looked_false a xs d (Some e) f h = record {
  inside = Contains-append_left xs (d ∷ []) e h.inside;
  opened = h.opened;
  others = All-push (λ x. (x ≡ e) ⊎ IsFalsified a x) xs d h.others (inr f);
}

pub looked_open : (a : Valuation) (xs : List Dim) (d : Dim) → IsOpen a d → IsConflict a xs → IsUnit a (xs ++ d ∷ []) d
looked_open a xs d o h = record {
  inside = Contains-push xs d;
  opened = o;
  others = All-push (λ x. (x ≡ d) ⊎ IsFalsified a x) xs d (All-weaker (IsFalsified a) (λ x. (x ≡ d) ⊎ IsFalsified a x) (λ x f. inr f) xs h) (inl refl);
}

pub looked_again : (a : Valuation) (xs : List Dim) (d e : Dim) → d ≡ e → IsUnit a xs e → IsUnit a (xs ++ d ∷ []) e
looked_again a xs d e same h = record {
  inside = Contains-append_left xs (d ∷ []) e h.inside;
  opened = h.opened;
  others = All-push (λ x. (x ≡ e) ⊎ IsFalsified a x) xs d h.others (inl same);
}

pub same_bool : (v n : Bool) → not (beq v n) ≡ false → v ≡ n
same_bool true true h = refl
same_bool true false h = cc
same_bool false true h = cc
same_bool false false h = refl

beq_same : (v n : Bool) → beq v n ≡ true → v ≡ n
beq_same true true h = refl
beq_same true false h = cc
beq_same false true h = cc
beq_same false false h = refl

beq_self : (v : Bool) → beq v v ≡ true
beq_self true = refl
beq_self false = refl

beq_other : (v n : Bool) → beq v n ≡ false → v ≡ n → ⊥
beq_other v n h e = both_ways (beq v n) h (ap (λ t. beq v t) (sym e) ∙ beq_self v)

abbrev same_test : Dim → Dim → Bool
same_test e d = nat_eq e.var d.var && beq e.negated d.negated

same_dim : (d e : Dim) → same_test e d ≡ true → d ≡ e
same_dim d e h = let both = and_parts (nat_eq e.var d.var) (beq e.negated d.negated) h in
    let vars : d.var ≡ e.var = sym (eqb-true _ _ both.0) in
    let signs : d.negated ≡ e.negated = sym (beq_same e.negated d.negated both.1) in
    λ i. record { var = vars i; negated = signs i }

other_dim : (d e : Dim) → e ≡ d → same_test e d ≡ false → ⊥
other_dim d e s = subst (λ (y : Dim). same_test e y ≡ false → ⊥) s (λ k. both_ways (same_test e e) k (and_from (nat_eq e.var e.var) (beq e.negated e.negated) (eq-eqb e.var e.var refl) (beq_self e.negated)))

-- ---- a literal that has a value

pub value_on : (a : Valuation) (xs : List Dim) (d : Dim) (o : Option Dim) (v : Bool) → a d.var ≡ Some v → Looked a xs o → OnTrue (beq v d.negated) (Looked a (xs ++ d ∷ []) o)
value_on a xs d o v is h = OnTrue_from (beq v d.negated) (Looked a (xs ++ d ∷ []) o) (λ e. looked_false a xs d o (is ∙ ap Some (beq_same v d.negated e)) h)

has_it : (xs ys : List Dim) (d : Dim) → Contains (xs ++ d ∷ ys) d
has_it xs ys d = Contains-append_right xs (d ∷ ys) d (0, omega arith, refl)

pub value_over : (a : Valuation) (xs ys : List Dim) (d : Dim) (v : Bool) → a d.var ≡ Some v → OnFalse (beq v d.negated) (IsNeither a (xs ++ d ∷ ys))
value_over a xs ys d v is = OnFalse_from (beq v d.negated) (IsNeither a (xs ++ d ∷ ys)) (λ e.
    let other : IsFalsified a d → ⊥ = λ f. beq_other v d.negated e (same_Some v d.negated (sym is ∙ f)) in (
      λ f. other (All-contains (IsFalsified a) (xs ++ d ∷ ys) d f (has_it xs ys d)),
      λ x u. ⊎_elim
          (λ s. none-some v (sym u.opened ∙ ap (λ (y : Dim). a y.var) (sym s) ∙ is))
          other
          (All-contains (λ y. (y ≡ x) ⊎ IsFalsified a y) (xs ++ d ∷ ys) d u.others (has_it xs ys d)),
    ))

-- ---- an open literal where another one was

pub again_on : (a : Valuation) (xs : List Dim) (d e : Dim) → IsUnit a xs e → OnTrue (same_test e d) (IsUnit a (xs ++ d ∷ []) e)
again_on a xs d e h = OnTrue_from (same_test e d) (IsUnit a (xs ++ d ∷ []) e) (λ k. looked_again a xs d e (same_dim d e k) h)

open_not_false : (a : Valuation) (d : Dim) → IsOpen a d → IsFalsified a d → ⊥
open_not_false a d o f = none-some d.negated (sym o ∙ f)

pub again_over : (a : Valuation) (xs ys : List Dim) (d e : Dim) → a d.var ≡ None → IsUnit a xs e → OnFalse (same_test e d) (IsNeither a (xs ++ d ∷ ys))
again_over a xs ys d e o h = OnFalse_from (same_test e d) (IsNeither a (xs ++ d ∷ ys)) (λ k. (
  λ f. open_not_false a d o (All-contains (IsFalsified a) (xs ++ d ∷ ys) d f (has_it xs ys d)),
  λ x u.
      let P : Dim → Type 0 = λ y. (y ≡ x) ⊎ IsFalsified a y in
      let one : d ≡ x = ⊎_elim (λ s. s) (λ f. absurd (open_not_false a d o f)) (All-contains P (xs ++ d ∷ ys) d u.others (has_it xs ys d)) in
      let two : e ≡ x = ⊎_elim (λ s. s) (λ f. absurd (open_not_false a e h.opened f)) (All-contains P (xs ++ d ∷ ys) e u.others (Contains-append_left xs (d ∷ ys) e h.inside)) in
      other_dim d e (two ∙ sym one) k,
))

-- ---- the walk over a list

pub looked_more : (a : Valuation) (clause : List Dim) (i : ℕ) (found : Option Dim) → i < length clause →
    Looked a (take i clause ++ get_or clause i no_dim ∷ []) found → Looked a (take (i + 1) clause) found
looked_more a clause i found lt h = subst (λ (xs : List Dim). Looked a xs found) (sym (take_more clause i no_dim lt)) h

cut_at : (clause : List Dim) (i : ℕ) → i < length clause → take i clause ++ get_or clause i no_dim ∷ drop (i + 1) clause ≡ clause
cut_at clause i lt =
    let s : drop i clause ≡ get_or clause i no_dim ∷ drop (i + 1) clause = rw (add-one, drop-cons clause i no_dim) refl in
    ap (λ xs. take i clause ++ xs) (sym s) ∙ take-append-drop i clause

pub looked_over : (a : Valuation) (clause : List Dim) (i : ℕ) → i < length clause →
    IsNeither a (take i clause ++ get_or clause i no_dim ∷ drop (i + 1) clause) → IsNeither a clause
looked_over a clause i lt h = subst (IsNeither a) (cut_at clause i lt) h
