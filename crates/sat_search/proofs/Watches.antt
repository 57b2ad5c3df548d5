-- The invariant of the watches.
use Rattle.std.proofs.Common.{◌≡◌, ◌≢◌, ◌⊎◌, inl, inr, Bool, true, false, not, cond, List, [], get_or, Some, sym, refl, ap, ◌∙◌, subst, ⊎_elim}
use Rattle.std.specs.List.{Contains}
use Rattle.std.proofs.lemmas.Bool.{cases_eq, eq-eqb, ne_eqb}
use Rattle.std.proofs.lemmas.List.{get_or_default}
use Rattle.std.proofs.lemmas.List.Elements.{All-contains}
use Rattle.std.proofs.lemmas.Option.{same_Some, none-some}
use Rattle.cnf.specs.declared.Dim.{Dim}
use Rattle.cnf.specs.Clauses.{negate, Valuation, assume, IsFalsified, IsConflict, IsUnit}
use Rattle.refute_check.proofs.Denials.{dim_by}
use Rattle.sat_state.specs.Trail.{IsQuiet}
use Rattle.sat_search.specs.Learn.{IsBelow}
use Rattle.sat_state.specs.declared.watch.Pair.{Pair}
use Rattle.sat_state.specs.Watch.{AreFree, IsHalf, pair_at, IsCalm}

not_self : (b : Bool) → b ≡ not b → ⊥
not_self true h = cc
not_self false h = cc

pub twice : (b : Bool) → not (not b) ≡ b
twice true = refl
twice false = refl

true_not_false : (a : Valuation) (d : Dim) → a d.var ≡ Some (not d.negated) → IsFalsified a d → ⊥
true_not_false a d t f = not_self d.negated (same_Some _ _ (sym f ∙ t))

-- a clause with a true literal, or two that are not false, is neither false nor unit
half_quiet : (a : Valuation) (c : List Dim) (p : Pair) → IsHalf a a c p → (IsConflict a c → ⊥) × ((d : Dim) → IsUnit a c d → ⊥)
half_quiet a c p h = (
  λ f. ⊎_elim
      (λ t. true_not_false a t.0 t.2 (All-contains (IsFalsified a) c t.0 f t.1))
      (λ w. w.free_a (All-contains (IsFalsified a) c p.a f w.has_a)) h,
  λ d u. ⊎_elim
      (λ t. ⊎_elim
      (λ s. none-some (not t.0.negated) (sym (ap (λ (x : Dim). a x.var) s ∙ u.opened) ∙ t.2))
      (λ f. true_not_false a t.0 t.2 f)
      (All-contains (λ e. (e ≡ d) ⊎ IsFalsified a e) c t.0 u.others t.1))
      (λ w. ⊎_elim
      (λ s. ⊎_elim (λ q. w.apart (s ∙ sym q)) w.free_b (All-contains (λ e. (e ≡ d) ⊎ IsFalsified a e) c p.b u.others w.has_b))
      w.free_a
      (All-contains (λ e. (e ≡ d) ⊎ IsFalsified a e) c p.a u.others w.has_a)) h,
)

-- Where all that was assigned has been looked at, no clause is false or unit.
pub calm_quiet : (db : List (List Dim)) (pairs : List Pair) (a : Valuation) → IsCalm db pairs a → IsQuiet db a
calm_quiet db pairs a calm k d lt = half_quiet a (get_or db k d) (pair_at pairs k) (subst (λ (c : List Dim). IsHalf a a c (pair_at pairs k)) (get_or_default db k [] d lt) (calm k lt))

-- more literals are assigned
pub half_grow : (low high more : Valuation) (c : List Dim) (p : Pair) → IsBelow high more → IsHalf low high c p → IsHalf low more c p
half_grow low high more c p below h = ⊎_elim (λ t. inl (t.0, t.1, below t.0.var _ t.2)) (λ w. inr w) h

-- a false literal d is looked at, which is not watched here
still_free : (low next : Valuation) (d x : Dim) → next ≡ assume low (negate d) → x ≢ d → (IsFalsified low x → ⊥) → IsFalsified next x → ⊥
still_free low next d x is ne free f = ⊎_elim
    (λ s. let k : Some (not (not d.negated)) ≡ Some x.negated = sym (ap (λ (a : Valuation). a x.var) is ∙ ap (λ t. cond t (Some (not (not d.negated))) (low x.var)) (eq-eqb x.var d.var s)) ∙ f in
    ne (dim_by x d.var d.negated s (sym (same_Some _ _ k) ∙ twice d.negated)))
    (λ other. free (sym (ap (λ (a : Valuation). a x.var) is ∙ ap (λ t. cond t (Some (not (not d.negated))) (low x.var)) (ne_eqb x.var d.var other)) ∙ f))
    (cases_eq x.var d.var)

pub half_next : (low next high : Valuation) (d : Dim) (c : List Dim) (p : Pair) → next ≡ assume low (negate d) → p.a ≢ d → p.b ≢ d → IsHalf low high c p → IsHalf next high c p
half_next low next high d c p is na nb h = ⊎_elim (λ t. inl t)
    (λ w. inr (record { has_a = w.has_a; has_b = w.has_b; apart = w.apart; free_a = still_free low next d p.a is na w.free_a; free_b = still_free low next d p.b is nb w.free_b })) h

moved_free : (low next high : Valuation) (d x o : Dim) (c : List Dim) (p : Pair) → next ≡ assume low (negate d) → IsBelow next high → ((p.a ≡ d) × (p.b ≡ o)) ⊎ ((p.a ≡ o) × (p.b ≡ d)) →
    Contains c x → x ≢ o → (IsFalsified high x → ⊥) → AreFree low c p → AreFree next c (record { a = o; b = x })
moved_free low next high d x o c p is below which cx ne free w = ⊎_elim
    (λ q. record {
      has_a = subst (Contains c) q.1 w.has_b;
      has_b = cx;
      apart = λ s. ne (sym s);
      free_a = still_free low next d o is (λ s. w.apart (q.0 ∙ sym s ∙ sym q.1)) (subst (λ (y : Dim). IsFalsified low y → ⊥) q.1 w.free_b);
      free_b = λ f. free (below x.var x.negated f);
    })
    (λ q. record {
      has_a = subst (Contains c) q.0 w.has_a;
      has_b = cx;
      apart = λ s. ne (sym s);
      free_a = still_free low next d o is (λ s. w.apart (q.0 ∙ s ∙ sym q.1)) (subst (λ (y : Dim). IsFalsified low y → ⊥) q.0 w.free_a);
      free_b = λ f. free (below x.var x.negated f);
    })
    which

-- a false literal d is looked at, and the watch on it goes to x
pub half_moved : (low next high : Valuation) (d x o : Dim) (c : List Dim) (p : Pair) → next ≡ assume low (negate d) → IsBelow next high → ((p.a ≡ d) × (p.b ≡ o)) ⊎ ((p.a ≡ o) × (p.b ≡ d)) →
    Contains c x → x ≢ o → (IsFalsified high x → ⊥) → IsHalf low high c p → IsHalf next high c (record { a = o; b = x })
half_moved low next high d x o c p is below which cx ne free h = ⊎_elim (λ t. inl t)
    (λ w. inr (moved_free low next high d x o c p is below which cx ne free w)) h

-- at a decision below, the move keeps what was
calm_moved : (a high : Valuation) (x o : Dim) (c : List Dim) (p : Pair) → IsBelow a high → (p.a ≡ o) ⊎ (p.b ≡ o) → Contains c x → x ≢ o → (IsFalsified high x → ⊥) →
    IsHalf a a c p → IsHalf a a c (record { a = o; b = x })
calm_moved a high x o c p below which cx ne free h = ⊎_elim (λ t. inl t)
    (λ w. inr (⊎_elim
    (λ q. record { has_a = subst (Contains c) q w.has_a; has_b = cx; apart = λ s. ne (sym s); free_a = subst (λ (y : Dim). IsFalsified a y → ⊥) q w.free_a; free_b = λ f. free (below x.var x.negated f) })
    (λ q. record { has_a = subst (Contains c) q w.has_b; has_b = cx; apart = λ s. ne (sym s); free_a = subst (λ (y : Dim). IsFalsified a y → ⊥) q w.free_b; free_b = λ f. free (below x.var x.negated f) })
    which)) h
