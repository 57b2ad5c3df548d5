-- One watch list after another is worked off: what is still to be looked at.
use Rattle.std.proofs.Common.{◌≡◌, ◌≢◌, ℕ, ◌<◌, ◌≤◌, ◌+◌, ◌⊎◌, inl, inr, Bool, not, nat_eq, cond, List, [], ◌∷◌, ◌++◌, length, get_or, set, take, drop, reverse, Option, Some, None, sym, refl, ap, ◌∙◌, arith, subst, ⊎_elim, get_or-set_same, get_or-set_other, drop-cons, add-one, length-append}
use Rattle.std.specs.List.{Contains}
use Rattle.std.proofs.lemmas.Bool.{cases_eq, ne_eqb, eq-eqb}
use Rattle.std.proofs.lemmas.Option.{none-some}
use Rattle.std.proofs.lemmas.List.{take_more, take-append-drop, take-append-le, reverse-append}
use Rattle.std.proofs.lemmas.List.Elements.{Contains-append_cases}
use Rattle.cnf.specs.declared.Dim.{Dim}
use Rattle.cnf.specs.Clauses.{negate, Valuation, valuation, denied, assume, IsFalsified, IsUnit}
use Rattle.refute_check.specs.Accepted.{clause_at}
use Rattle.sat_state.specs.declared.trail.Assigned.{Assigned}
use Rattle.sat_state.specs.Trail.{dims, falses, Tracks, IsApart}
use Rattle.sat_state.proofs.Trails.{newest_push}
use Rattle.sat_search.proofs.Steps.{trail_range}
use Rattle.sat_search.specs.Learn.{IsBelow}
use Rattle.sat_state.specs.declared.watch.Pair.{Pair}
use Rattle.sat_state.specs.Watch.{HasTrue, IsHalf, pair_at, no_pair, WasCalm, IsMove, Rest}
use Rattle.sat_search.proofs.Watches.{half_grow, half_next, half_moved, twice}

pub one_in : (x k : ℕ) → Contains (x ∷ []) k → x ≡ k
one_in x k h = let l : h.0 < 1 = h.1 in let z : h.0 ≡ 0 = omega arith in subst (λ (i : ℕ). get_or (x ∷ []) i k ≡ k) z h.2

-- the first of the list is done
rest_done : (db : List (List Dim)) (pairs : List Pair) (low next high : Valuation) (k0 : ℕ) (left : List ℕ) → Rest db pairs low next high (k0 ∷ left) →
    IsHalf next high (clause_at db k0) (pair_at pairs k0) → Rest db pairs low next high left
rest_done db pairs low next high k0 left rest done k lt = ⊎_elim (λ h. inl h)
    (λ p. ⊎_elim
    (λ first. inl (subst (λ (j : ℕ). IsHalf next high (clause_at db j) (pair_at pairs j)) (one_in k0 k first) done))
    (λ later. inr (p.0, later))
    (Contains-append_cases (k0 ∷ []) left k p.1))
    (rest k lt)

-- it may be kept as it is
pub rest_keep : (db : List (List Dim)) (pairs : List Pair) (low next high : Valuation) (d : Dim) (k0 : ℕ) (left : List ℕ) → next ≡ assume low (negate d) → k0 < length db → Rest db pairs low next high (k0 ∷ left) →
    HasTrue high (clause_at db k0) ⊎ (((pair_at pairs k0).a ≢ d) × ((pair_at pairs k0).b ≢ d)) → Rest db pairs low next high left
rest_keep db pairs low next high d k0 left is lt rest keep =
    rest_done db pairs low next high k0 left rest
    (⊎_elim (λ t. inl t)
    (λ other. ⊎_elim (λ h. h) (λ p. half_next low next high d (clause_at db k0) (pair_at pairs k0) is other.0 other.1 p.0) (rest k0 lt))
    keep)

-- its open literal was made true
pub rest_unit : (db : List (List Dim)) (pairs : List Pair) (low next high more : Valuation) (o : Dim) (k0 : ℕ) (left : List ℕ) → IsBelow high more → IsUnit high (clause_at db k0) o →
    more o.var ≡ Some (not o.negated) → Rest db pairs low next high (k0 ∷ left) → Rest db pairs low next more left
rest_unit db pairs low next high more o k0 left below u now rest =
    rest_done db pairs low next more k0 left
    (λ k lt. ⊎_elim (λ h. inl (half_grow next high more (clause_at db k) (pair_at pairs k) below h)) (λ p. inr (half_grow low high more (clause_at db k) (pair_at pairs k) below p.0, p.1)) (rest k lt))
    (inl (o, u.inside, now))

-- a move keeps what two free watches were by any values below
pub kept_moved : (a top high : Valuation) (c : List Dim) (p q : Pair) (d : Dim) → IsBelow a high → IsMove high c p d q → IsHalf a top c p → IsHalf a top c q
kept_moved a top high c p q d below m h = ⊎_elim (λ t. inl t)
    (λ w. inr (⊎_elim
    (λ s. record { has_a = subst (Contains c) s.1 w.has_b; has_b = m.has; apart = λ e. m.apart (sym e); free_a = subst (λ (y : Dim). IsFalsified a y → ⊥) s.1 w.free_b; free_b = λ f. m.free (below q.b.var q.b.negated f) })
    (λ s. record { has_a = subst (Contains c) s.0 w.has_a; has_b = m.has; apart = λ e. m.apart (sym e); free_a = subst (λ (y : Dim). IsFalsified a y → ⊥) s.0 w.free_a; free_b = λ f. m.free (below q.b.var q.b.negated f) })
    m.beside)) h

pub pair_same : (pairs : List Pair) (k : ℕ) (q : Pair) → k < length pairs → pair_at (set pairs k q) k ≡ q
pair_same pairs k q lt = get_or-set_same pairs k q no_pair lt

pub pair_other : (pairs : List Pair) (k j : ℕ) (q : Pair) → j ≢ k → pair_at (set pairs k q) j ≡ pair_at pairs j
pair_other pairs k j q ne = get_or-set_other pairs k j q no_pair ne

pub rest_move : (db : List (List Dim)) (pairs : List Pair) (low next high : Valuation) (d : Dim) (k0 : ℕ) (q : Pair) (left : List ℕ) → next ≡ assume low (negate d) → IsBelow next high → k0 < length db → k0 < length pairs →
    IsMove high (clause_at db k0) (pair_at pairs k0) d q → Rest db pairs low next high (k0 ∷ left) → Rest db (set pairs k0 q) low next high left
rest_move db pairs low next high d k0 q left is below lt lp m rest k kl =
    let c : List Dim = clause_at db k0 in
    let p : Pair = pair_at pairs k0 in
    let here : IsHalf next high c q = ⊎_elim
    (λ h. kept_moved next high high c p q d below m h)
    (λ h. half_moved low next high d q.b q.a c p is below m.beside m.has m.apart m.free h.0)
    (rest k0 lt) in
    ⊎_elim
    (λ s. inl (subst (λ (j : ℕ). IsHalf next high (clause_at db j) (pair_at (set pairs k0 q) j)) (sym s) (subst (λ (r : Pair). IsHalf next high c r) (sym (pair_same pairs k0 q lp)) here)))
    (λ ne. let e : pair_at (set pairs k0 q) k ≡ pair_at pairs k = pair_other pairs k0 k q ne in
    ⊎_elim
    (λ h. inl (subst (λ (r : Pair). IsHalf next high (clause_at db k) r) (sym e) h))
    (λ h. ⊎_elim
    (λ first. absurd (ne (sym (one_in k0 k first))))
    (λ later. inr (subst (λ (r : Pair). IsHalf low high (clause_at db k) r) (sym e) h.0, later))
    (Contains-append_cases (k0 ∷ []) left k h.1))
    (rest k kl))
    (cases_eq k k0)

below_rest : (e : Assigned) (es : List Assigned) (high : Valuation) → denied (dims es) e.dim.var ≡ None → IsBelow (denied (dims (e ∷ es))) high → IsBelow (denied (dims es)) high
below_rest e es high o below v t k = below v t
    (⊎_elim (λ s. absurd (let n : denied (dims es) v ≡ None = rw s o in cc)) (λ ne. ap (λ b. cond b (Some e.dim.negated) (denied (dims es) v)) (ne_eqb v e.dim.var ne) ∙ k) (cases_eq v e.dim.var))

-- a move keeps what was at each decision below
pub was_moved : (vars : ℕ) (db : List (List Dim)) (pairs : List Pair) (high : Valuation) (d : Dim) (k0 : ℕ) (q : Pair) (es : List Assigned) → k0 < length pairs →
    IsMove high (clause_at db k0) (pair_at pairs k0) d q → IsApart vars es → IsBelow (denied (dims es)) high → WasCalm db pairs es → WasCalm db (set pairs k0 q) es
was_moved vars db pairs high d k0 q [] lp m apart below was = tt
was_moved vars db pairs high d k0 q (e ∷ es) lp m apart below was =
    let a : Valuation = denied (dims es) in
    let below2 : IsBelow a high = below_rest e es high apart.1 below in (
      λ none k kl. ⊎_elim
          (λ s. subst (λ (j : ℕ). IsHalf a a (clause_at db j) (pair_at (set pairs k0 q) j)) (sym s)
          (subst (λ (r : Pair). IsHalf a a (clause_at db k0) r) (sym (pair_same pairs k0 q lp))
          (kept_moved a a high (clause_at db k0) (pair_at pairs k0) q d below2 m (was.0 none k0 (subst (λ (j : ℕ). j < length db) s kl)))))
          (λ ne. subst (λ (r : Pair). IsHalf a a (clause_at db k) r) (sym (pair_other pairs k0 k q ne)) (was.0 none k kl))
          (cases_eq k k0),
      was_moved vars db pairs high d k0 q es lp m apart.2 below2 was.1,
    )

-- what is older is below
pub below_front : (vars : ℕ) (xs ys : List Assigned) → IsApart vars (xs ++ ys) → IsBelow (denied (dims ys)) (denied (dims (xs ++ ys)))
below_front vars [] ys apart v t k = k
below_front vars (e ∷ xs) ys apart v t k =
    let inner : denied (dims (xs ++ ys)) v ≡ Some t = below_front vars xs ys apart.2 v t k in
    ⊎_elim (λ s. absurd (let n : denied (dims (xs ++ ys)) v ≡ None = rw s apart.1 in cc))
    (λ ne. ap (λ b. cond b (Some e.dim.negated) (denied (dims (xs ++ ys)) v)) (ne_eqb v e.dim.var ne) ∙ inner) (cases_eq v e.dim.var)

pub below_take : (vars n : ℕ) (trail : List Assigned) → IsApart vars (reverse trail) → IsBelow (denied (falses (take n trail))) (denied (falses trail))
below_take vars n trail apart =
    let split : reverse trail ≡ reverse (drop n trail) ++ reverse (take n trail) = ap reverse (sym (take-append-drop n trail)) ∙ reverse-append (take n trail) (drop n trail) in
    subst (λ (es : List Assigned). IsBelow (denied (falses (take n trail))) (denied (dims es))) (sym split)
    (below_front vars (reverse (drop n trail)) (reverse (take n trail)) (subst (IsApart vars) split apart))

-- one more place of the trail
pub next_is : (n : ℕ) (trail : List Assigned) (x : Assigned) → n < length trail → denied (falses (take (n + 1) trail)) ≡ assume (denied (falses (take n trail))) (negate (get_or trail n x).dim)
next_is n trail x lt =
    ap (λ t. denied (dims (reverse t))) (take_more trail n x lt) ∙ ap (λ es. denied (dims es)) (reverse-append (take n trail) (get_or trail n x ∷ []))
    ∙ ap (λ b. λ v. cond (nat_eq v (get_or trail n x).dim.var) (Some b) (denied (falses (take n trail)) v)) (sym (twice (get_or trail n x).dim.negated))

pub near_entry : (vars k : ℕ) (trail : List Assigned) (e : Assigned) → IsApart vars (reverse trail) → k < length trail → e ≡ get_or trail k e → e.dim.var < vars
near_entry vars k trail e apart lt is = subst (λ (x : Assigned). x.dim.var < vars) (sym is) (trail_range vars trail apart k e lt)

pub next_at : (n : ℕ) (trail : List Assigned) (x : Assigned) → n < length trail → x ≡ get_or trail n x → denied (falses (take (n + 1) trail)) ≡ assume (denied (falses (take n trail))) (negate x.dim)
next_at n trail x lt is = subst (λ (y : Assigned). denied (falses (take (n + 1) trail)) ≡ assume (denied (falses (take n trail))) (negate y.dim)) (sym is) (next_is n trail x lt)

pub drop_first : (old : List ℕ) (i : ℕ) → i < length old → drop i old ≡ get_or old i 0 ∷ drop (i + 1) old
drop_first old i lt = rw (add-one, drop-cons old i 0) refl

-- by the values that the trail tracks
pub below_high : (n : ℕ) (values : List (Option Bool)) (trail start : List Assigned) → Tracks values trail → take n trail ≡ take n start → IsBelow (denied (falses (take n start))) (valuation values)
below_high n values trail start tracks front =
    subst (λ (a : Valuation). IsBelow (denied (falses (take n start))) a) (sym tracks.same)
    (subst (λ (t : List Assigned). IsBelow (denied (falses t)) (denied (falses trail))) front (below_take (length values) n trail tracks.apart))

pub below_self : (values : List (Option Bool)) (trail : List Assigned) → Tracks values trail → IsBelow (denied (dims (reverse trail))) (valuation values)
below_self values trail tracks v t k = ap (λ (a : Valuation). a v) tracks.same ∙ k

pub below_assigned : (values values2 : List (Option Bool)) (trail trail2 : List Assigned) (e : Assigned) → Tracks values trail → Tracks values2 trail2 → trail2 ≡ trail ++ e ∷ [] → IsBelow (valuation values) (valuation values2)
below_assigned values values2 trail trail2 e t t2 is v b k =
    let newest : reverse trail2 ≡ e ∷ reverse trail = ap reverse is ∙ newest_push trail e in
    let apart : IsApart (length values2) (e ∷ reverse trail) = subst (IsApart (length values2)) newest t2.apart in
    ap (λ (a : Valuation). a v) t2.same ∙ ap (λ es. denied (dims es) v) newest ∙ below_front (length values2) (e ∷ []) (reverse trail) apart v b (ap (λ (a : Valuation). a v) (sym t.same) ∙ k)

pub now_assigned : (values2 : List (Option Bool)) (trail trail2 : List Assigned) (e : Assigned) → Tracks values2 trail2 → trail2 ≡ trail ++ e ∷ [] → valuation values2 e.dim.var ≡ Some e.dim.negated
now_assigned values2 trail trail2 e t2 is =
    ap (λ (a : Valuation). a e.dim.var) t2.same ∙ ap (λ es. denied (dims es) e.dim.var) (ap reverse is ∙ newest_push trail e)
    ∙ ap (λ b. cond b (Some e.dim.negated) (denied (falses trail) e.dim.var)) (eq-eqb e.dim.var e.dim.var refl)

pub was_assigned : (db : List (List Dim)) (pairs : List Pair) (trail trail2 : List Assigned) (e : Assigned) (k : ℕ) → trail2 ≡ trail ++ e ∷ [] → e.reason ≡ Some k → WasCalm db pairs (reverse trail) → WasCalm db pairs (reverse trail2)
was_assigned db pairs trail trail2 e k is because was =
    subst (WasCalm db pairs) (sym (ap reverse is ∙ newest_push trail e)) (λ none. absurd (none-some k (sym none ∙ because)), was)

pub front_assigned : (n : ℕ) (trail trail2 start : List Assigned) (e : Assigned) → trail2 ≡ trail ++ e ∷ [] → n ≤ length trail → take n trail ≡ take n start → take n trail2 ≡ take n start
front_assigned n trail trail2 start e is le front = ap (take n) is ∙ take-append-le n trail (e ∷ []) le ∙ front

pub longer : (n : ℕ) (trail trail2 : List Assigned) (e : Assigned) → trail2 ≡ trail ++ e ∷ [] → n < length trail → n < length trail2
longer n trail trail2 e is lt = let l : length trail2 ≡ length (trail ++ e ∷ []) = ap length is in let m : length (trail ++ e ∷ []) ≡ length trail + 1 = length-append trail (e ∷ []) in omega arith

pub one_longer : (trail trail2 : List Assigned) (e : Assigned) → trail2 ≡ trail ++ e ∷ [] → length trail2 ≡ length trail + 1
one_longer trail trail2 e is = ap length is ∙ length-append trail (e ∷ [])
