-- What the search keeps in order, from one call to the next.
use Rattle.std.proofs.Common.{◌≡◌, ℕ, ◌<◌, ◌≤◌, List, length, drop, sym, ap, ◌∙◌, arith, subst, ⊎_elim, []}
use Rattle.std.specs.List.{Contains}
use Rattle.std.proofs.lemmas.List.{drop_all}
use Rattle.cnf.specs.declared.Dim.{Dim}
use Rattle.cnf.specs.Clauses.{Valuation}
use Rattle.sat_state.specs.declared.watch.Pair.{Pair}
use Rattle.sat_state.specs.declared.watch.Watch.{Watch}
use Rattle.sat_state.specs.Lists.{TrailLists}
use Rattle.sat_state.specs.Watch.{AllHalf, Rest, numbers}
use Rattle.sat_search.specs.Lesson.{IsFuller, IsReady}

-- by the number of values that there are now
pub ready_here : (vars : ℕ) (db : List (List Dim)) (pairs : List Pair) (rows : List (List Watch)) (trail : TrailLists) → IsReady vars db pairs rows trail → IsReady (length trail.values) db pairs rows trail
ready_here vars db pairs rows trail ready = subst (λ (n : ℕ). IsReady n db pairs rows trail) (sym ready.width) ready

pub fuller_then : (a b c : TrailLists) → IsFuller a b → IsFuller b c → IsFuller a c
fuller_then a b c h k = record { longer = omega (arith, h.longer, k.longer); filled = k.filled ∙ h.filled }

-- at the end of a list each clause is done
pub rest_end : (db : List (List Dim)) (pairs : List Pair) (low next high : Valuation) (list : List Watch) (i : ℕ) → length list ≤ i → Rest db pairs low next high (numbers (drop i list)) → AllHalf db pairs next high
rest_end db pairs low next high list i le rest k lt = ⊎_elim (λ h. h)
    (λ p. absurd
    (let none : numbers (drop i list) ≡ [] = ap numbers (drop_all i list le) in
    let in_none : Contains [] k = subst (λ (l : List ℕ). Contains l k) none p.1 in
    let no : in_none.0 < 0 = in_none.1 in
    omega arith))
    (rest k lt)
