-- Back along the trail.
use Rattle.std.proofs.Common.{◌≡◌, ℕ, ◌<◌, ◌≤◌, ◌+◌, ◌-◌, ◌⊎◌, Bool, Option, Some, None, List, [], ◌∷◌, ◌++◌, length, get_or, take, drop, map, reverse, sym, ap, ◌∙◌, arith, subst, ⊎_elim, append_assoc}
use Rattle.std.proofs.lemmas.Bool.{false≢true}
use Rattle.std.proofs.lemmas.List.{take-append-le, take_all, reverse-append}
use Rattle.cnf.specs.Clauses.{Valuation, valuation, denied}
use Rattle.sat_state.specs.declared.trail.Assigned.{Assigned}
use Rattle.sat_state.specs.Trail.{falses, Tracks, IsApart}
use Rattle.sat_search.specs.Learn.{IsClear, IsAnchored, IsTraced, StopsBelow, no_assigned}
use Rattle.sat_state.proofs.Trails.{newest_push}
use Rattle.sat_search.proofs.Learns.{none_tail}
use Rattle.sat_search.proofs.Steps.{apart_front, place_is, front_is}

pub front_length : (whole front rest : List Assigned) (n : ℕ) → whole ≡ front ++ rest → length front ≡ n → front ≡ take n whole
front_length whole front rest n is len =
    sym (ap (take n) is ∙ take-append-le n front rest (omega arith) ∙ take_all n front (omega arith))

-- the newest entry is not a decision, so what is before it is clear as well
pub clear_popped : (seen : List Bool) (old trail : List Assigned) (x : Assigned) (r : ℕ) → old ≡ trail ++ x ∷ [] → x.reason ≡ Some r → IsClear seen (reverse old) → IsClear seen (reverse trail)
clear_popped seen old trail x r is because h =
    let k : IsClear seen (x ∷ reverse trail) = subst (IsClear seen) (ap reverse is ∙ newest_push trail x) h in
    ⊎_elim (λ none. absurd (let n : Some r ≡ None = sym because ∙ none in cc)) (λ c. c) k.1

pub stops_popped : (whole old trail : List Assigned) (x : Assigned) → (rest : List Assigned) × (whole ≡ old ++ rest) → old ≡ trail ++ x ∷ [] → x.reason ≡ None → StopsBelow whole trail
stops_popped whole old trail x h is none = (x, h.0, h.1 ∙ ap (λ t. t ++ h.0) is ∙ append_assoc trail (x ∷ []) h.0, none)

pub stops_further : (whole old trail : List Assigned) → StopsBelow whole old → StopsBelow old trail → StopsBelow whole trail
stops_further whole old trail a b =
    (b.0, b.1 ++ a.0 ∷ a.1, a.2 ∙ ap (λ t. t ++ a.0 ∷ a.1) b.2 ∙ append_assoc trail (b.0 ∷ b.1) (a.0 ∷ a.1), b.3)

pub stops_more : (whole old trail rest : List Assigned) → whole ≡ old ++ rest → StopsBelow old trail → StopsBelow whole trail
stops_more whole old trail rest is b =
    (b.0, b.1 ++ rest, is ∙ ap (λ t. t ++ rest) b.2 ∙ append_assoc trail (b.0 ∷ b.1) rest, b.3)

clear_not_anchored : (seen : List Bool) (es : List Assigned) → IsClear seen es → IsAnchored seen es → ⊥
clear_not_anchored seen [] c a = c
clear_not_anchored seen (e ∷ es) c a = ⊎_elim
    (λ s. false≢true (sym c.0 ∙ s))
    (λ m. ⊎_elim (λ none. m.0 none) (λ rest. clear_not_anchored seen es rest m.1) c.1)
    a

-- what was traced back ends below a decision
pub traced_stops : (seen : List Bool) (whole trail : List Assigned) (n : ℕ) → 0 < n → n ≤ length whole → IsTraced seen (reverse (take n whole)) → IsAnchored seen (reverse trail) →
    (trail ≡ take (n - 1) whole) ⊎ StopsBelow (take (n - 1) whole) trail → StopsBelow whole trail
traced_stops seen whole trail n some range traced anchored front =
    let k : ℕ = n - 1 in
    let here : n ≡ k + 1 = omega arith in
    let x : Assigned = get_or whole k no_assigned in
    let place : take n whole ≡ take k whole ++ x ∷ [] = ap (λ m. take m whole) here ∙ place_is whole k no_assigned (omega arith) in
    let t : IsTraced seen (x ∷ reverse (take k whole)) = subst (IsTraced seen) (ap reverse place ∙ newest_push (take k whole) x) traced in
    let split : whole ≡ take k whole ++ x ∷ drop n whole = front_is whole n ∙ ap (λ l. l ++ drop n whole) place ∙ append_assoc (take k whole) (x ∷ []) (drop n whole) in
    ⊎_elim
    (λ same. ⊎_elim
    (λ none. (x, drop n whole, split ∙ ap (λ l. l ++ x ∷ drop n whole) (sym same), none))
    (λ clear. absurd (clear_not_anchored seen (reverse trail) (subst (λ (l : List Assigned). IsClear seen (reverse l)) (sym same) clear) anchored))
    t.1)
    (λ below. stops_more whole (take k whole) trail (x ∷ drop n whole) split below)
    front

-- a variable that is open in the longer front is open in the shorter
denied_drop : (vars : ℕ) (xs ys : List Assigned) (v : ℕ) → denied (map (λ e. e.dim) (xs ++ ys)) v ≡ None → denied (map (λ e. e.dim) ys) v ≡ None
denied_drop vars [] ys v h = h
denied_drop vars (x ∷ xs) ys v h = denied_drop vars xs ys v (none_tail x (xs ++ ys) v h)

pub open_back : (values : List (Option Bool)) (vars : ℕ) (whole trail : List Assigned) (n : ℕ) → 0 < n → n ≤ length whole → IsApart vars (reverse whole) → Tracks values trail →
    (trail ≡ take (n - 1) whole) ⊎ StopsBelow (take (n - 1) whole) trail → valuation values (get_or whole (n - 1) no_assigned).dim.var ≡ None
open_back values vars whole trail n some range apart tracks front =
    let k : ℕ = n - 1 in
    let x : Assigned = get_or whole k no_assigned in
    let place : take (k + 1) whole ≡ take k whole ++ x ∷ [] = place_is whole k no_assigned (omega arith) in
    let a : IsApart vars (x ∷ reverse (take k whole)) = subst (IsApart vars) (ap reverse place ∙ newest_push (take k whole) x) (apart_front vars whole (take (k + 1) whole) (drop (k + 1) whole) (front_is whole (k + 1)) apart) in
    ap (λ (f : Valuation). f x.dim.var) tracks.same ∙
    ⊎_elim
    (λ same. subst (λ (l : List Assigned). denied (falses l) x.dim.var ≡ None) (sym same) a.1)
    (λ below. let split : reverse (take k whole) ≡ reverse (below.0 ∷ below.1) ++ reverse trail = ap reverse below.2 ∙ reverse-append trail (below.0 ∷ below.1) in
    denied_drop vars (reverse (below.0 ∷ below.1)) (reverse trail) x.dim.var (subst (λ (l : List Assigned). denied (map (λ e. e.dim) l) x.dim.var ≡ None) split a.1))
    front
