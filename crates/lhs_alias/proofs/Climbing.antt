-- Links that end at roots.
use Rattle.std.proofs.Common.{◌≡◌, ◌≢◌, ℕ, zero, suc, ◌<◌, cond, eqb, List, length, get_or, refl, sym, ◌∙◌, ap, arith}
use Rattle.std.proofs.lemmas.Bool.{cond-true, cond-false, eq-eqb, ne_eqb}
use Rattle.lhs_alias.specs.Roots.{climb, root_of, EndAtRoots}

pub climb-within : (n : ℕ) (links : List ℕ) (at : ℕ) → ((k : ℕ) → k < length links → get_or links k 0 < length links) → at < length links → climb n links at < length links
unfolding climb
climb-within zero links at within h = h
climb-within (suc n) links at within h = climb-within n links (get_or links at 0) within (within at h)

-- the last step can come first
pub climb-step : (n : ℕ) (links : List ℕ) (at : ℕ) → get_or links (climb n links at) 0 ≡ climb n links (get_or links at 0)
unfolding climb
climb-step zero links at = refl
climb-step (suc n) links at = climb-step n links (get_or links at 0)

pub climb-suc : (n : ℕ) (links : List ℕ) (at : ℕ) → climb (suc n) links at ≡ get_or links (climb n links at) 0
unfolding climb
climb-suc n links at = sym (climb-step n links at)

pub climb-root : (n : ℕ) (links : List ℕ) (at : ℕ) → get_or links at 0 ≡ at → climb n links at ≡ at
unfolding climb
climb-root zero links at is = refl
climb-root (suc n) links at is = ap (λ k. climb n links k) is ∙ climb-root n links at is

pub root_of-root : (links : List ℕ) (at : ℕ) → get_or links at 0 ≡ at → root_of links at ≡ at
unfolding root_of
root_of-root links at is = climb-root (length links) links at is

pub root_of-within : (links : List ℕ) (at : ℕ) → EndAtRoots links → at < length links → root_of links at < length links
unfolding root_of
root_of-within links at end h = climb-within (length links) links at end.within h

pub root_of-link : (links : List ℕ) (at : ℕ) → EndAtRoots links → at < length links → root_of links (get_or links at 0) ≡ root_of links at
unfolding root_of
root_of-link links at end h = sym (climb-step (length links) links at) ∙ end.ends at h

-- how many steps there are to the root, of at most n
unfoldable pub steps : ℕ → List ℕ → ℕ → ℕ
steps zero links at = 0
steps (suc n) links at = cond (eqb (get_or links at 0) at) 0 (suc (steps n links (get_or links at 0)))

-- once the root is reached, more steps are none
steps-more : (n : ℕ) (links : List ℕ) (at : ℕ) → get_or links (climb n links at) 0 ≡ climb n links at → steps (suc n) links at ≡ steps n links at
unfolding steps climb
steps-more zero links at is = cond-true (eqb (get_or links at 0) at) 0 1 (eq-eqb (get_or links at 0) at is)
steps-more (suc n) links at is =
    ap (λ more. cond (eqb (get_or links at 0) at) 0 (suc more)) (steps-more n links (get_or links at 0) is)

steps-less : (n : ℕ) (links : List ℕ) (at : ℕ) → get_or links (climb n links at) 0 ≡ climb n links at → get_or links at 0 ≢ at → steps n links (get_or links at 0) < steps n links at
unfolding steps climb
steps-less zero links at is not_root = absurd (not_root is)
steps-less (suc n) links at is not_root =
    let next = get_or links at 0 in
    let more = cond-false (eqb next at) 0 (suc (steps n links next)) (ne_eqb next at not_root) in
    let fewer = steps-more n links next is in
    omega (arith, more, fewer)

pub steps-fewer : (links : List ℕ) (at : ℕ) → EndAtRoots links → at < length links → get_or links at 0 ≢ at → steps (length links) links (get_or links at 0) < steps (length links) links at
unfolding root_of
steps-fewer links at end h not_root = steps-less (length links) links at (end.ends at h) not_root

pub ruleset climbs = (root_of-root, root_of-link, steps-fewer)
