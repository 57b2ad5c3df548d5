-- Members of lists, and lists in which nothing stands twice.
use Rattle.std.proofs.Common.{◌≡◌, ◌≢◌, ◌⊎◌, ℕ, ◌+◌, ◌-◌, ◌<◌, ◌≤◌, List, [], ◌∷◌, ◌++◌, length, get_or, refl, sym, ap, ◌∙◌, subst, inl, inr, arith, length-append}
use Rattle.std.specs.Prelude.{Contains, AllPairs}
use Rattle.std.specs.List.{zip}
use Rattle.std.proofs.lemmas.Bool.{cases_lt}
use Rattle.std.proofs.lemmas.List.{get_or_append_left, get_or-append_right}
use Rattle.std.proofs.lemmas.List.Elements.{Contains-get_or}
use Rattle.phase_fsm.proofs.Members.{nothing-in, in-cons, cons-head, cons-tail}

-- a member of one list stands beside a member of another
pub in-zip : {X Y : Type 0} (xs : List X) (ys : List Y) (x : X) → length xs ≡ length ys → Contains xs x → (y : Y) × Contains (zip xs ys) (x, y)
in-zip [] ys x long c = absurd (nothing-in x c)
in-zip (a ∷ xs) [] x long c = absurd (omega (arith, long))
in-zip {X} {Y} (a ∷ xs) (b ∷ ys) x long c = pick (in-cons a xs x c) (λ later. in-zip xs ys x (omega (arith, long)) later)
  where
    pick : (a ≡ x) ⊎ Contains xs x → (Contains xs x → (y : Y) × Contains (zip xs ys) (x, y)) → (y : Y) × Contains (zip (a ∷ xs) (b ∷ ys)) (x, y)
    pick (inl is) next = (b, cons-head (a, b) (zip xs ys) (x, b) (ap (λ z. let p : X × Y = (z, b) in p) is))
    pick (inr later) next = let found = next later in (found.0, cons-tail (a, b) (zip xs ys) (x, found.0) found.1)

-- ---- nothing twice

-- two lists with nothing in common
pub apart-append : {X : Type 0} (xs ys : List X) → AllPairs ◌≢◌ xs → AllPairs ◌≢◌ ys → ((x : X) → Contains xs x → Contains ys x → ⊥) → AllPairs ◌≢◌ (xs ++ ys)
apart-append {X} xs ys h k cross = λ i j d lt below. by_place i j d lt (omega (arith, below, length-append xs ys)) (cases_lt i (length xs)) (cases_lt j (length xs))
  where
    left : (i : ℕ) (d : X) → i < length xs → get_or (xs ++ ys) i d ≡ get_or xs i d
    left i d lt = get_or_append_left xs ys d i lt

    right : (i : ℕ) (d : X) → length xs ≤ i → get_or (xs ++ ys) i d ≡ get_or ys (i - length xs) d
    right i d le = get_or-append_right xs ys (length xs) i d refl le

    by_place : (i j : ℕ) (d : X) → i < j → j < length xs + length ys → (i < length xs) ⊎ (length xs ≤ i) → (j < length xs) ⊎ (length xs ≤ j) → get_or (xs ++ ys) i d ≢ get_or (xs ++ ys) j d
    by_place i j d lt below (inl a) (inl b) = λ e. h i j d lt b (sym (left i d a) ∙ e ∙ left j d b)
    by_place i j d lt below (inl a) (inr b) = λ e.
        let there : (j - length xs) < length ys = omega (arith, below, b) in
        let same : get_or ys (j - length xs) d ≡ get_or xs i d = sym (right j d b) ∙ sym e ∙ left i d a in
        cross (get_or xs i d) (Contains-get_or xs i d a) (subst (Contains ys) same (Contains-get_or ys (j - length xs) d there))
    by_place i j d lt below (inr a) (inl b) = absurd (omega (arith, lt, a, b))
    by_place i j d lt below (inr a) (inr b) = λ e.
        k (i - length xs) (j - length xs) d (omega (arith, lt, a, b)) (omega (arith, below, b)) (sym (right i d a) ∙ e ∙ right j d b)
