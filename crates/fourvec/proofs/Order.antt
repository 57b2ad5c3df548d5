-- The order of vectors.
use Rattle.std.proofs.Common.{◌≡◌, ℕ, zero, suc, ◌-◌, ◌/◌, ◌^◌, ◌<◌, ◌≤◌, Bool, true, false, ◌&&◌, ◌||◌, not, cond, eqb, List, [], ◌∷◌, ◌++◌, length, take, drop, replicate, get_or, refl, sym, ap, ◌∙◌, subst, inl, inr, arith}
use Rattle.std.specs.Int.Bits.{bit_and, bit_or, bit_xor}
use Rattle.std.proofs.lemmas.Nat.{and_le_l, or_lt, xor_lt}
use Rattle.std.proofs.lemmas.Nat.Bits.{bit_at_lowest, bit_at-suc}
use Rattle.std.proofs.lemmas.Bool.{cases_Bool}
use Rattle.std.proofs.lemmas.List.{length-replicate}
use Rattle.fourvec.specs.declared.Bit.{Bit}
use Rattle.fourvec.specs.declared.Bit.TheVariants.{Zero, One, Unknown, Floating}
use Rattle.fourvec.specs.Bits.{same_bit, planes, bit_of, is_odd, each, each_pair, over, bit_below, all_pairs, is_known, is_known_bit, both_known, all_x, choose, first, top, moved_up, moved_down, eq_of, number, some_clash, clash_bit}
use Rattle.fourvec.specs.Laws.{Below, Monotone, MonotonePair, MonotoneChoice}
use Rattle.fourvec.specs.PlanesBack.{length-planes, half_below}
use Rattle.fourvec.proofs.Planes.{has, at, differ, has-and, has-or, has-xor, has-not, below_128, at_lowest, at-suc}
use Rattle.fourvec.proofs.Tables.{same_bit-true, every_bit, at_bit, left_of, right_of, same_test_on_four}
use Rattle.fourvec.proofs.Reduce.{zero_test}

-- ---- the order on planes

all_pairs-planes : (t : Bit → Bit → Bool) (w u l u' l' r : ℕ) → r < 2 ^ w → ((k : ℕ) → k < w → t (at u l k) (at u' l' k) ≡ not (has r k)) → all_pairs t (planes w u l) (planes w u' l') ≡ eqb r 0
unfolding all_pairs planes
all_pairs-planes t zero u l u' l' r lt h = let none : r ≡ 0 = omega arith in rw none refl
all_pairs-planes t (suc w) u l u' l' r lt h =
    let first_pair : t (bit_of (is_odd u) (is_odd l)) (bit_of (is_odd u') (is_odd l')) ≡ not (is_odd r) =
    ap (λ x. t x (bit_of (is_odd u') (is_odd l'))) (sym (at_lowest u l)) ∙ ap (t (at u l 0)) (sym (at_lowest u' l')) ∙ h 0 (omega arith) ∙ ap (λ n. not (eqb n 1)) (bit_at_lowest r) in
    let rest = all_pairs-planes t w (u / 2) (l / 2) (u' / 2) (l' / 2) (r / 2) (half_below w r lt)
    (λ k le. ap (λ x. t x (at (u' / 2) (l' / 2) k)) (sym (at-suc u l k)) ∙ ap (t (at u l (suc k))) (sym (at-suc u' l' k)) ∙ h (suc k) (omega arith) ∙ ap (λ n. not (eqb n 1)) (bit_at-suc r k)) in
    let test = zero_test r in
    cc

pub below_on_planes : (w u l w' u' l' : ℕ) → length (planes w u l) ≡ length (planes w' u' l') → w ≤ 128 → u < 2 ^ w → l < 2 ^ w → u' < 2 ^ w' → l' < 2 ^ w' → all_pairs bit_below (planes w u l) (planes w' u' l') ≡ eqb (bit_and (bit_or (bit_xor u u') (bit_xor l l')) (340282366920938463463374607431768211455 - bit_and u (340282366920938463463374607431768211455 - l))) 0
below_on_planes w u l w' u' l' e most p q p' q' =
    let same : w' ≡ w = sym (sym (length-planes w u l) ∙ e ∙ length-planes w' u' l') in
    let p2 : u' < 2 ^ w = subst (λ n. u' < 2 ^ n) same p' in
    let q2 : l' < 2 ^ w = subst (λ n. l' < 2 ^ n) same q' in
    let differs : bit_or (bit_xor u u') (bit_xor l l') < 2 ^ w = or_lt w _ _ (xor_lt w u u' p p2) (xor_lt w l l' q q2) in
    let low : l < 2 ^ 128 = below_128 l w q most in
    let x_below : bit_and u (340282366920938463463374607431768211455 - l) < 2 ^ 128 = below_128 _ w (omega (arith, p, and_le_l u (340282366920938463463374607431768211455 - l))) most in
    let inside : bit_and (bit_or (bit_xor u u') (bit_xor l l')) (340282366920938463463374607431768211455 - bit_and u (340282366920938463463374607431768211455 - l)) < 2 ^ w = omega (arith, differs, and_le_l (bit_or (bit_xor u u') (bit_xor l l')) (340282366920938463463374607431768211455 - bit_and u (340282366920938463463374607431768211455 - l))) in
    subst (λ n. all_pairs bit_below (planes w u l) (planes n u' l') ≡ eqb (bit_and (bit_or (bit_xor u u') (bit_xor l l')) (340282366920938463463374607431768211455 - bit_and u (340282366920938463463374607431768211455 - l))) 0) (sym same)
    (all_pairs-planes bit_below w u l u' l' _ inside (λ k lt. let in_word : k < 128 = omega arith in simp (has-not, has-and, has-or, has-xor) (same_test_on_four (λ a b c d. bit_below (bit_of a b) (bit_of c d)) (λ a b c d. not ((differ a c || differ b d) && not (a && not b))) refl (has u k) (has l k) (has u' k) (has l' k))))

-- vectors of two widths are not in order
pub below_one_width : (a b : List Bit) → (length a ≡ length b → ⊥) → all_pairs bit_below a b ≡ false
unfolding all_pairs
below_one_width [] [] ne = absurd (ne refl)
below_one_width [] (b ∷ more) ne = refl
below_one_width (a ∷ more) [] ne = refl
below_one_width (a ∷ more) (b ∷ others) ne =
    rw (below_one_width more others (λ e. ne (ap suc e))) (never (bit_below a b))
  where
    never : (x : Bool) → (x && false) ≡ false
    never true = refl
    never false = refl

-- ---- the order on lists

pub both : (x y : Bool) → x ≡ true → y ≡ true → (x && y) ≡ true
both true y e f = f
both false y e f = e

bit_below-refl : (a : Bit) → bit_below a a ≡ true
bit_below-refl Zero = refl
bit_below-refl One = refl
bit_below-refl Unknown = refl
bit_below-refl Floating = refl

pub below-refl : (a : List Bit) → Below a a
unfolding all_pairs
below-refl [] = refl
below-refl (a ∷ more) = both _ _ (bit_below-refl a) (below-refl more)

pub length-below : (a b : List Bit) → Below a b → length a ≡ length b
unfolding all_pairs
length-below [] [] h = refl
length-below [] (b ∷ more) h = cc
length-below (a ∷ more) [] h = cc
length-below (a ∷ more) (b ∷ others) h = ap suc (length-below more others (right_of _ _ h))

pub x_below : (n : ℕ) (a : List Bit) → n ≡ length a → Below (all_x n) a
unfolding all_pairs
x_below zero [] e = refl
x_below zero (a ∷ more) e = cc
x_below (suc n) [] e = cc
x_below (suc n) (a ∷ more) e = x_below n more cc

known_bit_same : (a b : Bit) → is_known_bit a ≡ true → bit_below a b ≡ true → a ≡ b
known_bit_same Zero Zero k h = refl
known_bit_same One One k h = refl
known_bit_same Zero One k h = cc
known_bit_same Zero Unknown k h = cc
known_bit_same Zero Floating k h = cc
known_bit_same One Zero k h = cc
known_bit_same One Unknown k h = cc
known_bit_same One Floating k h = cc
known_bit_same Unknown b k h = cc
known_bit_same Floating b k h = cc

-- above a known vector stands only itself
pub known_same : (a b : List Bit) → is_known a ≡ true → Below a b → a ≡ b
unfolding all_pairs is_known
known_same [] [] k h = refl
known_same [] (b ∷ more) k h = cc
known_same (a ∷ more) [] k h = cc
known_same (a ∷ more) (b ∷ others) k h =
    let head = known_bit_same a b (left_of _ _ k) (left_of _ _ h) in
    let tail : more ≡ others = known_same more others (right_of _ _ k) (right_of _ _ h) in
    ap (λ x. x ∷ more) head ∙ ap (λ xs. b ∷ xs) tail

-- ---- operators bit by bit

abbrev implies : Bool → Bool → Bool
implies p q = not p || q

implied : (p q : Bool) → implies p q ≡ true → p ≡ true → q ≡ true
implied true q e h = e
implied false q e h = cc

abbrev pub bits_monotone : (Bit → Bit) → Bool
bits_monotone f = every_bit (λ a. every_bit (λ c. implies (bit_below a c) (bit_below (f a) (f c))))

abbrev pub pairs_monotone : (Bit → Bit → Bit) → Bool
pairs_monotone f =
    every_bit (λ a. every_bit (λ b. every_bit (λ c. every_bit (λ d. implies (bit_below a c && bit_below b d) (bit_below (f a b) (f c d))))))

bits_monotone_at : (f : Bit → Bit) → bits_monotone f ≡ true → (a c : Bit) → bit_below a c ≡ true → bit_below (f a) (f c) ≡ true
bits_monotone_at f e a c h =
    implied _ _ (at_bit (λ y. implies (bit_below a y) (bit_below (f a) (f y))) (at_bit (λ x. every_bit (λ y. implies (bit_below x y) (bit_below (f x) (f y)))) e a) c) h

pairs_monotone_at : (f : Bit → Bit → Bit) → pairs_monotone f ≡ true → (a b c d : Bit) → bit_below a c ≡ true → bit_below b d ≡ true → bit_below (f a b) (f c d) ≡ true
pairs_monotone_at f e a b c d h g =
    let at_a = at_bit (λ x. every_bit (λ y. every_bit (λ z. every_bit (λ v. implies (bit_below x z && bit_below y v) (bit_below (f x y) (f z v)))))) e a in
    let at_b = at_bit (λ y. every_bit (λ z. every_bit (λ v. implies (bit_below a z && bit_below y v) (bit_below (f a y) (f z v))))) at_a b in
    let at_c = at_bit (λ z. every_bit (λ v. implies (bit_below a z && bit_below b v) (bit_below (f a b) (f z v)))) at_b c in
    implied _ _ (at_bit (λ v. implies (bit_below a c && bit_below b v) (bit_below (f a b) (f c v))) at_c d) (both _ _ h g)

pub each_monotone : (f : Bit → Bit) → bits_monotone f ≡ true → Monotone (each f)
unfolding all_pairs each
each_monotone f e [] [] h = refl
each_monotone f e [] (c ∷ more) h = cc
each_monotone f e (a ∷ more) [] h = cc
each_monotone f e (a ∷ more) (c ∷ others) h =
    both _ _ (bits_monotone_at f e a c (left_of _ _ h)) (each_monotone f e more others (right_of _ _ h))

pub each_pair_monotone : (f : Bit → Bit → Bit) → pairs_monotone f ≡ true → MonotonePair (each_pair f)
unfolding all_pairs each_pair
each_pair_monotone f e [] b [] d h g = refl
each_pair_monotone f e [] b (c ∷ others) d h g = cc
each_pair_monotone f e (a ∷ more) b [] d h g = cc
each_pair_monotone f e (a ∷ more) [] (c ∷ others) [] h g = refl
each_pair_monotone f e (a ∷ more) [] (c ∷ others) (d ∷ below_d) h g = cc
each_pair_monotone f e (a ∷ more) (b ∷ below_b) (c ∷ others) [] h g = cc
each_pair_monotone f e (a ∷ more) (b ∷ below_b) (c ∷ others) (d ∷ below_d) h g =
    both _ _ (pairs_monotone_at f e a b c d (left_of _ _ h) (left_of _ _ g)) (each_pair_monotone f e more below_b others below_d (right_of _ _ h) (right_of _ _ g))

over_below : (f : Bit → Bit → Bit) (start : Bit) → pairs_monotone f ≡ true → (a c : List Bit) → Below a c → bit_below (over f start a) (over f start c) ≡ true
unfolding all_pairs over
over_below f start e [] [] h = bit_below-refl start
over_below f start e [] (c ∷ more) h = cc
over_below f start e (a ∷ more) [] h = cc
over_below f start e (a ∷ more) (c ∷ others) h =
    pairs_monotone_at f e a (over f start more) c (over f start others) (left_of _ _ h) (over_below f start e more others (right_of _ _ h))

pub one_below : (a c : Bit) → bit_below a c ≡ true → Below (a ∷ []) (c ∷ [])
unfolding all_pairs
one_below a c h = both _ _ h refl

pub over_monotone : (f : Bit → Bit → Bit) (start : Bit) → pairs_monotone f ≡ true → Monotone (λ a. over f start a ∷ [])
over_monotone f start e a c h = one_below _ _ (over_below f start e a c h)

-- ---- operators that give only X where a bit is unknown

-- `n` gives the width of the result from that of the first vector
pub strict_pair_monotone : (f : List Bit → List Bit → List Bit) (n : ℕ → ℕ) → ((a b : List Bit) → length (f a b) ≡ n (length a)) → ((a b : List Bit) → both_known a b ≡ false → f a b ≡ all_x (n (length a))) → MonotonePair f
strict_pair_monotone f n wide unknown a b c d h g =
    elim (cases_Bool (both_known a b)) [
      | inl k ↦ let first_same = known_same a c (left_of _ _ k) h in let second_same = known_same b d (right_of _ _ k) g in
          subst (λ x. Below (f a b) (f x d)) first_same (subst (λ y. Below (f a b) (f a y)) second_same (below-refl (f a b)))
      | inr k ↦ subst (λ x. Below x (f c d)) (sym (unknown a b k)) (x_below (n (length a)) (f c d) (ap n (length-below a c h) ∙ sym (wide c d)))
    ]

pub strict_monotone : (f : List Bit → List Bit) (n : ℕ → ℕ) → ((a : List Bit) → length (f a) ≡ n (length a)) → ((a : List Bit) → is_known a ≡ false → f a ≡ all_x (n (length a))) → Monotone f
strict_monotone f n wide unknown a c h =
    elim (cases_Bool (is_known a)) [
      | inl k ↦ subst (λ x. Below (f a) (f x)) (known_same a c k h) (below-refl (f a))
      | inr k ↦ subst (λ x. Below x (f c)) (sym (unknown a k)) (x_below (n (length a)) (f c) (ap n (length-below a c h) ∙ sym (wide c)))
    ]

pub x_otherwise : {A : Type 0} (k : Bool) (x y : A) → k ≡ false → cond k x y ≡ y
x_otherwise true x y e = cc
x_otherwise false x y e = refl

pub x_otherwise_too : {A : Type 0} (k p : Bool) (x y : A) → k ≡ false → cond (k && p) x y ≡ y
x_otherwise_too true p x y e = cc
x_otherwise_too false p x y e = refl

-- ---- moves

pub below-append : (a b c d : List Bit) → Below a c → Below b d → Below (a ++ b) (c ++ d)
unfolding all_pairs
below-append [] b [] d h g = g
below-append [] b (c ∷ others) d h g = cc
below-append (a ∷ more) b [] d h g = cc
below-append (a ∷ more) b (c ∷ others) d h g = both _ _ (left_of _ _ h) (below-append more b others d (right_of _ _ h) g)

pub below-take : (n : ℕ) (a c : List Bit) → Below a c → Below (take n a) (take n c)
unfolding all_pairs
below-take zero a c h = refl
below-take (suc n) [] [] h = refl
below-take (suc n) [] (c ∷ others) h = cc
below-take (suc n) (a ∷ more) [] h = cc
below-take (suc n) (a ∷ more) (c ∷ others) h = both _ _ (left_of _ _ h) (below-take n more others (right_of _ _ h))

pub below-drop : (n : ℕ) (a c : List Bit) → Below a c → Below (drop n a) (drop n c)
unfolding all_pairs
below-drop zero a c h = h
below-drop (suc n) [] [] h = refl
below-drop (suc n) [] (c ∷ others) h = cc
below-drop (suc n) (a ∷ more) [] h = cc
below-drop (suc n) (a ∷ more) (c ∷ others) h = below-drop n more others (right_of _ _ h)

pub below-replicate : (n : ℕ) (a c : Bit) → bit_below a c ≡ true → Below (replicate n a) (replicate n c)
unfolding all_pairs
below-replicate zero a c h = refl
below-replicate (suc n) a c h = both _ _ h (below-replicate n a c h)

pub below-get_or-at : (n : ℕ) (a c : List Bit) (x y : Bit) → Below a c → bit_below x y ≡ true → bit_below (get_or a n x) (get_or c n y) ≡ true
unfolding all_pairs
below-get_or-at n [] [] x y h g = g
below-get_or-at n [] (c ∷ others) x y h g = cc
below-get_or-at n (a ∷ more) [] x y h g = cc
below-get_or-at zero (a ∷ more) (c ∷ others) x y h g = left_of _ _ h
below-get_or-at (suc n) (a ∷ more) (c ∷ others) x y h g = below-get_or-at n more others x y (right_of _ _ h) g

pub top_below : (a c : List Bit) → Below a c → bit_below (top a) (top c) ≡ true
top_below a c h = subst (λ n. bit_below (top a) (get_or c (n - 1) Zero) ≡ true) (length-below a c h) (below-get_or-at (length a - 1) a c Zero Zero h refl)

pub widened : (x y : Bit) (width : ℕ) (a c : List Bit) → bit_below x y ≡ true → Below a c → Below (a ++ replicate (width - length a) x) (c ++ replicate (width - length c) y)
widened x y width a c f h =
    subst (λ m. Below (a ++ replicate (width - length a) x) (c ++ replicate (width - m) y)) (length-below a c h)
    (below-append a _ c _ h (below-replicate (width - length a) x y f))

-- a move by a known number
pub move_monotone : (move : ℕ → List Bit → List Bit) → ((n : ℕ) (a : List Bit) → length (move n a) ≡ length a) → ((n : ℕ) → Monotone (move n)) → MonotonePair (λ a b. cond (is_known b) (move (number b) a) (all_x (length a)))
move_monotone move wide mono a b c d h g =
    elim (cases_Bool (is_known b)) [
      | inl k ↦ subst (λ y. Below (cond (is_known b) (move (number b) a) (all_x (length a))) (cond (is_known y) (move (number y) c) (all_x (length c)))) (known_same b d k g) (known k)
      | inr k ↦ subst (λ x. Below x (cond (is_known d) (move (number d) c) (all_x (length c)))) (sym (x_otherwise _ _ _ k)) (x_below (length a) _ (length-below a c h ∙ sym (either (is_known d))))
    ]
  where
    known : is_known b ≡ true → Below (cond (is_known b) (move (number b) a) (all_x (length a))) (cond (is_known b) (move (number b) c) (all_x (length c)))
    known k = rw k (mono (number b) a c h)

    either : (k : Bool) → length (cond k (move (number d) c) (all_x (length c))) ≡ length c
    either true = wide (number d) c
    either false = length-replicate (length c) Unknown

pub moved_up_monotone : (n : ℕ) → Monotone (moved_up n)
moved_up_monotone n a c h =
    subst (λ m. Below (moved_up n a) (take m (replicate n Zero ++ c))) (length-below a c h)
    (below-take (length a) _ _ (below-append (replicate n Zero) a (replicate n Zero) c (below-refl (replicate n Zero)) h))

pub moved_down_below : (n : ℕ) (x y : Bit) (a c : List Bit) → bit_below x y ≡ true → Below a c → Below (moved_down x n a) (moved_down y n c)
moved_down_below n x y a c f h =
    subst (λ m. Below (moved_down x n a) (take m (drop n c ++ replicate m y))) (length-below a c h)
    (below-take (length a) _ _ (below-append (drop n a) (replicate (length a) x) (drop n c) (replicate (length a) y) (below-drop n a c h) (below-replicate (length a) x y f)))

-- ---- choices

bit_below-trans : (a b c : Bit) → bit_below a b ≡ true → bit_below b c ≡ true → bit_below a c ≡ true
bit_below-trans a b c h g =
    let at_a = at_bit (λ x. every_bit (λ y. every_bit (λ z. implies (bit_below x y && bit_below y z) (bit_below x z)))) refl a in
    let at_b = at_bit (λ y. every_bit (λ z. implies (bit_below a y && bit_below y z) (bit_below a z))) at_a b in
    implied _ _ (at_bit (λ z. implies (bit_below a b && bit_below b z) (bit_below a z)) at_b c) (both _ _ h g)

pub below-trans : (a b c : List Bit) → Below a b → Below b c → Below a c
unfolding all_pairs
below-trans [] [] c h g = g
below-trans [] (b ∷ bs) c h g = cc
below-trans (a ∷ more) [] c h g = cc
below-trans (a ∷ more) (b ∷ bs) [] h g = cc
below-trans (a ∷ more) (b ∷ bs) (c ∷ others) h g =
    both _ _ (bit_below-trans a b c (left_of _ _ h) (left_of _ _ g)) (below-trans more bs others (right_of _ _ h) (right_of _ _ g))

bit_below-antisym : (a b : Bit) → bit_below a b ≡ true → bit_below b a ≡ true → a ≡ b
bit_below-antisym a b h g =
    let at_a = at_bit (λ x. every_bit (λ y. implies (bit_below x y && bit_below y x) (same_bit x y))) refl a in
    same_bit-true a b (implied _ _ (at_bit (λ y. implies (bit_below a y && bit_below y a) (same_bit a y)) at_a b) (both _ _ h g))

pub below-antisym : (a b : List Bit) → Below a b → Below b a → a ≡ b
unfolding all_pairs
below-antisym [] [] h g = refl
below-antisym [] (b ∷ bs) h g = cc
below-antisym (a ∷ more) [] h g = cc
below-antisym (a ∷ more) (b ∷ bs) h g =
    ap (λ x. x ∷ more) (bit_below-antisym a b (left_of _ _ h) (left_of _ _ g)) ∙ ap (λ xs. b ∷ xs) (below-antisym more bs (right_of _ _ h) (right_of _ _ g))

abbrev pub merges : (Bit → Bit → Bit) → Bool
merges f = every_bit (λ a. every_bit (λ b. bit_below (f a b) a && bit_below (f a b) b))

merges_at : (f : Bit → Bit → Bit) → merges f ≡ true → (a b : Bit) → (bit_below (f a b) a && bit_below (f a b) b) ≡ true
merges_at f e a b =
    at_bit (λ y. bit_below (f a y) a && bit_below (f a y) y) (at_bit (λ x. every_bit (λ y. bit_below (f x y) x && bit_below (f x y) y)) e a) b

merged_below_left : (f : Bit → Bit → Bit) → merges f ≡ true → (a b : List Bit) → length a ≡ length b → Below (each_pair f a b) a
unfolding all_pairs each_pair
merged_below_left f e [] b h = refl
merged_below_left f e (a ∷ more) [] h = cc
merged_below_left f e (a ∷ more) (b ∷ bs) h = both _ _ (left_of _ _ (merges_at f e a b)) (merged_below_left f e more bs cc)

merged_below_right : (f : Bit → Bit → Bit) → merges f ≡ true → (a b : List Bit) → length a ≡ length b → Below (each_pair f a b) b
unfolding all_pairs each_pair
merged_below_right f e [] [] h = refl
merged_below_right f e [] (b ∷ bs) h = cc
merged_below_right f e (a ∷ more) [] h = cc
merged_below_right f e (a ∷ more) (b ∷ bs) h = both _ _ (right_of _ _ (merges_at f e a b)) (merged_below_right f e more bs cc)

pub choose_below : (f : Bit → Bit → Bit) → pairs_monotone f ≡ true → merges f ≡ true → (t v : Bit) (a b c d : List Bit) → length a ≡ length b → bit_below t v ≡ true → Below a c → Below b d → Below (choose f t a b) (choose f v c d)
choose_below f m e One One a b c d w o h g = h
choose_below f m e Zero Zero a b c d w o h g = g
choose_below f m e Unknown One a b c d w o h g = below-trans (each_pair f a b) a c (merged_below_left f e a b w) h
choose_below f m e Unknown Zero a b c d w o h g = below-trans (each_pair f a b) b d (merged_below_right f e a b w) g
choose_below f m e Unknown Unknown a b c d w o h g = each_pair_monotone f m a b c d h g
choose_below f m e Unknown Floating a b c d w o h g = each_pair_monotone f m a b c d h g
choose_below f m e Floating Floating a b c d w o h g = each_pair_monotone f m a b c d h g
choose_below f m e One Zero a b c d w o h g = cc
choose_below f m e One Unknown a b c d w o h g = cc
choose_below f m e One Floating a b c d w o h g = cc
choose_below f m e Zero One a b c d w o h g = cc
choose_below f m e Zero Unknown a b c d w o h g = cc
choose_below f m e Zero Floating a b c d w o h g = cc
choose_below f m e Floating One a b c d w o h g = cc
choose_below f m e Floating Zero a b c d w o h g = cc
choose_below f m e Floating Unknown a b c d w o h g = cc

pub first_below : (t v : List Bit) → Below t v → bit_below (first t) (first v) ≡ true
unfolding all_pairs
first_below [] v h = refl
first_below (t ∷ more) [] h = cc
first_below (t ∷ more) (v ∷ others) h = left_of _ _ h

pub choice_monotone : (f : Bit → Bit → Bit) → pairs_monotone f ≡ true → merges f ≡ true → MonotoneChoice (λ t a b. choose f (first t) a b)
choice_monotone f m e t a b v c d w o h g = choose_below f m e (first t) (first v) a b c d w (first_below t v o) h g

-- ---- equality

clash_rises : (a b c d : Bit) → clash_bit a b ≡ true → bit_below a c ≡ true → bit_below b d ≡ true → clash_bit c d ≡ true
clash_rises Zero One c d k h g =
    subst (λ x. clash_bit x d ≡ true) (known_bit_same Zero c refl h) (subst (λ y. clash_bit Zero y ≡ true) (known_bit_same One d refl g) refl)
clash_rises One Zero c d k h g =
    subst (λ x. clash_bit x d ≡ true) (known_bit_same One c refl h) (subst (λ y. clash_bit One y ≡ true) (known_bit_same Zero d refl g) refl)
clash_rises _ _ c d k h g = cc

either_rises : (p q r s : Bool) → (p ≡ true → r ≡ true) → (q ≡ true → s ≡ true) → (p || q) ≡ true → (r || s) ≡ true
either_rises true q r s f g h = rw (f refl) refl
either_rises false q true s f g h = refl
either_rises false q false s f g h = g h

some_clash_rises : (a b c d : List Bit) → some_clash a b ≡ true → Below a c → Below b d → some_clash c d ≡ true
unfolding some_clash all_pairs
some_clash_rises [] b c d k h g = cc
some_clash_rises (a ∷ more) [] c d k h g = cc
some_clash_rises (a ∷ more) (b ∷ below_b) [] d k h g = cc
some_clash_rises (a ∷ more) (b ∷ below_b) (c ∷ others) [] k h g = cc
some_clash_rises (a ∷ more) (b ∷ below_b) (c ∷ others) (d ∷ below_d) k h g =
    either_rises _ _ _ _ (λ e. clash_rises a b c d e (left_of _ _ h) (left_of _ _ g)) (λ e. some_clash_rises more below_b others below_d e (right_of _ _ h) (right_of _ _ g)) k

pub eq_rises : MonotonePair eq_of
unfolding eq_of
eq_rises a b c d h g = one_below _ _ (by_test (some_clash a b) (both_known a b) refl refl)
  where
    by_test : (s k : Bool) → s ≡ some_clash a b → k ≡ both_known a b → bit_below (cond s Zero (cond k One Unknown)) (cond (some_clash c d) Zero (cond (both_known c d) One Unknown)) ≡ true
    by_test true k e f = rw (some_clash_rises a b c d (sym e) h g) refl
    by_test false false e f = refl
    by_test false true e f =
        let first_same = known_same a c (left_of _ _ (sym f)) h in
        let second_same = known_same b d (right_of _ _ (sym f)) g in
        subst (λ x. bit_below One (cond (some_clash x d) Zero (cond (both_known x d) One Unknown)) ≡ true) first_same
        (subst (λ y. bit_below One (cond (some_clash a y) Zero (cond (both_known a y) One Unknown)) ≡ true) second_same
        (rw (← e, ← f) refl))
