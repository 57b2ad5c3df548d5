-- A part that is put at a place that is computed.
use Rattle.std.proofs.Common.{◌≡◌, ℕ, zero, suc, ◌+◌, ◌-◌, ◌*◌, ◌/◌, ◌%◌, ◌^◌, ◌<◌, ◌≤◌, Bool, true, false, not, ◌&&◌, ◌||◌, cond, List, [], ◌∷◌, length, replicate, get_or, refl, sym, ap, ◌∙◌, ◌⊎◌, inl, inr, arith}
use Rattle.std.specs.Prelude.{ℤ, pos, negsuc, neg_ℤ, ◌+ℤ◌, int_lt, unsigned_abs, slice_get, Some}
use Rattle.std.specs.Int.Bits.{bit_and, bit_or}
use Rattle.std.proofs.lemmas.Int.{ints}
use Rattle.std.proofs.lemmas.Bool.{cases_lt, cases_Bool}
use Rattle.std.proofs.lemmas.List.{get_or_past}
use Rattle.std.proofs.lemmas.Nat.{pow_pos, mod_below, shr_le}
use Rattle.fourvec.specs.declared.Bit.{Bit}
use Rattle.fourvec.specs.declared.Bit.TheVariants.{Unknown}
use Rattle.fourvec.specs.Bits.{planes, bit_of, is_odd, each, each_pair, keep_bit, same_bit, all_x}
use Rattle.fourvec.specs.Spots.{reached, bit_or_else, overlaid, all_are, kept_bit}
use Rattle.fourvec.specs.PlanesBack.{length-planes}
use Rattle.fourvec.proofs.Planes.{has, at, at_lowest, at-suc, has-or, has-and, has-not}
use Rattle.fourvec.proofs.Basic.{get_or-planes, same_when_equal, equal_when_same}
use Rattle.fourvec.proofs.Tables.{same_bit-true, same_on_bits, left_of, right_of}
use Rattle.fourvec.proofs.Places.{parts, has-shr, has-shl, has-shl_low, low_ones, no_ones, no_bits, ones_below}

pub ruleset tells = (same_when_equal, equal_when_same)

overlaid-planes : (w u l ru rl : ℕ) (z : ℤ) (put : List Bit) → ((k : ℕ) → k < w → bit_or_else put (neg_ℤ z +ℤ pos k) (at u l k) ≡ at ru rl k) → overlaid (planes w u l) z put ≡ planes w ru rl
unfolding overlaid planes
overlaid-planes zero u l ru rl z put h = refl
overlaid-planes (suc w) u l ru rl z put h =
    let here : neg_ℤ z ≡ neg_ℤ z +ℤ pos 0 = omega (arith, ints) in
    let first_bit : bit_or_else put (neg_ℤ z) (bit_of (is_odd u) (is_odd l)) ≡ bit_of (is_odd ru) (is_odd rl) =
    ap (λ x. bit_or_else put x (bit_of (is_odd u) (is_odd l))) here ∙ ap (bit_or_else put (neg_ℤ z +ℤ pos 0)) (sym (at_lowest u l)) ∙ h 0 (omega arith) ∙ at_lowest ru rl in
    let rest = overlaid-planes w (u / 2) (l / 2) (ru / 2) (rl / 2) (z +ℤ negsuc 0) put (λ k lt.
    let next : neg_ℤ (z +ℤ negsuc 0) +ℤ pos k ≡ neg_ℤ z +ℤ pos (suc k) = omega (arith, ints) in
    ap (λ x. bit_or_else put x (at (u / 2) (l / 2) k)) next ∙ ap (bit_or_else put (neg_ℤ z +ℤ pos (suc k))) (sym (at-suc u l k)) ∙ h (suc k) (omega arith) ∙ at-suc ru rl k) in
    cc

-- where nothing of the other vector stands, the vector stays
overlaid-none : (a put : List Bit) (z : ℤ) → ((k : ℕ) (x : Bit) → k < length a → bit_or_else put (neg_ℤ z +ℤ pos k) x ≡ x) → overlaid a z put ≡ a
unfolding overlaid
overlaid-none [] put z h = refl
overlaid-none (a ∷ more) put z h =
    let here : neg_ℤ z ≡ neg_ℤ z +ℤ pos 0 = omega (arith, ints) in
    let first_bit : bit_or_else put (neg_ℤ z) a ≡ a = ap (λ x. bit_or_else put x a) here ∙ h 0 a (omega arith) in
    let rest = overlaid-none more put (z +ℤ negsuc 0) (λ k x lt.
    let next : neg_ℤ (z +ℤ negsuc 0) +ℤ pos k ≡ neg_ℤ z +ℤ pos (suc k) = omega (arith, ints) in
    ap (λ y. bit_or_else put y x) next ∙ h (suc k) x (omega arith)) in
    cc

pub overlaid_far : (a put : List Bit) (below : Bool) (far : ℕ) → 128 ≤ far → length a ≤ 128 → length put ≤ 128 → overlaid a (reached below far) put ≡ a
overlaid_far a put true far h w v =
    overlaid-none a put (neg_ℤ (pos far)) (λ k x lt. let place : neg_ℤ (neg_ℤ (pos far)) +ℤ pos k ≡ pos (far + k) = omega (arith, ints) in ap (λ y. bit_or_else put y x) place ∙ get_or_past put (far + k) x (omega arith))
overlaid_far a put false far h w v =
    overlaid-none a put (pos far) (λ k x lt. let place : neg_ℤ (pos far) +ℤ pos k ≡ negsuc (far - suc k) = omega (arith, ints) in ap (λ y. bit_or_else put y x) place)

pub overlaid_past : (a put : List Bit) (z : ℤ) → 128 ≤ unsigned_abs z → length a ≤ 128 → length put ≤ 128 → overlaid a z put ≡ a
overlaid_past a put z h w v = ap (λ x. overlaid a x put) (parts z) ∙ overlaid_far a put (int_lt z (pos 0)) (unsigned_abs z) h w v

-- a bit of the other vector where it has one there, by the planes
laid_bit : (w' u' l' i : ℕ) (x y : Bool) → u' < 2 ^ w' → l' < 2 ^ w' → get_or (planes w' u' l') i (bit_of x y) ≡ bit_of ((x && not (has (2 ^ w' - 1) i)) || has u' i) ((y && not (has (2 ^ w' - 1) i)) || has l' i)
laid_bit w' u' l' i x y p q =
    elim (cases_lt i w') [
      | inl lt ↦ get_or-planes w' u' l' i (bit_of x y) lt ∙ sym (rw (low_ones w' i lt) (covered x y (has u' i) (has l' i)))
      | inr le ↦ get_or_past (planes w' u' l') i (bit_of x y) (omega (arith, length-planes w' u' l')) ∙ sym (rw (no_ones w' i le, no_bits u' w' i p le, no_bits l' w' i q le) (open_to x y))
    ]
  where
    covered : (a b c d : Bool) → bit_of ((a && false) || c) ((b && false) || d) ≡ bit_of c d
    covered true true c d = refl
    covered true false c d = refl
    covered false true c d = refl
    covered false false c d = refl

    open_to : (a b : Bool) → bit_of ((a && true) || false) ((b && true) || false) ≡ bit_of a b
    open_to true true = refl
    open_to true false = refl
    open_to false true = refl
    open_to false false = refl

-- a plane with some bits of another in place of its own
laid_plane : (u s v k : ℕ) → s < 2 ^ 128 → k < 128 → has (bit_or (bit_and u (340282366920938463463374607431768211455 - s)) v) k ≡ ((has u k && not (has s k)) || has v k)
laid_plane u s v k p h =
    has-or (bit_and u (340282366920938463463374607431768211455 - s)) v k ∙ ap (λ b. b || has v k) (has-and u (340282366920938463463374607431768211455 - s) k ∙ ap (λ b. has u k && b) (has-not s k p h))

open_place : (a : Bool) → ((a && not false) || false) ≡ a
open_place true = refl
open_place false = refl

pub overlaid_up : (w u l w' u' l' far : ℕ) → far < 128 → w ≤ 128 → w' ≤ 128 → u' < 2 ^ w' → l' < 2 ^ w' → overlaid (planes w u l) (pos far) (planes w' u' l') ≡ planes w (bit_or (bit_and u (340282366920938463463374607431768211455 - (2 ^ w' - 1) * 2 ^ far % 340282366920938463463374607431768211456)) (u' * 2 ^ far % 340282366920938463463374607431768211456)) (bit_or (bit_and l (340282366920938463463374607431768211455 - (2 ^ w' - 1) * 2 ^ far % 340282366920938463463374607431768211456)) (l' * 2 ^ far % 340282366920938463463374607431768211456))
overlaid_up w u l w' u' l' far f most most' p q =
    overlaid-planes w u l _ _ (pos far) (planes w' u' l') (λ k lt. at_place k (omega arith) (cases_lt k far))
  where
    laid : (v v' k : ℕ) → k < 128 → has (bit_or (bit_and v (340282366920938463463374607431768211455 - (2 ^ w' - 1) * 2 ^ far % 340282366920938463463374607431768211456)) (v' * 2 ^ far % 340282366920938463463374607431768211456)) k ≡ ((has v k && not (has ((2 ^ w' - 1) * 2 ^ far % 340282366920938463463374607431768211456) k)) || has (v' * 2 ^ far % 340282366920938463463374607431768211456) k)
    laid v v' k h = laid_plane v _ _ k (mod_below _ (2 ^ 128) (pow_pos 128)) h

    at_place : (k : ℕ) → k < 128 → ((k < far) ⊎ (far ≤ k)) → bit_or_else (planes w' u' l') (neg_ℤ (pos far) +ℤ pos k) (at u l k) ≡ at (bit_or (bit_and u (340282366920938463463374607431768211455 - (2 ^ w' - 1) * 2 ^ far % 340282366920938463463374607431768211456)) (u' * 2 ^ far % 340282366920938463463374607431768211456)) (bit_or (bit_and l (340282366920938463463374607431768211455 - (2 ^ w' - 1) * 2 ^ far % 340282366920938463463374607431768211456)) (l' * 2 ^ far % 340282366920938463463374607431768211456)) k
    at_place k h (inl lower) =
        let place : neg_ℤ (pos far) +ℤ pos k ≡ negsuc (far - suc k) = omega (arith, ints) in
        ap (λ z. bit_or_else (planes w' u' l') z (at u l k)) place
        ∙ sym (rw (laid u u' k h, laid l l' k h, has-shl_low (2 ^ w' - 1) far k lower h, has-shl_low u' far k lower h, has-shl_low l' far k lower h, open_place (has u k), open_place (has l k)) refl)
    at_place k h (inr upper) =
        let place : neg_ℤ (pos far) +ℤ pos k ≡ pos (k - far) = omega (arith, ints) in
        ap (λ z. bit_or_else (planes w' u' l') z (at u l k)) place
        ∙ laid_bit w' u' l' (k - far) (has u k) (has l k) p q
        ∙ sym (rw (laid u u' k h, laid l l' k h, has-shl (2 ^ w' - 1) far k upper h, has-shl u' far k upper h, has-shl l' far k upper h) refl)

pub overlaid_down : (w u l w' u' l' far : ℕ) → far < 128 → w ≤ 128 → w' ≤ 128 → u' < 2 ^ w' → l' < 2 ^ w' → overlaid (planes w u l) (neg_ℤ (pos far)) (planes w' u' l') ≡ planes w (bit_or (bit_and u (340282366920938463463374607431768211455 - (2 ^ w' - 1) / 2 ^ far)) (u' / 2 ^ far)) (bit_or (bit_and l (340282366920938463463374607431768211455 - (2 ^ w' - 1) / 2 ^ far)) (l' / 2 ^ far))
overlaid_down w u l w' u' l' far f most most' p q =
    overlaid-planes w u l _ _ (neg_ℤ (pos far)) (planes w' u' l') (λ k lt. at_place k (omega arith))
  where
    laid : (v v' k : ℕ) → k < 128 → has (bit_or (bit_and v (340282366920938463463374607431768211455 - (2 ^ w' - 1) / 2 ^ far)) (v' / 2 ^ far)) k ≡ ((has v k && not (has ((2 ^ w' - 1) / 2 ^ far) k)) || has (v' / 2 ^ far) k)
    laid v v' k h = laid_plane v _ _ k (omega (arith, shr_le (2 ^ w' - 1) far, ones_below w' most')) h

    at_place : (k : ℕ) → k < 128 → bit_or_else (planes w' u' l') (neg_ℤ (neg_ℤ (pos far)) +ℤ pos k) (at u l k) ≡ at (bit_or (bit_and u (340282366920938463463374607431768211455 - (2 ^ w' - 1) / 2 ^ far)) (u' / 2 ^ far)) (bit_or (bit_and l (340282366920938463463374607431768211455 - (2 ^ w' - 1) / 2 ^ far)) (l' / 2 ^ far)) k
    at_place k h =
        let place : neg_ℤ (neg_ℤ (pos far)) +ℤ pos k ≡ pos (far + k) = omega (arith, ints) in
        ap (λ z. bit_or_else (planes w' u' l') z (at u l k)) place
        ∙ laid_bit w' u' l' (far + k) (has u k) (has l k) p q
        ∙ sym (rw (laid u u' k h, laid l l' k h, has-shr (2 ^ w' - 1) far k, has-shr u' far k, has-shr l' far k) refl)

-- ---- a place that is not known

kept_on_filled : (a : List Bit) (b : Bit) → each_pair keep_bit a (replicate (length a) b) ≡ each (λ x. keep_bit x b) a
unfolding each each_pair
kept_on_filled [] b = refl
kept_on_filled (a ∷ more) b = ap (λ bs. keep_bit a b ∷ bs) (kept_on_filled more b)

each_same : (f g : Bit → Bit) → ((x : Bit) → f x ≡ g x) → (a : List Bit) → each f a ≡ each g a
unfolding each
each_same f g h [] = refl
each_same f g h (a ∷ more) = let here = h a in let rest = each_same f g h more in cc

are_filled : (x b : Bit) (n : ℕ) → all_are x (replicate (suc n) b) ≡ same_bit x b
unfolding all_are
are_filled x b zero = and_true (same_bit x b)
  where
    and_true : (t : Bool) → (t && true) ≡ t
    and_true true = refl
    and_true false = refl
are_filled x b (suc n) = ap (λ t. same_bit x b && t) (are_filled x b n) ∙ and_self (same_bit x b)
  where
    and_self : (t : Bool) → (t && t) ≡ t
    and_self true = refl
    and_self false = refl

-- all bits that could be put are one
kept_with : (a put : List Bit) (b : Bit) → 0 < length put → put ≡ replicate (length put) b → each (kept_bit put) a ≡ each_pair keep_bit a (replicate (length a) b)
unfolding kept_bit
kept_with a put b some e =
    let size : suc (length put - 1) ≡ length put = omega arith in
    let shape : put ≡ replicate (suc (length put - 1)) b = e ∙ ap (λ n. replicate n b) (sym size) in
    each_same (kept_bit put) (λ x. keep_bit x b) (λ x. ap (λ t. cond t x Unknown) (ap (all_are x) shape ∙ are_filled x b (length put - 1)) ∙ same_on_bits (λ y z. cond (same_bit y z) y Unknown) keep_bit refl x b) a
    ∙ sym (kept_on_filled a b)

filled_with : (x : Bit) (put : List Bit) → all_are x put ≡ true → put ≡ replicate (length put) x
unfolding all_are
filled_with x [] h = refl
filled_with x (b ∷ more) h = let here : x ≡ b = same_bit-true x b (left_of _ _ h) in let rest : more ≡ replicate (length more) x = filled_with x more (right_of _ _ h) in ap (λ y. y ∷ more) (sym here) ∙ ap (λ ys. x ∷ ys) rest

pub kept_same : (a put : List Bit) (b : Bit) → slice_get put 0 ≡ Some b → put ≡ replicate (length put) b → each (kept_bit put) a ≡ each_pair keep_bit a (replicate (length a) b)
kept_same a [] b h e = cc
kept_same a (c ∷ more) b h e = kept_with a (c ∷ more) b (omega arith) e

all_are_first : (x : Bit) (put : List Bit) (b : Bit) → all_are x put ≡ true → slice_get put 0 ≡ Some b → x ≡ b
unfolding all_are
all_are_first x [] b h e = cc
all_are_first x (c ∷ more) b h e = let here : x ≡ c = same_bit-true x c (left_of _ _ h) in cc

each_x : (a : List Bit) → each (λ _. Unknown) a ≡ all_x (length a)
unfolding each
each_x [] = refl
each_x (a ∷ more) = ap (λ bs. Unknown ∷ bs) (each_x more)

pub kept_other : (a put : List Bit) (b : Bit) → slice_get put 0 ≡ Some b → (put ≡ replicate (length put) b → ⊥) → each (kept_bit put) a ≡ all_x (length a)
unfolding kept_bit
kept_other a put b e ne = each_same (kept_bit put) (λ _. Unknown) (λ x. ap (λ t. cond t x Unknown) (differs x (cases_Bool (all_are x put)))) a ∙ each_x a
  where
    differs : (x : Bit) → ((all_are x put ≡ true) ⊎ (all_are x put ≡ false)) → all_are x put ≡ false
    differs x (inl h) = absurd (ne (filled_with x put h ∙ ap (replicate (length put)) (all_are_first x put b h e)))
    differs x (inr h) = h
