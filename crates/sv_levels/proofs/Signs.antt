-- The signed number of a vector, read from its planes: a bit that is no 1 counts as 0.
use Rattle.std.proofs.Common.{◌≡◌, ℕ, suc, ◌+◌, ◌-◌, ◌*◌, ◌/◌, ◌<◌, ◌≤◌, ◌^◌, Bool, true, false, List, [], ◌∷◌, length, ℤ, pos, negsuc, cond, refl, sym, ap, ◌∙◌, subst, arith, slice_index_or}
use Rattle.std.proofs.Common.{FitsSigned, to_z, of_z}
use Rattle.std.specs.Int.{w128}
use Rattle.std.proofs.lemmas.Int.{to_z-of_z, to_z_pos}
use Rattle.std.proofs.Math.Nat.{pow-suc, pow-le-pow_right}
use Rattle.fourvec.specs.declared.Bit.{Bit}
use Rattle.fourvec.specs.declared.Bit.TheVariants.{Zero, One, Unknown, Floating}
use Rattle.fourvec.proofs.Basic.{number-lt}
use Rattle.fourvec.proofs.Planes.{mask_is}
use Rattle.fourvec.specs.Bits.{weight, number, is_one, is_negative, signed, low_bit, low_plane, each, unfloat_bit, unfloat_of}

one_above : (x y : Bit) (more : List Bit) → is_negative (x ∷ y ∷ more) ≡ is_negative (y ∷ more)
one_above x y more =
    let e : suc (suc (length more)) - 1 ≡ suc (suc (length more) - 1) = omega arith in
    ap (λ (k : ℕ). is_one (slice_index_or (x ∷ y ∷ more) k Zero)) e

weighs : (x : Bit) → weight x < 2
weighs Zero = omega arith
weighs One = omega arith
weighs Unknown = omega arith
weighs Floating = omega arith

weightless : (x : Bit) → is_one x ≡ false → weight x ≡ 0
weightless Zero h = refl
weightless One h = cc
weightless Unknown h = refl
weightless Floating h = refl

weighty : (x : Bit) → is_one x ≡ true → weight x ≡ 1
weighty Zero h = cc
weighty One h = refl
weighty Unknown h = cc
weighty Floating h = cc

-- where the top bit is no 1 the number is below half, and else it is not
pub below_half : (a : List Bit) → is_negative a ≡ false → number a + number a < 2 ^ length a
unfolding number
below_half [] h = omega arith
below_half (x ∷ []) h = let e = weightless x h in omega (arith, e)
below_half (x ∷ y ∷ more) h =
    let rest = below_half (y ∷ more) (sym (one_above x y more) ∙ h) in let head = weighs x in
    omega (arith, rest, head, pow-suc 2 (length more), pow-suc 2 (suc (length more)))

pub from_half : (a : List Bit) → is_negative a ≡ true → 2 ^ length a ≤ number a + number a
unfolding number
from_half [] h = cc
from_half (x ∷ []) h = let e = weighty x h in omega (arith, e)
from_half (x ∷ y ∷ more) h =
    let rest = from_half (y ∷ more) (sym (one_above x y more) ∙ h) in
    omega (arith, rest, pow-suc 2 (length more), pow-suc 2 (suc (length more)))

pub low_is : (a : List Bit) → low_plane (unfloat_of a) ≡ number a
unfolding low_plane number each
low_is [] = refl
low_is (x ∷ more) = λ i. weighed x i + 2 * low_is more i
  where
    weighed : (b : Bit) → low_bit (unfloat_bit b) ≡ weight b
    weighed Zero = refl
    weighed One = refl
    weighed Unknown = refl
    weighed Floating = refl

pub signed_below : (a : List Bit) → is_negative a ≡ true → signed a ≡ negsuc (2 ^ length a - 1 - number a)
signed_below a h = ap (λ b. cond b (negsuc (2 ^ length a - 1 - number a)) (pos (number a))) h

pub signed_from_zero : (a : List Bit) → is_negative a ≡ false → signed a ≡ pos (number a)
signed_from_zero a h = ap (λ b. cond b (negsuc (2 ^ length a - 1 - number a)) (pos (number a))) h

-- ---- what code reads

-- a distance or a number by the half of what so many bits hold
pub half_fits : (w k : ℕ) → w ≤ 128 → k + k < 2 ^ w → k < 170141183460469231731687303715884105728
half_fits w k h l = let most : 2 ^ w ≤ 2 ^ 128 = pow-le-pow_right {n = 2} (omega arith) h in omega (arith, most, l)

pub number_in_mask : (a : List Bit) (n w : ℕ) → n ≡ number a → w ≡ length a → w ≤ 128 → n ≤ 340282366920938463463374607431768211455 / 2 ^ (128 - w)
number_in_mask a n w p q h =
    let most : number a < 2 ^ w = subst (λ (k : ℕ). number a < 2 ^ k) (sym q) (number-lt a) in
    subst (λ (z : ℕ). n ≤ z) (sym (mask_is w h)) (omega (arith, most, p))

pub distance_is : (a : List Bit) (n w : ℕ) → n ≡ number a → w ≡ length a → w ≤ 128 → 340282366920938463463374607431768211455 / 2 ^ (128 - w) - n ≡ 2 ^ length a - 1 - number a
distance_is a n w p q h = (λ i. mask_is w h i - p i) ∙ ap (λ (k : ℕ). 2 ^ k - 1 - number a) q

pub distance_fits : (a : List Bit) (n w : ℕ) → n ≡ number a → w ≡ length a → w ≤ 128 → is_negative a ≡ true → 340282366920938463463374607431768211455 / 2 ^ (128 - w) - n < 170141183460469231731687303715884105728
distance_fits a n w p q h e =
    let long : length a ≤ 128 = omega (arith, q, h) in
    let more = from_half a e in
    let most = number-lt a in
    subst (λ (z : ℕ). z < 170141183460469231731687303715884105728) (sym (distance_is a n w p q h)) (half_fits (length a) (2 ^ length a - 1 - number a) long (omega (arith, more, most)))

pub number_fits : (a : List Bit) (n : ℕ) → n ≡ number a → length a ≤ 128 → is_negative a ≡ false → n < 170141183460469231731687303715884105728
number_fits a n p h e = let less = below_half a e in half_fits (length a) n h (omega (arith, less, p))

pub shown_below : (a : List Bit) (d : ℕ) (r : ℤ) → is_negative a ≡ true → d ≡ 2 ^ length a - 1 - number a → d < 170141183460469231731687303715884105728 → r ≡ negsuc d → to_z w128 (of_z w128 r) ≡ signed a
shown_below a d r e p h q =
    let fits : FitsSigned w128 r = subst (FitsSigned w128) (sym q) (record { sfits = h }) in
    to_z-of_z w128 r fits ∙ q ∙ ap negsuc p ∙ sym (signed_below a e)

pub shown_from_zero : (a : List Bit) (n : ℕ) → is_negative a ≡ false → n ≡ number a → n < 170141183460469231731687303715884105728 → to_z w128 n ≡ signed a
shown_from_zero a n e p h = to_z_pos w128 n h ∙ ap pos p ∙ sym (signed_from_zero a e)
