-- The width of what each operator gives, under the conditions of its call.
use Rattle.std.proofs.Common.{◌≡◌, ℕ, zero, suc, ◌+◌, ◌-◌, ◌≤◌, Bool, true, false, cond, ◌&&◌, List, [], ◌∷◌, ◌++◌, length, drop, replicate, refl, sym, ap, ◌∙◌, arith}
use Rattle.std.specs.Prelude.{ℤ, pos, negsuc, ◌+ℤ◌, fold, All}
use Rattle.std.proofs.lemmas.List.{length-replicate, length-append, length-take, length-drop}
use Rattle.fourvec.specs.declared.Bit.{Bit}
use Rattle.fourvec.specs.declared.Bit.TheVariants.{Zero, One, Unknown, Floating}
use Rattle.fourvec.specs.declared.Spot.{Spot}
use Rattle.fourvec.specs.Bits.{each, each_pair, choose, first, top, is_known, both_known, is_divisor, number, vector, signed_vector, all_x, moved_up, moved_down, unfloat_of, not_of, and_of, or_of, xor_of, res_of, red_and_of, red_or_of, red_xor_of, truth_of, eq_of, lt_of, slt_of, add_of, sub_of, mul_of, div_of, rem_of, neg_of, sdiv_of, srem_of, shl_of, shr_of, sar_of, concat_of, slice_of, zext_of, sext_of, cond_of, pick_of}
use Rattle.fourvec.specs.Spots.{window, place_of, dyn_slice_of, overlaid, kept_bit, dyn_put_of}
use Rattle.fourvec.specs.Laws.{resolution}
use Rattle.fourvec.proofs.Basic.{length-vector}

-- ---- the words that operators are made of

pub length-each : (f : Bit → Bit) (a : List Bit) → length (each f a) ≡ length a
unfolding each
length-each f [] = refl
length-each f (a ∷ more) = ap suc (length-each f more)

pub length-each_pair : (f : Bit → Bit → Bit) (a b : List Bit) → length a ≡ length b → length (each_pair f a b) ≡ length a
unfolding each_pair
length-each_pair f [] b e = refl
length-each_pair f (a ∷ more) [] e = cc
length-each_pair f (a ∷ more) (b ∷ others) e = ap suc (length-each_pair f more others cc)

pub length_either : (k : Bool) (w n : ℕ) → length (cond k (vector w n) (all_x w)) ≡ w
length_either true w n = length-vector w n
length_either false w n = length-replicate w Unknown

pub length_signed : (k : Bool) (w : ℕ) (z : ℤ) → length (cond k (signed_vector w z) (all_x w)) ≡ w
length_signed true w (pos n) = length-vector w n
length_signed true w (negsuc n) = length-vector w _
length_signed false w z = length-replicate w Unknown

pub length-moved_up : (n : ℕ) (a : List Bit) → length (moved_up n a) ≡ length a
length-moved_up n a = omega (arith, length-take (length a) (replicate n Zero ++ a), length-append (replicate n Zero) a)

pub length-moved_down : (fill : Bit) (n : ℕ) (a : List Bit) → length (moved_down fill n a) ≡ length a
length-moved_down fill n a = omega (arith, length-take (length a) (drop n a ++ replicate (length a) fill), length-append (drop n a) (replicate (length a) fill), length-replicate (length a) fill)

length_moved : (k : Bool) (w : ℕ) (a : List Bit) → length a ≡ w → length (cond k a (all_x w)) ≡ w
length_moved true w a e = e
length_moved false w a e = length-replicate w Unknown

length-choose : (f : Bit → Bit → Bit) (t : Bit) (a b : List Bit) → length a ≡ length b → length (choose f t a b) ≡ length a
length-choose f One a b e = refl
length-choose f Zero a b e = sym e
length-choose f Unknown a b e = length-each_pair f a b e
length-choose f Floating a b e = length-each_pair f a b e

length_extended : (a : List Bit) (width : ℕ) (fill : Bit) → length a ≤ width → length (a ++ replicate (width - length a) fill) ≡ width
length_extended a width fill h = omega (arith, length-append a (replicate (width - length a) fill), length-replicate (width - length a) fill)

pub length-window : (a : List Bit) (place : ℤ) (width : ℕ) → length (window a place width) ≡ width
unfolding window
length-window a place zero = refl
length-window a place (suc width) = ap suc (length-window a (place +ℤ pos 1) width)

pub length-overlaid : (a : List Bit) (place : ℤ) (put : List Bit) → length (overlaid a place put) ≡ length a
unfolding overlaid
length-overlaid [] place put = refl
length-overlaid (a ∷ more) place put = ap suc (length-overlaid more (place +ℤ negsuc 0) put)

-- ---- bit by bit

pub length-unfloat_of : (a : List Bit) → length (unfloat_of a) ≡ length a
length-unfloat_of a = length-each _ a

pub length-not_of : (a : List Bit) → length (not_of a) ≡ length a
length-not_of a = length-each _ a

pub length-and_of : (a b : List Bit) → length a ≡ length b → length (and_of a b) ≡ length a
length-and_of a b e = length-each_pair _ a b e

pub length-or_of : (a b : List Bit) → length a ≡ length b → length (or_of a b) ≡ length a
length-or_of a b e = length-each_pair _ a b e

pub length-xor_of : (a b : List Bit) → length a ≡ length b → length (xor_of a b) ≡ length a
length-xor_of a b e = length-each_pair _ a b e

pub length-res_of : (a b : List Bit) → length a ≡ length b → length (res_of a b) ≡ length a
length-res_of a b e = length-each_pair _ a b e

pub length-resolution : (width : ℕ) (contributions : List (List Bit)) → All (λ a. length a ≡ width) contributions → length (resolution width contributions) ≡ width
length-resolution width contributions h = folded contributions (replicate width Floating) h (length-replicate width Floating)
  where
    folded : (rest : List (List Bit)) (start : List Bit) → All (λ a. length a ≡ width) rest → length start ≡ width → length (fold res_of start rest) ≡ width
    folded [] start h e = e
    folded (a ∷ rest) start h e =
        folded rest (res_of start a) (λ k d lt. h (suc k) d (omega arith)) (length-each_pair _ start a (e ∙ sym (h 0 [] (omega arith))) ∙ e)

-- ---- one bit

pub length-red_and_of : (a : List Bit) → length (red_and_of a) ≡ 1
length-red_and_of a = refl

pub length-red_or_of : (a : List Bit) → length (red_or_of a) ≡ 1
length-red_or_of a = refl

pub length-red_xor_of : (a : List Bit) → length (red_xor_of a) ≡ 1
length-red_xor_of a = refl

pub length-truth_of : (a : List Bit) → length (truth_of a) ≡ 1
unfolding truth_of
length-truth_of a = refl

pub length-eq_of : (a b : List Bit) → length (eq_of a b) ≡ 1
unfolding eq_of
length-eq_of a b = refl

pub length-lt_of : (a b : List Bit) → length (lt_of a b) ≡ 1
unfolding lt_of
length-lt_of a b = refl

pub length-slt_of : (a b : List Bit) → length (slt_of a b) ≡ 1
unfolding slt_of
length-slt_of a b = refl

-- ---- arithmetic

pub length-neg_of : (a : List Bit) → length (neg_of a) ≡ length a
unfolding neg_of
length-neg_of a = length_either (is_known a) (length a) _

pub length-add_of : (a b : List Bit) → length (add_of a b) ≡ length a
unfolding add_of
length-add_of a b = length_either (both_known a b) (length a) _

pub length-sub_of : (a b : List Bit) → length (sub_of a b) ≡ length a
unfolding sub_of
length-sub_of a b = length_either (both_known a b) (length a) _

pub length-mul_of : (a b : List Bit) → length (mul_of a b) ≡ length a
unfolding mul_of
length-mul_of a b = length_either (both_known a b) (length a) _

pub length-div_of : (a b : List Bit) → length (div_of a b) ≡ length a
unfolding div_of
length-div_of a b = length_either (both_known a b && is_divisor b) (length a) _

pub length-rem_of : (a b : List Bit) → length (rem_of a b) ≡ length a
unfolding rem_of
length-rem_of a b = length_either (both_known a b && is_divisor b) (length a) _

pub length-sdiv_of : (a b : List Bit) → length (sdiv_of a b) ≡ length a
unfolding sdiv_of
length-sdiv_of a b = length_signed (both_known a b && is_divisor b) (length a) _

pub length-srem_of : (a b : List Bit) → length (srem_of a b) ≡ length a
unfolding srem_of
length-srem_of a b = length_signed (both_known a b && is_divisor b) (length a) _

-- ---- moves

pub length-shl_of : (a b : List Bit) → length (shl_of a b) ≡ length a
unfolding shl_of
length-shl_of a b = length_moved (is_known b) (length a) _ (length-moved_up (number b) a)

pub length-shr_of : (a b : List Bit) → length (shr_of a b) ≡ length a
unfolding shr_of
length-shr_of a b = length_moved (is_known b) (length a) _ (length-moved_down Zero (number b) a)

pub length-sar_of : (a b : List Bit) → length (sar_of a b) ≡ length a
unfolding sar_of
length-sar_of a b = length_moved (is_known b) (length a) _ (length-moved_down (top a) (number b) a)

pub length-concat_of : (a b : List Bit) → length (concat_of a b) ≡ length a + length b
length-concat_of a b = omega (arith, length-append b a)

pub length-slice_of : (a : List Bit) (lo width : ℕ) → lo + width ≤ length a → length (slice_of a lo width) ≡ width
length-slice_of a lo width h = omega (arith, length-take width (drop lo a), length-drop lo a)

pub length-zext_of : (a : List Bit) (width : ℕ) → length a ≤ width → length (zext_of a width) ≡ width
length-zext_of a width h = length_extended a width Zero h

pub length-sext_of : (a : List Bit) (width : ℕ) → length a ≤ width → length (sext_of a width) ≡ width
length-sext_of a width h = length_extended a width (top a) h

-- ---- choices and places

pub length-cond_of : (c a b : List Bit) → length a ≡ length b → length (cond_of c a b) ≡ length a
unfolding cond_of
length-cond_of c a b e = length-choose _ (first c) a b e

pub length-pick_of : (c a b : List Bit) → length a ≡ length b → length (pick_of c a b) ≡ length a
unfolding pick_of
length-pick_of c a b e = length-choose _ (first c) a b e

pub length-dyn_slice_of : (a at : List Bit) (spot : Spot) → length (dyn_slice_of a at spot) ≡ spot.width
unfolding dyn_slice_of
length-dyn_slice_of a at spot = length_moved (is_known at) spot.width _ (length-window a (place_of spot at) spot.width)

pub length-dyn_put_of : (a at : List Bit) (spot : Spot) (put : List Bit) → length (dyn_put_of a at spot put) ≡ length a
unfolding dyn_put_of
length-dyn_put_of a at spot put = either (is_known at)
  where
    either : (k : Bool) → length (cond k (overlaid a (place_of spot at) put) (each (kept_bit put) a)) ≡ length a
    either true = length-overlaid a (place_of spot at) put
    either false = length-each (kept_bit put) a

-- the width of each operator's result
pub ruleset widths = (length-unfloat_of, length-not_of, length-and_of, length-or_of, length-xor_of, length-res_of, length-red_and_of, length-red_or_of, length-red_xor_of, length-truth_of, length-eq_of, length-lt_of, length-slt_of, length-neg_of, length-add_of, length-sub_of, length-mul_of, length-div_of, length-rem_of, length-sdiv_of, length-srem_of, length-shl_of, length-shr_of, length-sar_of, length-concat_of, length-slice_of, length-zext_of, length-sext_of, length-cond_of, length-pick_of, length-dyn_slice_of, length-dyn_put_of)
