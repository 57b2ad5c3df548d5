-- Vectors read as whole numbers.
use Rattle.std.proofs.Common.{◌≡◌, ℕ, ◌-◌, ◌≤◌, ◌^◌, Bool, true, false, IsFalse, List, length, refl, sym, ap, ◌∙◌, arith, ℤ, pos, negsuc, cond}
use Rattle.std.proofs.lemmas.Bool.Decides.{nat_tests}
use Rattle.fourvec.specs.declared.Bit.{Bit}
use Rattle.fourvec.specs.Bits.{planes, is_known, number, low_plane, up_plane, is_negative}
use Rattle.fourvec.proofs.Basic.{planes_of, number_on_planes, up_plane-lt, low_plane-lt}
use Rattle.sv_meaning.specs.Meanings.{whole, is_bound}

pub number_is : (a : List Bit) → is_known a ≡ true → low_plane a ≡ number a
number_is a h =
    let p = planes_of a in
    let k : is_known (planes (length a) (up_plane a) (low_plane a)) ≡ true = ap is_known p ∙ h in
    sym (number_on_planes (length a) (up_plane a) (low_plane a) (up_plane-lt a) (low_plane-lt a) k) ∙ ap number p

pub whole_negative : (s : Bool) (a : List Bit) → s ≡ true → is_negative a ≡ true → whole s a ≡ negsuc (2 ^ length a - 1 - number a)
whole_negative true a h n = ap (λ b. cond b (negsuc (2 ^ length a - 1 - number a)) (pos (number a))) n
whole_negative false a h n = cc

pub whole_unsigned : (s : Bool) (a : List Bit) → s ≡ false → whole s a ≡ pos (number a)
whole_unsigned false a h = refl
whole_unsigned true a h = cc

pub whole_positive : (s : Bool) (a : List Bit) → is_negative a ≡ false → whole s a ≡ pos (number a)
whole_positive false a h = refl
whole_positive true a h = ap (λ b. cond b (negsuc (2 ^ length a - 1 - number a)) (pos (number a))) h

pub ruleset wholes = (number_is, whole_negative, whole_unsigned, whole_positive)

pub far_below : (i : ℤ) (n : ℕ) → i ≡ negsuc n → 2 ^ 31 ≤ n → IsFalse (is_bound i)
far_below i n e h = rw e (grind (arith, nat_tests))
