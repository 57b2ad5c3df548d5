-- Lemmas of vectors made, extended and read.
use Rattle.std.proofs.Common.{◌≡◌, ℕ, zero, suc, ◌-◌, ◌*◌, ◌/◌, ◌≤◌, ◌<◌, ◌^◌, ◌%◌, Bool, true, false, List, [], ◌∷◌, length, take, drop, replicate, refl, sym, ap, ◌∙◌, arith, Some, None, pos, negsuc, cond, nat_le}
use Rattle.std.proofs.lemmas.List.{take-append-le}
use Rattle.fourvec.specs.declared.Bit.{Bit}
use Rattle.fourvec.specs.Bits.{vector, planes, all_x, first, sext_of, zext_of, is_known, number, low_plane, up_plane, is_negative, is_odd, truth_bit}
use Rattle.fourvec.proofs.Basic.{vector_cut, planes_of, number_on_planes, up_plane-lt, low_plane-lt}
use Rattle.fourvec.proofs.Widths.{length-zext_of, length-sext_of}
use Rattle.std.proofs.lemmas.List.{take_all}
use Rattle.std.proofs.Math.Pow.{pow-lt}
use Rattle.std.proofs.Math.Nat.{mod-eq_of_lt}
use Rattle.std.proofs.lemmas.Bool.Decides.{nat_tests}
use Rattle.sv_meaning.specs.Meanings.{extend, fitted, whole, log_from}
use Rattle.sv_typed.specs.Typed.{natural, exponent_of, raised}

pub vector_front : (w v n : ℕ) → w ≤ v → take w (drop 0 (vector v n)) ≡ vector w n
unfolding vector
vector_front zero v n h = refl
vector_front (suc w) zero n h = absurd (omega arith)
vector_front (suc w) (suc v) n h = ap (λ t. truth_bit (is_odd n) ∷ t) (vector_front w v (n / 2) (omega arith))

pub copies_of_one : (a : List Bit) (w : ℕ) → length a ≡ 1 → 1 ≤ w → sext_of a w ≡ replicate w (first a)
copies_of_one [] w e h = absurd (omega arith)
copies_of_one (b ∷ []) zero e h = absurd (omega arith)
copies_of_one (b ∷ []) (suc w) e h = let d : suc w - 1 ≡ w = omega arith in ap (λ k. b ∷ replicate k b) d
copies_of_one (b ∷ c ∷ a) w e h = absurd (omega arith)

pub one_x : (w : ℕ) → replicate w (first (planes 1 1 0)) ≡ all_x w
unfolding planes
one_x w = refl

pub cut : (s : Bool) (w : ℕ) (a : List Bit) → w ≤ length a → take w (drop 0 a) ≡ fitted s w a
cut true w a h = sym (take-append-le w a _ h)
cut false w a h = sym (take-append-le w a _ h)

pub grown : (s : Bool) (w : ℕ) (a : List Bit) → length a ≤ w → extend s w a ≡ fitted s w a
grown true w a h = sym (take_all w (sext_of a w) (let e = length-sext_of a w h in omega arith))
grown false w a h = sym (take_all w (zext_of a w) (let e = length-zext_of a w h in omega arith))

pub number_is : (a : List Bit) → is_known a ≡ true → low_plane a ≡ number a
number_is a h =
    let p = planes_of a in
    let k : is_known (planes (length a) (up_plane a) (low_plane a)) ≡ true = ap is_known p ∙ h in
    sym (number_on_planes (length a) (up_plane a) (low_plane a) (up_plane-lt a) (low_plane-lt a) k) ∙ ap number p

pub whole_negative : (s : Bool) (a : List Bit) → s ≡ true → is_negative a ≡ true → whole s a ≡ negsuc (2 ^ length a - 1 - number a)
whole_negative true a h n = ap (λ b. cond b (negsuc (2 ^ length a - 1 - number a)) (pos (number a))) n
whole_negative false a h n = cc

pub whole_unsigned : (s : Bool) (a : List Bit) → s ≡ false → whole s a ≡ pos (number a)
whole_unsigned false a h = refl
whole_unsigned true a h = cc

pub whole_positive : (s : Bool) (a : List Bit) → is_negative a ≡ false → whole s a ≡ pos (number a)
whole_positive false a h = refl
whole_positive true a h = ap (λ b. cond b (negsuc (2 ^ length a - 1 - number a)) (pos (number a))) h

pub ruleset wholes = (number_is, whole_negative, whole_unsigned, whole_positive)

-- ---- exponents and powers

pub no_exponent : (s : Bool) (a : List Bit) → is_known a ≡ false → exponent_of s a ≡ None
no_exponent s a h = ap (λ b. cond b (natural (whole s a)) None) h

pub negative_exponent : (s : Bool) (a : List Bit) → is_known a ≡ true → s ≡ true → is_negative a ≡ true → exponent_of s a ≡ None
negative_exponent s a h k n = ap (λ b. cond b (natural (whole s a)) None) h ∙ ap natural (whole_negative s a k n)

pub some_exponent : (s : Bool) (a : List Bit) → is_known a ≡ true → s ≡ false → exponent_of s a ≡ Some (low_plane a)
some_exponent s a h k = ap (λ b. cond b (natural (whole s a)) None) h ∙ ap natural (whole_unsigned s a k) ∙ ap Some (sym (number_is a h))

pub positive_exponent : (s : Bool) (a : List Bit) → is_known a ≡ true → is_negative a ≡ false → exponent_of s a ≡ Some (low_plane a)
positive_exponent s a h k = ap (λ b. cond b (natural (whole s a)) None) h ∙ ap natural (whole_positive s a k) ∙ ap Some (sym (number_is a h))

pub ruleset exponents = (no_exponent, negative_exponent, some_exponent, positive_exponent)

pub raised_none : (w : ℕ) (a : List Bit) → raised w a None ≡ all_x w
raised_none w a = refl

pub raised_zero : (w n : ℕ) (a : List Bit) → n ≡ 0 → raised w a (Some n) ≡ vector w 1
raised_zero w zero a e = refl
raised_zero w (suc n) a e = absurd (omega arith)

pub raised_unknown : (w n : ℕ) (a : List Bit) → (n ≡ 0 → ⊥) → is_known a ≡ false → raised w a (Some n) ≡ all_x w
raised_unknown w zero a z h = absurd (z refl)
raised_unknown w (suc n) a z h = ap (λ b. cond b (vector w (number a ^ suc n)) (all_x w)) h

pub raised_known : (w n : ℕ) (a : List Bit) → w ≤ 128 → (n ≡ 0 → ⊥) → is_known a ≡ true → raised w a (Some n) ≡ vector w (low_plane a ^ n % 2 ^ 128)
raised_known w zero a l z h = absurd (z refl)
raised_known w (suc n) a l z h =
    ap (λ b. cond b (vector w (number a ^ suc n)) (all_x w)) h ∙ ap (λ x. vector w (x ^ suc n)) (sym (number_is a h)) ∙ sym (vector_cut w _ l)

pub ruleset powers = (raised_none, raised_zero, raised_unknown, raised_known)

-- ---- the least power that is not below

le_test : (a b : ℕ) → a ≤ b → nat_le a b ≡ true
le_test a b h = grind (arith, nat_tests)

no_le : (a b : ℕ) → b < a → nat_le a b ≡ false
no_le a b h = grind (arith, nat_tests)

pub shifted : (k : ℕ) → k < 128 → 1 * 2 ^ k % 340282366920938463463374607431768211456 ≡ 2 ^ k
shifted k h = let p : 2 ^ k < 2 ^ 128 = pow-lt h in let e : 1 * 2 ^ k ≡ 2 ^ k = omega arith in ap (λ x. x % 340282366920938463463374607431768211456) e ∙ mod-eq_of_lt p

pub log_here : (f k n : ℕ) → n ≤ 2 ^ k → log_from (suc f) k n ≡ k
unfolding log_from
log_here f k n h = ap (λ b. cond b k (log_from f (suc k) n)) (le_test n (2 ^ k) h)

pub log_on : (f k n : ℕ) → 2 ^ k < n → log_from (suc f) k n ≡ log_from f (suc k) n
unfolding log_from
log_on f k n h = ap (λ b. cond b k (log_from f (suc k) n)) (no_le n (2 ^ k) h)

pub log_none : (k n : ℕ) → log_from 0 k n ≡ k
unfolding log_from
log_none k n = refl
