-- Differences of whole numbers of 32 bits, as code computes them.
use Rattle.std.proofs.Common.{◌≡◌, ◌≤◌, Bool, true, false, IsTrue, sym, ap, ◌∙◌, arith, ℤ, pos, negsuc, ◌-ℤ◌, ◌≤ℤ◌, nat_abs, if◌then◌else◌}
use Rattle.std.proofs.lemmas.Int.{ints, to_z-of_z}
use Rattle.std.proofs.lemmas.Bool.Decides.{nat_tests}
use mir.Syntax.{w64}
use mir.Val.{to_z, of_z, SFits}
use Rattle.sv_meaning.specs.Meanings.{is_bound}
use Rattle.sv_meaning.specs.Layouts.{goes_down}
use Rattle.sv_names.specs.declared.cursor.Row.{Row}
use Rattle.sv_typing.specs.Picks.{offset_of}
use Rattle.sv_typing.specs.Ranges.{is_turned, lowest_of}
use Rattle.sv_names.proofs.Sound.{same_bound}

bound_near : (i : ℤ) → IsTrue (is_bound i) → nat_abs i ≤ 2147483648
bound_near i h = grind (arith, ints, nat_tests)

near_fits : (a b : ℤ) → nat_abs a ≤ 2147483648 → nat_abs b ≤ 2147483648 → SFits w64 (a -ℤ b)
near_fits a b h k = grind (arith, ints)

near_far : (a b : ℤ) → nat_abs a ≤ 2147483648 → nat_abs b ≤ 2147483648 → nat_abs (a -ℤ b) ≤ 4294967296
near_far a b h k = omega (arith, ints)

pub few_bound : (i : ℤ) → negsuc 999 ≤ℤ i → i ≤ℤ pos 1000 → IsTrue (is_bound i)
few_bound i h k = grind (arith, ints, nat_tests)

pub difference_fits : (a b : ℤ) → IsTrue (is_bound a) → IsTrue (is_bound b) → SFits w64 (to_z w64 (of_z w64 a) -ℤ to_z w64 (of_z w64 b))
difference_fits a b h k = rw (same_bound a h, same_bound b k) (near_fits a b (bound_near a h) (bound_near b k))

pub difference_is : (a b : ℤ) → IsTrue (is_bound a) → IsTrue (is_bound b) → to_z w64 (of_z w64 (to_z w64 (of_z w64 a) -ℤ to_z w64 (of_z w64 b))) ≡ a -ℤ b
difference_is a b h k = to_z-of_z w64 _ (difference_fits a b h k) ∙ (λ i. same_bound a h i -ℤ same_bound b k i)

pub difference_most : (a b : ℤ) → IsTrue (is_bound a) → IsTrue (is_bound b) → nat_abs (to_z w64 (of_z w64 (to_z w64 (of_z w64 a) -ℤ to_z w64 (of_z w64 b)))) ≤ 4294967296
difference_most a b h k = rw (difference_is a b h k) (near_far a b (bound_near a h) (bound_near b k))

pub lowest_chosen : (row : Row) (a b x : ℤ) (t : Bool) → SFits w64 a → SFits w64 b → t ≡ is_turned row (to_z w64 (of_z w64 a)) (to_z w64 (of_z w64 b))
    → x ≡ (if t then row.right -ℤ b else b -ℤ row.right) → x ≡ lowest_of row a b
lowest_chosen row a b x t f g e h =
    h ∙ ap (λ (z : Bool). if z then row.right -ℤ b else b -ℤ row.right) (e ∙ (λ i. is_turned row (to_z-of_z w64 a f i) (to_z-of_z w64 b g i)))

pub when_true : (x y z : ℤ) (t : Bool) → t ≡ true → x ≡ y → x ≡ (if t then y else z)
when_true x y z t h e = e ∙ ap (λ (b : Bool). if b then y else z) (sym h)

pub when_false : (x y z : ℤ) (t : Bool) → t ≡ false → x ≡ z → x ≡ (if t then y else z)
when_false x y z t h e = e ∙ ap (λ (b : Bool). if b then y else z) (sym h)

pub offset_chosen : (row : Row) (shift x : ℤ) (t : Bool) → t ≡ goes_down row.left row.right → x ≡ (if t then shift -ℤ row.right else row.right -ℤ shift) → x ≡ offset_of row shift
offset_chosen row shift x t e h = h ∙ ap (λ (z : Bool). if z then shift -ℤ row.right else row.right -ℤ shift) e
