-- Vectors of one bit, widened.
use Rattle.std.proofs.Common.{◌≡◌, ℕ, zero, suc, ◌-◌, ◌<◌, [], ◌∷◌, replicate, refl, ap, arith}
use Rattle.fourvec.specs.declared.Bit.{Bit}
use Rattle.fourvec.specs.declared.Bit.TheVariants.{Zero, One, Unknown, Floating}
use Rattle.fourvec.specs.Bits.{planes, sext_of}

pub one_zero : planes 1 0 0 ≡ Zero ∷ []
unfolding planes
one_zero = refl

pub one_one : planes 1 1 1 ≡ One ∷ []
unfolding planes
one_one = refl

pub one_unknown : planes 1 1 0 ≡ Unknown ∷ []
unfolding planes
one_unknown = refl

pub one_floating : planes 1 0 1 ≡ Floating ∷ []
unfolding planes
one_floating = refl

pub ruleset one_bit = (one_zero, one_one, one_unknown, one_floating)

pub bit_widened : (b : Bit) (w : ℕ) → 0 < w → sext_of (b ∷ []) w ≡ replicate w b
bit_widened b zero h = absurd (omega arith)
bit_widened b (suc w) h = let e : suc w - 1 ≡ w = omega arith in ap (λ n. b ∷ replicate n b) e
