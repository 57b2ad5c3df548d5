-- What the variables have.
use Rattle.std.proofs.Common.{◌≡◌, ℕ, zero, suc, ◌-◌, ◌<◌, Bool, true, false, cond, eqb, [], ◌∷◌, length, replicate, refl, ap, ◌∙◌, arith}
use Rattle.std.proofs.lemmas.List.{length-replicate}
use Rattle.std.proofs.lemmas.Bool.{eqb-true}
use Rattle.fourvec.specs.declared.Bit.TheVariants.{Unknown}
use Rattle.fourvec.specs.Bits.{planes, all_x, sext_of}
use Rattle.svex_shape.specs.Values.{Vector, Rows, HasWidths, fitted, read, value_in_rows}

one_x : planes 1 1 0 ≡ Unknown ∷ []
unfolding planes
one_x = refl

pub x_widened : (w : ℕ) → 0 < w → sext_of (planes 1 1 0) w ≡ all_x w
x_widened zero h = absurd (omega arith)
x_widened (suc w) h =
    let e : suc w - 1 ≡ w = omega arith in
    ap (λ a. sext_of a (suc w)) one_x ∙ ap (λ n. Unknown ∷ replicate n Unknown) e

length-fitted : (w : ℕ) (v : Vector) → length (fitted w v) ≡ w
unfolding fitted
length-fitted w v = either (eqb (length v) w) refl
  where
    either : (b : Bool) → eqb (length v) w ≡ b → length (cond b v (all_x w)) ≡ w
    either true e = eqb-true (length v) w e
    either false e = length-replicate w Unknown

pub read_has_widths : (rows : Rows) → HasWidths (read rows)
read_has_widths rows name width = length-fitted width (value_in_rows rows name)
