use Rattle.std.proofs.Common.{ℕ, ◌-◌, ◌/◌, ◌^◌, sym, subst, ap, ◌∙◌, refl, arith, IsTrue}
use Rattle.std.proofs.lemmas.Nat.{pow_pos}
use Rattle.fourvec.specs.Bits.{vector, signed_vector}
use Rattle.fourvec.proofs.Planes.{mask_is}
use Rattle.fourvec.proofs.Basic.{vector_on_planes}
use Rattle.sv_meaning.specs.Forms.{can_hold}
use Rattle.sv_types.specs.declared.whole.Whole.{Whole}
use Rattle.sv_types.specs.Types.{whole_is}
use Rattle.sv_types.proofs.Wholes.{below_held, below_vector, never_past}
use Rattle.sv_types.proofs.whole.Whole.vector.Goals as goal

pub overflow_sub-bits-in-Below : goal.overflow_sub-bits-in-Below
overflow_sub-bits-in-Below c =
    let m = mask_is c.args.width c.requires.most in
    let n = below_held c.args.width c.args.signed c.in-Below.number (subst (λ (z : Whole). IsTrue (can_hold c.args.width c.args.signed (whole_is z))) c.in-Below.is c.requires.held) in
    omega arith

pub new-requires-in-Below-clause-up_fits : goal.new-requires-in-Below-clause-up_fits
new-requires-in-Below-clause-up_fits c =
    let m = mask_is c.args.width c.requires.most in
    let p = pow_pos c.args.width in
    omega arith

pub new-requires-in-Below-clause-low_fits : goal.new-requires-in-Below-clause-low_fits
new-requires-in-Below-clause-low_fits c =
    let m = mask_is c.args.width c.requires.most in
    let p = pow_pos c.args.width in
    omega arith

pub returns-in-Natural : goal.returns-in-Natural
returns-in-Natural c = c.new.ensures ∙ vector_on_planes c.args.width c.in-Natural.number ∙ sym (ap (λ (z : Whole). signed_vector c.args.width (whole_is z)) c.in-Natural.is)

pub returns-in-Below : goal.returns-in-Below
returns-in-Below c =
    let w = c.args.width in
    let n = below_held w c.args.signed c.in-Below.number (subst (λ (z : Whole). IsTrue (can_hold w c.args.signed (whole_is z))) c.in-Below.is c.requires.held) in
    let m = mask_is w c.requires.most in
    c.new-in-Below.ensures ∙ vector_on_planes w (340282366920938463463374607431768211455 / 2 ^ (128 - w) - c.in-Below.number)
    ∙ ap (λ (k : ℕ). vector w (k - c.in-Below.number)) m ∙ below_vector w c.in-Below.number n ∙ sym (ap (λ (z : Whole). signed_vector w (whole_is z)) c.in-Below.is)

pub returns-in-Past : goal.returns-in-Past
returns-in-Past c = absurd (never_past c.args.width c.args.signed c.args.self _ c.requires.most (ap whole_is c.in-Past.is) refl c.requires.held)
