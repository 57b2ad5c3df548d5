use Rattle.std.proofs.Common.{List, length, take, drop, ap, ◌∙◌, arith}
use Rattle.fourvec.specs.declared.Bit.{Bit}
use Rattle.fourvec.proofs.Basic.{vector_on_planes, length-vector}
use Rattle.sv_typed.proofs.Vectors.{vector_front}
use Rattle.sv_typed.proofs.bits.vector.Goals as goal

pub slice-requires-clause-within : goal.slice-requires-clause-within
slice-requires-clause-within c =
    let e = ap length (c.new.ensures ∙ vector_on_planes 128 c.args.n) ∙ length-vector 128 c.args.n in
    let m = c.requires.most in
    omega arith

pub returns-clause-width : goal.returns-clause-width
returns-clause-width c =
    ap length c.slice.ensures
    ∙ ap (λ (a : List Bit). length (take c.args.width (drop 0 a))) (c.new.ensures ∙ vector_on_planes 128 c.args.n)
    ∙ ap length (vector_front c.args.width 128 c.args.n c.requires.most) ∙ length-vector c.args.width c.args.n
