use Rattle.std.proofs.Common.{◌∙◌, length, sym, ap}
use Rattle.fourvec.specs.Bits.{add_of, sub_of}
use Rattle.fourvec.proofs.Basic.{vector_on_planes, length-vector}
use Rattle.fourvec.proofs.Widths.{length-add_of, length-sub_of}
use Rattle.sv_meaning.specs.Deeds.{counted}
use Rattle.sv_loops.proofs.steps.counted.Goals as goal

pub add-requires : goal.add-requires
add-requires c = c.requires ∙ sym (ap length (c.new-one.ensures ∙ vector_on_planes 32 1) ∙ length-vector 32 1)

pub sub-requires : goal.sub-requires
sub-requires c = c.requires ∙ sym (ap length (c.new-one.ensures ∙ vector_on_planes 32 1) ∙ length-vector 32 1)

pub returns-in-Inc-clause-is : goal.returns-in-Inc-clause-is
returns-in-Inc-clause-is c = c.add.ensures ∙ ap (add_of c.args.bits.now) (c.new-one.ensures ∙ vector_on_planes 32 1) ∙ sym (ap (λ m. counted m c.args.bits.now) c.in-Inc.is)

pub returns-in-Inc-clause-width : goal.returns-in-Inc-clause-width
returns-in-Inc-clause-width c = ap length c.add.ensures ∙ length-add_of c.args.bits.now c.new-one.result ∙ c.requires

pub returns-in-Dec-clause-is : goal.returns-in-Dec-clause-is
returns-in-Dec-clause-is c = c.sub.ensures ∙ ap (sub_of c.args.bits.now) (c.new-one.ensures ∙ vector_on_planes 32 1) ∙ sym (ap (λ m. counted m c.args.bits.now) c.in-Dec.is)

pub returns-in-Dec-clause-width : goal.returns-in-Dec-clause-width
returns-in-Dec-clause-width c = ap length c.sub.ensures ∙ length-sub_of c.args.bits.now c.new-one.result ∙ c.requires
