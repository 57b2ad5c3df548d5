use Rattle.std.proofs.Common.{length, ap, ◌∙◌}
use Rattle.fourvec.proofs.Widths.{length-not_of, length-truth_of, length-red_and_of, length-red_or_of, length-red_xor_of}
use Rattle.sv_typed.proofs.ops.reduced.Goals as goal

pub returns-in-LogicNot-clause-width : goal.returns-in-LogicNot-clause-width
returns-in-LogicNot-clause-width c = ap (λ l. length l) c.not.ensures ∙ length-not_of _ ∙ ap (λ l. length l) c.truth.ensures ∙ length-truth_of _

pub returns-in-And-clause-width : goal.returns-in-And-clause-width
returns-in-And-clause-width c = ap (λ l. length l) c.red_and.ensures ∙ length-red_and_of c.args.a.now

pub returns-in-Nand-clause-width : goal.returns-in-Nand-clause-width
returns-in-Nand-clause-width c = ap (λ l. length l) c.not-in-Nand.ensures ∙ length-not_of _ ∙ ap (λ l. length l) c.red_and-in-Nand.ensures ∙ length-red_and_of c.args.a.now

pub returns-in-Or-clause-width : goal.returns-in-Or-clause-width
returns-in-Or-clause-width c = ap (λ l. length l) c.red_or.ensures ∙ length-red_or_of c.args.a.now

pub returns-in-Nor-clause-width : goal.returns-in-Nor-clause-width
returns-in-Nor-clause-width c = ap (λ l. length l) c.not-in-Nor.ensures ∙ length-not_of _ ∙ ap (λ l. length l) c.red_or-in-Nor.ensures ∙ length-red_or_of c.args.a.now

pub returns-in-Xor-clause-width : goal.returns-in-Xor-clause-width
returns-in-Xor-clause-width c = ap (λ l. length l) c.red_xor.ensures ∙ length-red_xor_of c.args.a.now

pub returns-in-Xnor-clause-width : goal.returns-in-Xnor-clause-width
returns-in-Xnor-clause-width c = ap (λ l. length l) c.not-in-Xnor.ensures ∙ length-not_of _ ∙ ap (λ l. length l) c.red_xor-in-Xnor.ensures ∙ length-red_xor_of c.args.a.now
