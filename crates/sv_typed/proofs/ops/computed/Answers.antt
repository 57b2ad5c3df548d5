use Rattle.std.proofs.Common.{length, ap, ◌∙◌}
use Rattle.fourvec.proofs.Widths.{length-mul_of, length-sdiv_of, length-div_of, length-srem_of, length-rem_of, length-add_of, length-sub_of, length-and_of, length-xor_of, length-or_of, length-not_of}
use Rattle.sv_typed.proofs.ops.computed.Goals as goal

pub returns-in-Mul-clause-width : goal.returns-in-Mul-clause-width
returns-in-Mul-clause-width c = ap (λ l. length l) c.mul.ensures ∙ length-mul_of _ _

pub returns-in-Div-clause-width : goal.returns-in-Div-clause-width
returns-in-Div-clause-width c = ap (λ l. length l) c.sdiv.ensures ∙ length-sdiv_of _ _

pub returns-in-Div-2-clause-width : goal.returns-in-Div-2-clause-width
returns-in-Div-2-clause-width c = ap (λ l. length l) c.div.ensures ∙ length-div_of _ _

pub returns-in-Rem-clause-width : goal.returns-in-Rem-clause-width
returns-in-Rem-clause-width c = ap (λ l. length l) c.srem.ensures ∙ length-srem_of _ _

pub returns-in-Rem-2-clause-width : goal.returns-in-Rem-2-clause-width
returns-in-Rem-2-clause-width c = ap (λ l. length l) c.rem.ensures ∙ length-rem_of _ _

pub returns-in-Add-clause-width : goal.returns-in-Add-clause-width
returns-in-Add-clause-width c = ap (λ l. length l) c.add.ensures ∙ length-add_of _ _

pub returns-in-Sub-clause-width : goal.returns-in-Sub-clause-width
returns-in-Sub-clause-width c = ap (λ l. length l) c.sub.ensures ∙ length-sub_of _ _

pub returns-in-And-clause-width : goal.returns-in-And-clause-width
returns-in-And-clause-width c = ap (λ l. length l) c.and.ensures ∙ length-and_of _ _ c.requires

pub returns-in-Xor-clause-width : goal.returns-in-Xor-clause-width
returns-in-Xor-clause-width c = ap (λ l. length l) c.xor.ensures ∙ length-xor_of _ _ c.requires

pub returns-in-Or-clause-width : goal.returns-in-Or-clause-width
returns-in-Or-clause-width c = ap (λ l. length l) c.or.ensures ∙ length-or_of _ _ c.requires

pub returns-in-Xnor-clause-width : goal.returns-in-Xnor-clause-width
returns-in-Xnor-clause-width c = ap (λ l. length l) c.not.ensures ∙ length-not_of _ ∙ ap (λ l. length l) c.xor-in-Xnor.ensures ∙ length-xor_of _ _ c.requires
