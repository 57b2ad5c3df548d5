use Rattle.std.proofs.Common.{length, ap, ◌∙◌}
use Rattle.fourvec.proofs.Widths.{length-not_of, length-eq_of}
use Rattle.sv_typed.proofs.Operators.{one_bit}
use Rattle.sv_typed.proofs.ops.compared.Goals as goal

pub returns-in-Lt-clause-width : goal.returns-in-Lt-clause-width
returns-in-Lt-clause-width c = ap (λ l. length l) c.less.ensures ∙ one_bit _ _ _

pub returns-in-Le-clause-width : goal.returns-in-Le-clause-width
returns-in-Le-clause-width c = ap (λ l. length l) c.not.ensures ∙ length-not_of _ ∙ ap (λ l. length l) c.less-in-Le.ensures ∙ one_bit _ _ _

pub returns-in-Gt-clause-width : goal.returns-in-Gt-clause-width
returns-in-Gt-clause-width c = ap (λ l. length l) c.less-in-Gt.ensures ∙ one_bit _ _ _

pub returns-in-Ge-clause-width : goal.returns-in-Ge-clause-width
returns-in-Ge-clause-width c = ap (λ l. length l) c.not-in-Ge.ensures ∙ length-not_of _ ∙ ap (λ l. length l) c.less-in-Ge.ensures ∙ one_bit _ _ _

pub returns-in-Eq-clause-width : goal.returns-in-Eq-clause-width
returns-in-Eq-clause-width c = ap (λ l. length l) c.eq.ensures ∙ length-eq_of _ _

pub returns-in-Ne-clause-width : goal.returns-in-Ne-clause-width
returns-in-Ne-clause-width c = ap (λ l. length l) c.not-in-Ne.ensures ∙ length-not_of _ ∙ ap (λ l. length l) c.eq-in-Ne.ensures ∙ length-eq_of _ _
