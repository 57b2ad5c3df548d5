use Rattle.std.proofs.Common.{length, ap, ◌∙◌}
use Rattle.fourvec.proofs.Widths.{length-shl_of, length-shr_of, length-sar_of}
use Rattle.sv_typed.proofs.ops.moved.Goals as goal

pub returns-in-Left-clause-width : goal.returns-in-Left-clause-width
returns-in-Left-clause-width c = ap (λ l. length l) c.shl.ensures ∙ length-shl_of _ _

pub returns-in-SignedRight-clause-width : goal.returns-in-SignedRight-clause-width
returns-in-SignedRight-clause-width c = ap (λ l. length l) c.sar.ensures ∙ length-sar_of _ _

pub returns-in-Right-clause-width : goal.returns-in-Right-clause-width
returns-in-Right-clause-width c = ap (λ l. length l) c.shr.ensures ∙ length-shr_of _ _
