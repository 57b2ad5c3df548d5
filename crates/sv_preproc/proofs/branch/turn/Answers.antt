use Rattle.std.proofs.lemmas.Result.{IfOk-from_err}
use Rattle.sv_preproc.proofs.branch.turn.Goals as goal

pub returns-in_err-live-in-Else-clause-ends : goal.returns-in_err-live-in-Else-clause-ends
returns-in_err-live-in-Else-clause-ends c = IfOk-from_err _ _ c.from_residual-in_err-live-in-Else.ensures.0

pub returns-in_err-live-in-Endif-clause-ends : goal.returns-in_err-live-in-Endif-clause-ends
returns-in_err-live-in-Endif-clause-ends c = IfOk-from_err _ _ c.from_residual.ensures.0
