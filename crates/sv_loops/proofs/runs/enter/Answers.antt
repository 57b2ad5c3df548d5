use Rattle.std.proofs.lemmas.Result.{IfOk-from_err}
use Rattle.sv_loops.proofs.runs.enter.Goals as goal

pub returns-in_err-name-clause-loops : goal.returns-in_err-name-clause-loops
returns-in_err-name-clause-loops c = IfOk-from_err _ _ c.from_residual.ensures.0

pub returns-in_err-push_loop-clause-loops : goal.returns-in_err-push_loop-clause-loops
returns-in_err-push_loop-clause-loops c = IfOk-from_err _ _ c.from_residual-in_err-push_loop.ensures.0
