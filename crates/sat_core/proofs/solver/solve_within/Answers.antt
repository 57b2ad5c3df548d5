use Rattle.std.proofs.lemmas.Result.{IfOk-from_err}
use Rattle.sat_core.proofs.solver.solve_within.Goals as goal

pub returns : goal.returns
returns c = c.ended.ensures _ c.args.budget c.in_ok-stop.ensures

pub returns-in_err-stop : goal.returns-in_err-stop
returns-in_err-stop c = IfOk-from_err _ _ c.from_residual.ensures.0
