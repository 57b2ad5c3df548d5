use Rattle.std.proofs.lemmas.Result.{IfOk-from_err}
use Rattle.event_nets.proofs.overriding.give_overridden.Goals as goal

pub returns-in_err-marks : goal.returns-in_err-marks
returns-in_err-marks c = IfOk-from_err _ _ c.from_residual.ensures.0
