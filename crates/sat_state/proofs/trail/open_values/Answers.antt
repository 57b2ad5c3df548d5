use Rattle.std.proofs.lemmas.Result.{IfOk-from_err}
use Rattle.sat_state.proofs.trail.open_values.Goals as goal

pub returns-in_err-values-clause-open : goal.returns-in_err-values-clause-open
returns-in_err-values-clause-open c = IfOk-from_err _ _ c.from_residual.ensures.0

pub returns-in_err-values-clause-width : goal.returns-in_err-values-clause-width
returns-in_err-values-clause-width c = IfOk-from_err _ _ c.from_residual.ensures.0
