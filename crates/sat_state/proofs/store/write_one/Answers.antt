use Rattle.std.proofs.lemmas.Result.{IfOk-from_err}
use Rattle.sat_state.proofs.store.write_one.Goals as goal

pub returns-in_err-push-clause-added : goal.returns-in_err-push-clause-added
returns-in_err-push-clause-added c = IfOk-from_err _ _ c.from_residual.ensures.0
