use Rattle.std.proofs.lemmas.Result.{IfOk-from_err}
use Rattle.sat_core.proofs.whole.run_with.Goals as goal

pub returns-in_err-notes : goal.returns-in_err-notes
returns-in_err-notes c = IfOk-from_err _ _ c.from_residual.ensures.0

pub returns-in_err-store : goal.returns-in_err-store
returns-in_err-store c = IfOk-from_err _ _ c.from_residual-in_err-store.ensures.0
