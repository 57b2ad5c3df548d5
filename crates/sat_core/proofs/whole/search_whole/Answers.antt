use Rattle.std.proofs.lemmas.Result.{IfOk-from_err}
use Rattle.sat_core.proofs.whole.search_whole.Goals as goal

pub returns-in_err-seen : goal.returns-in_err-seen
returns-in_err-seen c = IfOk-from_err _ _ c.from_residual.ensures.0
