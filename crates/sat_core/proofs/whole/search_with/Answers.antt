use Rattle.std.proofs.lemmas.Result.{IfOk-from_err}
use Rattle.sat_core.proofs.whole.search_with.Goals as goal

pub returns-in_err-lists : goal.returns-in_err-lists
returns-in_err-lists c = IfOk-from_err _ _ c.from_residual.ensures.0

pub returns-in_err-trail : goal.returns-in_err-trail
returns-in_err-trail c = IfOk-from_err _ _ c.from_residual-in_err-trail.ensures.0
