use Rattle.std.proofs.lemmas.Result.{IfOk-from_err}
use Rattle.sat_search.proofs.search.conflict_of.Goals as goal

pub returns-in_err-next-in-None-clause-found : goal.returns-in_err-next-in-None-clause-found
returns-in_err-next-in-None-clause-found c = IfOk-from_err _ _ c.from_residual.ensures.0

pub returns-in_err-next-in-None-clause-ready : goal.returns-in_err-next-in-None-clause-ready
returns-in_err-next-in-None-clause-ready c = IfOk-from_err _ _ c.from_residual.ensures.0
