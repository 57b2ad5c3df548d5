use Rattle.std.proofs.lemmas.Result.{IfOk-from_err}
use Rattle.dep_groups.proofs.finder.Finder.new.Goals as goal

pub returns-in_err-lengths-clause-none : goal.returns-in_err-lengths-clause-none
returns-in_err-lengths-clause-none c = IfOk-from_err _ _ c.from_residual-in_err-lengths.ensures.0

pub returns-in_err-lengths-clause-search : goal.returns-in_err-lengths-clause-search
returns-in_err-lengths-clause-search c = IfOk-from_err _ _ c.from_residual-in_err-lengths.ensures.0

pub returns-in_err-vec-clause-none : goal.returns-in_err-vec-clause-none
returns-in_err-vec-clause-none c = IfOk-from_err _ _ c.from_residual.ensures.0

pub returns-in_err-vec-clause-search : goal.returns-in_err-vec-clause-search
returns-in_err-vec-clause-search c = IfOk-from_err _ _ c.from_residual.ensures.0
