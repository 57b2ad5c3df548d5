use Rattle.std.proofs.lemmas.Result.{IfOk-from_err}
use Rattle.net_resolve.proofs.classes.by_class.Goals as goal

pub returns-in_err-put_all-clause-len : goal.returns-in_err-put_all-clause-len
returns-in_err-put_all-clause-len c = IfOk-from_err _ _ c.from_residual-in_err-put_all.ensures.0

pub returns-in_err-put_all-clause-rows : goal.returns-in_err-put_all-clause-rows
returns-in_err-put_all-clause-rows c = IfOk-from_err _ _ c.from_residual-in_err-put_all.ensures.0

pub returns-in_err-rows-clause-len : goal.returns-in_err-rows-clause-len
returns-in_err-rows-clause-len c = IfOk-from_err _ _ c.from_residual.ensures.0

pub returns-in_err-rows-clause-rows : goal.returns-in_err-rows-clause-rows
returns-in_err-rows-clause-rows c = IfOk-from_err _ _ c.from_residual.ensures.0
