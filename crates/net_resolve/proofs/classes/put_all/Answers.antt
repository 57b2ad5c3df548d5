use Rattle.std.proofs.lemmas.Result.{IfOk-from_err}
use Rattle.net_resolve.proofs.classes.put_all.Goals as goal

pub returns-in_err-put_gift-clause-len : goal.returns-in_err-put_gift-clause-len
returns-in_err-put_gift-clause-len c = IfOk-from_err _ _ c.from_residual.ensures.0

pub returns-in_err-put_gift-clause-rows : goal.returns-in_err-put_gift-clause-rows
returns-in_err-put_gift-clause-rows c = IfOk-from_err _ _ c.from_residual.ensures.0
