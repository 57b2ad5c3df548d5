use Rattle.std.proofs.lemmas.Result.{IfOk-from_err}
use Rattle.event_nets.proofs.needs.put_all.Goals as goal

pub returns-in_err-put_gift-clause-given : goal.returns-in_err-put_gift-clause-given
returns-in_err-put_gift-clause-given c = IfOk-from_err _ _ c.from_residual.ensures.0

pub returns-in_err-put_gift-clause-len : goal.returns-in_err-put_gift-clause-len
returns-in_err-put_gift-clause-len c = IfOk-from_err _ _ c.from_residual.ensures.0
