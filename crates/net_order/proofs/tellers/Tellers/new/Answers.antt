use Rattle.std.proofs.lemmas.Result.{IfOk-from_err}
use Rattle.net_order.proofs.tellers.Tellers.new.Goals as goal

pub returns-in_err-lists-clause-can : goal.returns-in_err-lists-clause-can
returns-in_err-lists-clause-can c = IfOk-from_err _ _ c.from_residual-in_err-lists.ensures.0

pub returns-in_err-lists-clause-segs : goal.returns-in_err-lists-clause-segs
returns-in_err-lists-clause-segs c = IfOk-from_err _ _ c.from_residual-in_err-lists.ensures.0

pub returns-in_err-segs-clause-can : goal.returns-in_err-segs-clause-can
returns-in_err-segs-clause-can c = IfOk-from_err _ _ c.from_residual.ensures.0

pub returns-in_err-segs-clause-segs : goal.returns-in_err-segs-clause-segs
returns-in_err-segs-clause-segs c = IfOk-from_err _ _ c.from_residual.ensures.0
