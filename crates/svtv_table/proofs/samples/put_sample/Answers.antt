use Rattle.std.proofs.lemmas.Result.{IfOk-from_err}
use Rattle.svtv_table.proofs.samples.put_sample.Goals as goal

pub returns-in_err-name-clause-fine : goal.returns-in_err-name-clause-fine
returns-in_err-name-clause-fine c = IfOk-from_err _ _ c.from_residual-in_err-name.ensures.0

pub returns-in_err-name-clause-list : goal.returns-in_err-name-clause-list
returns-in_err-name-clause-list c = IfOk-from_err _ _ c.from_residual-in_err-name.ensures.0

pub returns-in_err-name-clause-named : goal.returns-in_err-name-clause-named
returns-in_err-name-clause-named c = IfOk-from_err _ _ c.from_residual-in_err-name.ensures.0

pub returns-in_err-note-clause-fine : goal.returns-in_err-note-clause-fine
returns-in_err-note-clause-fine c = IfOk-from_err _ _ c.from_residual.ensures.0

pub returns-in_err-note-clause-list : goal.returns-in_err-note-clause-list
returns-in_err-note-clause-list c = IfOk-from_err _ _ c.from_residual.ensures.0

pub returns-in_err-note-clause-named : goal.returns-in_err-note-clause-named
returns-in_err-note-clause-named c = IfOk-from_err _ _ c.from_residual.ensures.0

pub returns-in_err-push-clause-fine : goal.returns-in_err-push-clause-fine
returns-in_err-push-clause-fine c = IfOk-from_err _ _ c.from_residual-in_err-push.ensures.0

pub returns-in_err-push-clause-list : goal.returns-in_err-push-clause-list
returns-in_err-push-clause-list c = IfOk-from_err _ _ c.from_residual-in_err-push.ensures.0

pub returns-in_err-push-clause-named : goal.returns-in_err-push-clause-named
returns-in_err-push-clause-named c = IfOk-from_err _ _ c.from_residual-in_err-push.ensures.0
