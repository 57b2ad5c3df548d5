use Rattle.std.proofs.lemmas.Result.{IfOk-from_err}
use Rattle.svtv_table.proofs.binding.target_of.Goals as goal

pub returns-in_err-wire-clause-fine : goal.returns-in_err-wire-clause-fine
returns-in_err-wire-clause-fine c = IfOk-from_err _ _ c.from_residual.ensures.0

pub returns-in_err-wire-clause-line : goal.returns-in_err-wire-clause-line
returns-in_err-wire-clause-line c = IfOk-from_err _ _ c.from_residual.ensures.0

pub returns-in_err-wire-clause-width : goal.returns-in_err-wire-clause-width
returns-in_err-wire-clause-width c = IfOk-from_err _ _ c.from_residual.ensures.0

pub returns-in_err-wire-clause-wire : goal.returns-in_err-wire-clause-wire
returns-in_err-wire-clause-wire c = IfOk-from_err _ _ c.from_residual.ensures.0

pub returns-in_err-wire-clause-within : goal.returns-in_err-wire-clause-within
returns-in_err-wire-clause-within c = IfOk-from_err _ _ c.from_residual.ensures.0
