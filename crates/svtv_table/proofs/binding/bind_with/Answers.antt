use Rattle.std.proofs.lemmas.Result.{IfOk-from_err}
use Rattle.svtv_table.proofs.binding.bind_with.Goals as goal

pub returns-in_err-add_rows-clause-bound : goal.returns-in_err-add_rows-clause-bound
returns-in_err-add_rows-clause-bound c = IfOk-from_err _ _ c.from_residual.ensures.0

pub returns-in_err-add_rows-clause-fine : goal.returns-in_err-add_rows-clause-fine
returns-in_err-add_rows-clause-fine c = IfOk-from_err _ _ c.from_residual.ensures.0
