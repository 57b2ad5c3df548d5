use Rattle.std.proofs.lemmas.Result.{IfOk-from_err}
use Rattle.net_order.proofs.rows.variable_row.Goals as goal

pub returns-in_err-of_wire-in-Now : goal.returns-in_err-of_wire-in-Now
returns-in_err-of_wire-in-Now c = IfOk-from_err _ _ c.from_residual.ensures.0
