use Rattle.std.proofs.lemmas.Result.{IfOk-from_err}
use Rattle.choice_inputs.proofs.tables.ruled_out.Goals as goal

pub returns-in_err-clauses_of : goal.returns-in_err-clauses_of
returns-in_err-clauses_of c = IfOk-from_err _ _ c.from_residual.ensures.0
