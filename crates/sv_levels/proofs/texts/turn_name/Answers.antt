use Rattle.std.proofs.lemmas.Result.{IfOk-from_err}
use Rattle.sv_levels.proofs.texts.turn_name.Goals as goal

pub returns-in_err-bytes : goal.returns-in_err-bytes
returns-in_err-bytes c = IfOk-from_err _ _ c.from_residual.ensures.0

pub returns-in_err-push_index : goal.returns-in_err-push_index
returns-in_err-push_index c = IfOk-from_err _ _ c.from_residual-in_err-push_index.ensures.0
