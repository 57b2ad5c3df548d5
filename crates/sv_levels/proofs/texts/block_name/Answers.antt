use Rattle.std.proofs.lemmas.Result.{IfOk-from_err}
use Rattle.sv_levels.proofs.texts.block_name.Goals as goal

pub returns-in_err-bytes-in-None : goal.returns-in_err-bytes-in-None
returns-in_err-bytes-in-None c = IfOk-from_err _ _ c.from_residual.ensures.0

pub returns-in_err-extend_from_slice-in-None : goal.returns-in_err-extend_from_slice-in-None
returns-in_err-extend_from_slice-in-None c = IfOk-from_err _ _ c.from_residual-in_err-extend_from_slice-in-None.ensures.0
