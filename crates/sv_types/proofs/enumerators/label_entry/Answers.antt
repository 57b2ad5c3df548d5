use Rattle.std.proofs.lemmas.Result.{IfOk-from_err}
use Rattle.sv_types.proofs.enumerators.label_entry.Goals as goal

pub returns-in_err-copy-clause-held : goal.returns-in_err-copy-clause-held
returns-in_err-copy-clause-held c = IfOk-from_err _ _ c.from_residual.ensures.0
