use Rattle.std.proofs.lemmas.Result.{IfOk-from_err}
use Rattle.sv_preproc.specs.declared.error.PreErr.TheVariants.{Memory}
use Rattle.sv_preproc.proofs.Errors.{handed_on}
use Rattle.sv_preproc.proofs.reading.take_in.Goals as goal

pub returns-in_err-file-clause-taken : goal.returns-in_err-file-clause-taken
returns-in_err-file-clause-taken c = IfOk-from_err _ _ c.from_residual.ensures.0

pub returns-in_err-file-clause-within : goal.returns-in_err-file-clause-within
returns-in_err-file-clause-within c = IfOk-from_err _ _ c.from_residual.ensures.0

pub returns-in_err-file-clause-caused : goal.returns-in_err-file-clause-caused
returns-in_err-file-clause-caused c = handed_on c.from_residual.result Memory _ c.from_residual.ensures.1 tt

pub returns-in_err-cut_file-clause-taken : goal.returns-in_err-cut_file-clause-taken
returns-in_err-cut_file-clause-taken c = IfOk-from_err _ _ c.from_residual-in_err-cut_file.ensures.0

pub returns-in_err-cut_file-clause-within : goal.returns-in_err-cut_file-clause-within
returns-in_err-cut_file-clause-within c = IfOk-from_err _ _ c.from_residual-in_err-cut_file.ensures.0

pub returns-in_err-push-clause-taken : goal.returns-in_err-push-clause-taken
returns-in_err-push-clause-taken c = IfOk-from_err _ _ c.from_residual-in_err-push.ensures.0

pub returns-in_err-push-clause-within : goal.returns-in_err-push-clause-within
returns-in_err-push-clause-within c = IfOk-from_err _ _ c.from_residual-in_err-push.ensures.0

pub returns-in_err-push-clause-caused : goal.returns-in_err-push-clause-caused
returns-in_err-push-clause-caused c = handed_on c.from_residual-in_err-push.result Memory _ c.from_residual-in_err-push.ensures.1 tt
