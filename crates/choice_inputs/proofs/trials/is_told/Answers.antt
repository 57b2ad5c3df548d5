use Rattle.std.proofs.lemmas.Result.{IfOk-from_err}
use Rattle.std.proofs.Common.{◌∙◌, ap, length}
use Rattle.choice_inputs.proofs.trials.is_told.Goals as goal

pub eval-requires-clause-inputs : goal.eval-requires-clause-inputs
eval-requires-clause-inputs c = ap length (c.deref.ensures.value ∙ c.in_ok-inputs.ensures) ∙ c.requires.inputs

pub returns-in_err-inputs : goal.returns-in_err-inputs
returns-in_err-inputs c = IfOk-from_err _ _ c.from_residual.ensures.0
