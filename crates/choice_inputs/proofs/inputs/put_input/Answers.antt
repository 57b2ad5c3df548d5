use Rattle.std.proofs.lemmas.Result.{IfOk-from_err}
use Rattle.choice_inputs.proofs.inputs.put_input.Goals as goal

pub returns-in_err-push-in-Input : goal.returns-in_err-push-in-Input
returns-in_err-push-in-Input c = IfOk-from_err _ _ c.from_residual.ensures.0
