use Rattle.std.proofs.lemmas.Result.{IfOk-from_err}
use Rattle.choice_inputs.proofs.choices.inputs_of.Goals as goal

pub returns-in_err-put_bits : goal.returns-in_err-put_bits
returns-in_err-put_bits c = IfOk-from_err _ _ c.from_residual.ensures.0
