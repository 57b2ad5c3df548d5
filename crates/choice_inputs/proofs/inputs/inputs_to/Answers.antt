use Rattle.std.proofs.lemmas.Result.{IfOk-from_err}
use Rattle.choice_inputs.proofs.Asked.{inputs_start, inputs_next}
use Rattle.choice_inputs.proofs.inputs.inputs_to.Goals as goal

pub loop-k-init : goal.loop-k-init
loop-k-init c = inputs_start _ _ _ c.new-inputs.ensures.items

pub loop-k-preserved : goal.loop-k-preserved
loop-k-preserved c = inputs_next _ _ c.loop-k.k _ _ c.gate.result c.loop-k.invariant c.gate.ensures.is c.in_ok-put_input.ensures

pub returns-in_err-put_input : goal.returns-in_err-put_input
returns-in_err-put_input c = IfOk-from_err _ _ c.from_residual.ensures.0
