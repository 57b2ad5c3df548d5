use Rattle.std.proofs.lemmas.Result.{IfOk-from_err}
use Rattle.std.proofs.Common.{ap}
use Rattle.aig.specs.declared.gate.Lit.{Lit}
use Rattle.svex_blast.proofs.Choosing.{inputs_none, inputs_more, extends_push, extends_still}
use Rattle.svex_blast.proofs.inputs.input_vector.Goals as goal

pub loop-i-init : goal.loop-i-init
loop-i-init c = rw c.new-word.ensures.items (inputs_none c.args.aig.now)

pub loop-i-preserved : goal.loop-i-preserved
loop-i-preserved c =
    let made = c.in_ok-bit.ensures in
    let mid = c.loop-i.aig in
    rw c.in_ok-push.ensures.items (inputs_more c.loop-i.i c.args.aig.now mid _ c.loop-i.word.items c.in_ok-bit.bit c.loop-i.invariant
    made.gates (ap (λ (l : Lit). l.node) made.literal) made.count made.kept made.value)

pub returns-clause-extends : goal.returns-clause-extends
returns-clause-extends c = c.loop-i.invariant.extends

pub returns-in_err-bit-clause-extends : goal.returns-in_err-bit-clause-extends
returns-in_err-bit-clause-extends c = extends_still c.args.aig.now c.loop-i.aig _ c.loop-i.invariant.extends c.in_err-bit.ensures.refused

pub returns-in_err-push-clause-extends : goal.returns-in_err-push-clause-extends
returns-in_err-push-clause-extends c = extends_push c.args.aig.now c.loop-i.aig _ _ c.loop-i.invariant.extends c.in_ok-bit.ensures.gates

pub returns-in_err-bit-clause-made : goal.returns-in_err-bit-clause-made
returns-in_err-bit-clause-made c = IfOk-from_err _ _ c.from_residual.ensures.0

pub returns-in_err-push-clause-made : goal.returns-in_err-push-clause-made
returns-in_err-push-clause-made c = IfOk-from_err _ _ c.from_residual-in_err-push.ensures.0
