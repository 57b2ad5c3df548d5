use Rattle.std.proofs.lemmas.Result.{IfOk-from_err}
use Rattle.std.proofs.Common.{arith}
use Rattle.svex_blast.proofs.Noding.{constants_more}
use Rattle.svex_blast.proofs.nodes.constants.Goals as goal

pub loop-i-preserved : goal.loop-i-preserved
loop-i-preserved c =
    rw c.in_ok-push.ensures.items (constants_more c.args.value.now c.loop-i.word.items c.loop-i.i c.bit.result c.constant.result (omega arith) c.bit.ensures c.loop-i.invariant c.constant.ensures)

pub returns-in_err-push : goal.returns-in_err-push
returns-in_err-push c = IfOk-from_err _ _ c.from_residual.ensures.0
