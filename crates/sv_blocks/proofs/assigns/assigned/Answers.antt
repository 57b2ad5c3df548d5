use Rattle.std.proofs.lemmas.Result.{IfOk-from_err}
use Rattle.svex_arena.proofs.Keeping.{extends_on}
use Rattle.sv_stores.proofs.Yielding.{typed_most}
use Rattle.sv_blocks.proofs.assigns.assigned.Goals as goal

pub lowered-requires-clause-most : goal.lowered-requires-clause-most
lowered-requires-clause-most c = typed_most _ _ _ c.requires.sound c.requires.most c.max.ensures

pub returns-in_err-node-clause-stays : goal.returns-in_err-node-clause-stays
returns-in_err-node-clause-stays c = c.in_err-node.ensures.stays

pub returns-in_err-node-clause-ok : goal.returns-in_err-node-clause-ok
returns-in_err-node-clause-ok c = IfOk-from_err _ _ c.from_residual.ensures.0

pub returns-in_err-node-2-clause-stays : goal.returns-in_err-node-2-clause-stays
returns-in_err-node-2-clause-stays c = extends_on _ _ _ c.in_ok-node.ensures.stays c.in_err-node-2.ensures.stays

pub returns-in_err-node-2-clause-ok : goal.returns-in_err-node-2-clause-ok
returns-in_err-node-2-clause-ok c = IfOk-from_err _ _ c.from_residual-in_err-node-2.ensures.0

pub returns-clause-stays : goal.returns-clause-stays
returns-clause-stays c = extends_on _ _ _ c.in_ok-node.ensures.stays c.in_ok-node-2.ensures.stays
