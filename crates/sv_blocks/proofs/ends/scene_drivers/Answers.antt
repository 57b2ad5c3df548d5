use Rattle.std.proofs.lemmas.Result.{IfOk-from_err}
use Rattle.svex_arena.proofs.Keeping.{extends_on}
use Rattle.sv_blocks.proofs.ends.scene_drivers.Goals as goal

pub returns-in_err-nodes-clause-stays : goal.returns-in_err-nodes-clause-stays
returns-in_err-nodes-clause-stays c = c.in_err-nodes.ensures.stays

pub returns-in_err-nodes-clause-ok : goal.returns-in_err-nodes-clause-ok
returns-in_err-nodes-clause-ok c = IfOk-from_err _ _ c.from_residual.ensures.0

pub returns-in_err-all-clause-stays : goal.returns-in_err-all-clause-stays
returns-in_err-all-clause-stays c = extends_on _ _ _ c.in_ok-nodes.ensures.stays c.in_err-all.ensures.stays

pub returns-in_err-all-clause-ok : goal.returns-in_err-all-clause-ok
returns-in_err-all-clause-ok c = IfOk-from_err _ _ c.from_residual-in_err-all.ensures.0

pub returns-clause-stays : goal.returns-clause-stays
returns-clause-stays c = extends_on _ _ _ c.in_ok-nodes.ensures.stays c.in_ok-all.ensures.stays
