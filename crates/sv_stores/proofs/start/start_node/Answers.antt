use Rattle.std.proofs.Common.{sym, ◌∙◌}
use Rattle.sv_stores.proofs.Starting.{start_read}
use Rattle.sv_stores.proofs.start.start_node.Goals as goal

pub returns-in_ok-node-2-clause-ok : goal.returns-in_ok-node-2-clause-ok
returns-in_ok-node-2-clause-ok c = start_read c.args.scene.now _ _ c.args.at _ _ _ (sym c.is_comb.ensures ∙ c.if-is_comb.false) c.as_slice.ensures c.as_slice-else-is_comb.ensures c.in_ok-node-2.ensures.ok
