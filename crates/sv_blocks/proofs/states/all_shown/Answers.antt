use Rattle.std.proofs.lemmas.Result.{IfOk-from_err}
use Rattle.std.proofs.Common.{◌+◌, subst, sym}
use Rattle.std.proofs.lemmas.List.{get_or_read}
use Rattle.svex_arena.proofs.Keeping.{extends_on}
use Rattle.sv_stores.proofs.Stores.{node_width}
use Rattle.sv_blocks.proofs.Merging.{ShowsSome, shows_more}
use Rattle.sv_blocks.proofs.states.all_shown.Goals as goal

pub shown-requires-clause-width : goal.shown-requires-clause-width
shown-requires-clause-width c = node_width _ _ _ _ _ _ c.requires.nodes c.nodes.invariant.stays c.nodes-test.true c.index-nodes-at.is

pub nodes-preserved : goal.nodes-preserved
nodes-preserved c =
    let i = c.nodes.invariant in
    record {
      stays = extends_on _ _ _ i.stays c.in_ok-node.ensures.stays;
      made =
          subst (λ xs. ShowsSome c.args.scene.now c.shown.new.arena c.args.nodes.now xs (c.nodes.at + 1)) (sym c.in_ok-push.ensures.ok)
          (shows_more _ _ _ _ _ _ _ _ _ c.requires.nodes c.nodes-test.true (get_or_read _ _ _ c.nodes-test.true c.index-nodes-at.is 0) i.stays c.in_ok-node.ensures.stays i.made c.in_ok-node.ensures.ok);
    }

pub returns-in_err-node-clause-stays : goal.returns-in_err-node-clause-stays
returns-in_err-node-clause-stays c = extends_on _ _ _ c.nodes.invariant.stays c.in_err-node.ensures.stays

pub returns-in_err-node-clause-ok : goal.returns-in_err-node-clause-ok
returns-in_err-node-clause-ok c = IfOk-from_err _ _ c.from_residual.ensures.0

pub returns-in_err-push-clause-stays : goal.returns-in_err-push-clause-stays
returns-in_err-push-clause-stays c = extends_on _ _ _ c.nodes.invariant.stays c.in_ok-node.ensures.stays

pub returns-in_err-push-clause-ok : goal.returns-in_err-push-clause-ok
returns-in_err-push-clause-ok c = IfOk-from_err _ _ c.from_residual-in_err-push.ensures.0

pub returns-clause-stays : goal.returns-clause-stays
returns-clause-stays c = c.nodes.invariant.stays
