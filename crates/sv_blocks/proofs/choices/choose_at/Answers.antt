use Rattle.std.proofs.lemmas.Result.{on_ok_weaker}
use Rattle.std.proofs.Common.{◌<◌, length, sym, ◌∙◌, arith}
use Rattle.sv_blocks.proofs.Choosing.{side_within, side_width, chosen_put}
use Rattle.sv_blocks.proofs.choices.choose_at.Goals as goal

pub chosen-requires-clause-a : goal.chosen-requires-clause-a
chosen-requires-clause-a c =
    let l : c.args.at < length c.args.nodes.now = let t = c.if-at-nodes.false in omega arith in
    side_within c.args.scene.now _ _ _ _ _ _ c.requires.a l c.index-nodes-at.is c.node_over-left.ensures

pub chosen-requires-clause-b : goal.chosen-requires-clause-b
chosen-requires-clause-b c =
    let l : c.args.at < length c.args.nodes.now = let t = c.if-at-nodes.false in omega arith in
    side_within c.args.scene.now _ _ _ _ _ _ c.requires.b l c.index-nodes-at.is c.node_over-right.ensures

pub chosen-requires-clause-same : goal.chosen-requires-clause-same
chosen-requires-clause-same c =
    let l : c.args.at < length c.args.nodes.now = let t = c.if-at-nodes.false in omega arith in
    side_width c.args.scene.now _ _ _ _ _ _ c.requires.a l c.index-nodes-at.is c.node_over-left.ensures
    ∙ sym (side_width c.args.scene.now _ _ _ _ _ _ c.requires.b l c.index-nodes-at.is c.node_over-right.ensures)

pub returns-clause-chosen : goal.returns-clause-chosen
returns-clause-chosen c =
    on_ok_weaker c.put.result (λ here l. chosen_put _ _ _ _ _ _ _ _ _ _ _ _ l c.index-nodes-at.is c.node_over-left.ensures c.node_over-right.ensures here c.in_ok-node.ensures.ok) c.put.ensures.here
