use Rattle.std.proofs.Common.{◌<◌, length, sym, ◌∙◌, arith}
use Rattle.sv_blocks.proofs.Choosing.{over_within, over_width}
use Rattle.sv_blocks.proofs.states.put_over.Goals as goal

pub put_node-requires-clause-node : goal.put_node-requires-clause-node
put_node-requires-clause-node c =
    let l : c.args.at < length c.args.state.now.nodes = let t = c.if-at-len.false in let e = c.len.ensures in omega arith in
    over_within c.args.scene.now _ _ _ _ _ c.requires.puts l (sym c.get.ensures ∙ c.in-Some.is)

pub put_node-requires-clause-width : goal.put_node-requires-clause-width
put_node-requires-clause-width c =
    let l : c.args.at < length c.args.state.now.nodes = let t = c.if-at-len.false in let e = c.len.ensures in omega arith in
    over_width c.args.scene.now _ _ _ _ _ c.requires.puts l (sym c.get.ensures ∙ c.in-Some.is)
