use Rattle.std.proofs.Common.{ℕ, slice_index, arith}
use Rattle.svex_shape.specs.Shapes.{shape_at}
use Rattle.svex_arena.specs.Substs.{renamed}
use Rattle.flat_text.specs.Lines.{ended, node_line}
use Rattle.flat_text.specs.FlatTexts.{HasSpot}
use Rattle.flat_print.proofs.Pushing.{text_more, all_more}
use Rattle.flat_print.proofs.print.push_nodes.Goals as goal

pub nodes-preserved : goal.nodes-preserved
nodes-preserved c = record {
  text = text_more (λ (k : ℕ). ended (node_line (renamed (λ j. slice_index c.args.numbers.now j) (shape_at c.args.arena.now k)))) c.args.text.now.items c.nodes.text.items c.push_node.new.text.items c.args.nodes.now c.nodes.node-index c.node-item.result
      c.nodes.invariant.text c.node-item.is (omega arith) c.in_ok-push_node.ensures.text;
  fits = all_more (λ (k : ℕ). HasSpot (shape_at c.args.arena.now k)) c.args.nodes.now c.nodes.node-index c.node-item.result c.nodes.invariant.fits c.node-item.is (omega arith) c.in_ok-push_node.ensures.fits;
}
