use Rattle.std.proofs.Common.{◌≡◌, ◌++◌, take, slice_index, All}
use Rattle.std.specs.List.{flat_map}
use Rattle.svex_shape.specs.Shapes.{shape_at}
use Rattle.svex_arena.specs.Substs.{renamed}
use Rattle.flat_text.specs.Lines.{ended, node_line}
use Rattle.flat_text.specs.FlatTexts.{HasSpot}
use Rattle.flat_print.proofs.print.push_nodes.Given as goal

abbrev pub invariant-nodes : goal.invariant-nodes
invariant-nodes l = record {
  text : l.text.items ≡ l.fn.text.items ++ flat_map (λ k. ended (node_line (renamed (λ j. slice_index l.numbers j) (shape_at l.arena k)))) (take l.node-index l.nodes);
  fits : All (λ k. HasSpot (shape_at l.arena k)) (take l.node-index l.nodes);
}
