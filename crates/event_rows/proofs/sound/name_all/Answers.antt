use Rattle.std.proofs.Common.{◌<◌, false, length, get_or, ap, ◌∙◌, arith, length-set}
use Rattle.svex_shape.specs.Shapes.{shape_at}
use Rattle.svex_shape.specs.Values.{each_variable_of}
use Rattle.driver_resolve.specs.Drivers.{is_of_wires}
use Rattle.event_rows.proofs.Naming.{named-is, named-more}
use Rattle.event_rows.proofs.sound.name_all.Goals as goal

pub nodes-preserved : goal.nodes-preserved
nodes-preserved c =
    let widths = c.args.widths.now in
    let shapes = c.args.arena.now in
    let done = c.nodes.done in
    let n = c.nodes.node in
    let within : n < length shapes = omega (arith, c.len-node-end.ensures.is) in
    record {
      room = length-set done n c.names_wires.result ∙ c.nodes.invariant.room;
      so_far = named-more widths shapes done n c.names_wires.result c.nodes.invariant.so_far (omega (arith, c.nodes.invariant.room, within))
          (c.names_wires.ensures
          ∙ ap (λ s. each_variable_of (is_of_wires widths) (λ k. get_or done k false) s) (c.shape-shape.ensures.is ∙ ap (λ k. shape_at shapes k) c.new.ensures)
          ∙ named-is widths shapes done n c.len-node-end.ensures.arena within c.nodes.invariant.so_far);
    }
