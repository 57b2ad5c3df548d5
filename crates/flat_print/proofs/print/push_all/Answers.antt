use Rattle.std.proofs.Common.{ℕ, ◌++◌, List, slice_index, ap, ◌∙◌}
use Rattle.std.specs.List.{flat_map}
use Rattle.svex_shape.specs.Shapes.{shape_at}
use Rattle.svex_arena.specs.Substs.{renamed}
use Rattle.sv_outside.specs.declared.text.Signal.{Signal}
use Rattle.driver_resolve.specs.declared.driver.Driver.{Driver}
use Rattle.flat_net.specs.declared.flat.Join.{Join}
use Rattle.flat_text.specs.Lines.{Text, ended, wire_line, join_line, node_line, drive_line}
use Rattle.flat_print.proofs.Pushing.{four_more}
use Rattle.flat_print.proofs.print.push_all.Goals as goal

pub returns-clause-text : goal.returns-clause-text
returns-clause-text c =
    let wires : List Signal → Text = λ l. flat_map (λ (s : Signal). ended (wire_line s)) l in
    let joins : List Join → Text = λ l. flat_map (λ (j : Join). ended (join_line j)) l in
    let nodes : List ℕ → List ℕ → Text = λ l m. flat_map (λ (k : ℕ). ended (node_line (renamed (λ (j : ℕ). slice_index m j) (shape_at c.args.flat.now.arena k)))) l in
    let drives : List Driver → List ℕ → Text = λ l m. flat_map (λ (d : Driver). ended (drive_line (record { target = d.target; value = slice_index m d.value }))) l in
    four_more c.args.text.now.items c.push_wires.new.text.items c.push_joins.new.text.items c.push_nodes.new.text.items c.push_drives.new.text.items
    (wires c.args.flat.now.wires) (joins c.args.flat.now.joins) (nodes c.args.order.now.nodes.items c.args.order.now.numbers.items) (drives c.args.flat.now.drivers c.args.order.now.numbers.items)
    (c.in_ok-push_wires.ensures ∙ ap (λ (l : List Signal). c.args.text.now.items ++ wires l) c.as_slice.ensures)
    (c.in_ok-push_joins.ensures ∙ ap (λ (l : List Join). c.push_wires.new.text.items ++ joins l) c.as_slice-2.ensures)
    (c.in_ok-push_nodes.ensures.text ∙ ap (λ (l : List ℕ). c.push_joins.new.text.items ++ nodes l c.deref-2.result.now) c.deref.ensures.value ∙ ap (λ (m : List ℕ). c.push_joins.new.text.items ++ nodes c.args.order.now.nodes.items m) c.deref-2.ensures.value)
    (c.in_ok-push_drives.ensures ∙ ap (λ (l : List Driver). c.push_nodes.new.text.items ++ drives l c.deref-3.result.now) c.as_slice-3.ensures ∙ ap (λ (m : List ℕ). c.push_nodes.new.text.items ++ drives c.args.flat.now.drivers m) c.deref-3.ensures.value)
