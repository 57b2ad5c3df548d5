use Rattle.std.proofs.Common.{◌≡◌, ℕ, List, codes, slice_index, All, ap, sym, ◌∙◌, subst}
use Rattle.std.specs.List.{flat_map}
use Rattle.svex_shape.specs.Shapes.{shape_at}
use Rattle.svex_arena.specs.Substs.{renamed}
use Rattle.driver_resolve.specs.declared.driver.Driver.{Driver}
use Rattle.driver_resolve.specs.Drivers.{widths_of}
use Rattle.sv_outside.specs.declared.text.Signal.{Signal}
use Rattle.flat_net.specs.declared.flat.Join.{Join}
use Rattle.flat_text.specs.Lines.{Text, ended, wire_line, join_line, node_line, drive_line}
use Rattle.flat_text.specs.FlatTexts.{FlatText, HasSpot}
use Rattle.flat_print.specs.Printed.{order_of, printed}
use Rattle.flat_print.proofs.Standing.{AreNumbers, order_there, order_form, put_together, printed_stands, between}
use Rattle.flat_print.proofs.print.print_flat.Goals as goal
use Rattle.flat_print.proofs.print.print_flat.Goals.{After-drop-order-2}

pub push_all-requires-clause-there : goal.push_all-requires-clause-there
push_all-requires-clause-there c =
    order_there (widths_of c.args.flat.now.wires) c.args.flat.now.arena c.args.flat.now.drivers c.in_ok-order.order.nodes.items c.len.ensures.arena c.requires.drivers
    (c.in_ok-order.ensures.nodes ∙ ap (λ (l : List Driver). order_of c.args.flat.now.arena l) c.as_slice.ensures)

pub push_all-requires-clause-form : goal.push_all-requires-clause-form
push_all-requires-clause-form c =
    order_form (widths_of c.args.flat.now.wires) c.args.flat.now.arena c.args.flat.now.drivers c.in_ok-order.order.nodes.items c.len.ensures.arena c.requires.drivers
    (c.in_ok-order.ensures.nodes ∙ ap (λ (l : List Driver). order_of c.args.flat.now.arena l) c.as_slice.ensures)

whole : (c : After-drop-order-2) → c.extend_from_slice-2.new.self.items ≡ printed c.args.flat.now
whole c =
    let nodes : c.in_ok-order.order.nodes.items ≡ order_of c.args.flat.now.arena c.args.flat.now.drivers = c.in_ok-order.ensures.nodes ∙ ap (λ (l : List Driver). order_of c.args.flat.now.arena l) c.as_slice.ensures in
    let numbers : AreNumbers (order_of c.args.flat.now.arena c.args.flat.now.drivers) c.in_ok-order.order.numbers.items =
    subst (λ (l : List Driver). AreNumbers (order_of c.args.flat.now.arena l) c.in_ok-order.order.numbers.items) c.as_slice.ensures (record { number = c.in_ok-order.ensures.numbers }) in
    put_together c.args.flat.now c.in_ok-order.order.nodes.items c.in_ok-order.order.numbers.items c.extend_from_slice-2.new.self.items c.len.ensures.arena c.requires nodes numbers
    (between c.new-text.result.items c.extend_from_slice.new.self.items c.push_all.new.text.items c.extend_from_slice-2.new.self.items
    (flat_map (λ (s : Signal). ended (wire_line s)) c.args.flat.now.wires) (flat_map (λ (j : Join). ended (join_line j)) c.args.flat.now.joins)
    (flat_map (λ (k : ℕ). ended (node_line (renamed (λ (j : ℕ). slice_index c.in_ok-order.order.numbers.items j) (shape_at c.args.flat.now.arena k)))) c.in_ok-order.order.nodes.items)
    (flat_map (λ (d : Driver). ended (drive_line (record { target = d.target; value = slice_index c.in_ok-order.order.numbers.items d.value }))) c.args.flat.now.drivers) (codes "flat 1\n") (codes "end\n")
    c.new-text.ensures.items c.in_ok-extend_from_slice.ensures.items c.in_ok-push_all.ensures.text c.in_ok-extend_from_slice-2.ensures.items)

pub returns-clause-printed : goal.returns-clause-printed
returns-clause-printed c = whole c

pub returns-clause-stands : goal.returns-clause-stands
returns-clause-stands c =
    let nodes : c.in_ok-order.order.nodes.items ≡ order_of c.args.flat.now.arena c.args.flat.now.drivers = c.in_ok-order.ensures.nodes ∙ ap (λ (l : List Driver). order_of c.args.flat.now.arena l) c.as_slice.ensures in
    subst (λ (t : Text). FlatText t c.args.flat.now) (sym (whole c))
    (printed_stands c.args.flat.now c.len.ensures.arena c.requires (subst (λ (l : List ℕ). All (λ k. HasSpot (shape_at c.args.flat.now.arena k)) l) nodes c.in_ok-push_all.ensures.fits))
