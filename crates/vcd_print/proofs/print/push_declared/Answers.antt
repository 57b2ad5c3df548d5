use Rattle.std.proofs.Common.{◌≡◌, ◌+◌, ◌++◌, [], length, drop, refl, ap, ◌∙◌, subst, All, ◌<◌, arith}
use Rattle.std.proofs.lemmas.List.Elements.{All-more}
use Rattle.sv_outside.specs.declared.text.Signal.{Signal}
use Rattle.vcd_print.specs.Printed.{declared, closed, scopes_of}
use Rattle.vcd_print.proofs.Printing.{wire_on, wires_over, on_ok, always, all_over}
use Rattle.vcd_print.proofs.print.push_declared.Goals as goal

pub wires-preserved : goal.wires-preserved
wires-preserved c = record {
  count = omega (arith, c.wires.invariant.count);
  widths = All-more (λ (w : Signal). w.width < 256) c.args.wires.now c.wires.wire-index c.wire-item.result c.wires-test.true c.wires.invariant.widths
      (subst (λ (w : Signal). w.width < 256) c.wire-item.is c.in_ok-push_wire.ensures.width);
  so_far = ap (λ h. c.push_wire.new.text.items ++ declared h (c.wires.number + 1) (drop (c.wires.wire-index + 1) c.args.wires.now)) c.bytes-held.ensures
      ∙ wire_on c.wires.text.items c.push_wire.new.text.items (c.args.text.now.items ++ declared [] 0 c.args.wires.now) c.wires.held.now c.wires.number c.wires.wire-index (c.wires.number + 1) c.args.wires.now
      c.wire-item.result c.wires-test.true c.wire-item.is refl c.in_ok-push_wire.ensures.text c.wires.invariant.so_far;
}

pub returns-clause-text : goal.returns-clause-text
returns-clause-text c =
    on_ok c.push_closed.result (c.push_closed.new.text.items ≡ c.wires.text.items ++ closed (length (scopes_of c.wires.held.now)))
    (c.push_closed.new.text.items ≡ c.args.text.now.items ++ declared [] 0 c.args.wires.now)
    (λ is. wires_over c.wires.text.items c.push_closed.new.text.items (c.args.text.now.items ++ declared [] 0 c.args.wires.now) c.wires.held.now c.wires.number c.wires.wire-index c.args.wires.now
    c.wires-test.false is c.wires.invariant.so_far)
    c.push_closed.ensures

pub returns-clause-widths : goal.returns-clause-widths
returns-clause-widths c =
    always c.push_closed.result (All (λ (w : Signal). w.width < 256) c.args.wires.now) (all_over (λ (w : Signal). w.width < 256) c.wires.wire-index c.args.wires.now c.wires-test.false c.wires.invariant.widths)
