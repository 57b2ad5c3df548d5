use Rattle.std.proofs.Common.{◌+◌, ◌++◌, ap, ◌∙◌, subst, refl, arith}
use Rattle.std.specs.List.{slice_get}
use Rattle.std.proofs.lemmas.List.Elements.{All-more}
use Rattle.vcd_print.specs.Printed.{lines_since, changed_line}
use Rattle.vcd_print.specs.Dumps.{HasBits}
use Rattle.vcd_print.proofs.Printing.{since_on, since_over, all_over}
use Rattle.vcd_print.proofs.print.push_since.Goals as goal

pub wires-preserved : goal.wires-preserved
wires-preserved c = record {
  count = omega (arith, c.wires.invariant.count);
  bits = All-more HasBits c.args.values.now c.wires.value-index c.value-item.result c.wires-test.true c.wires.invariant.bits (subst HasBits c.value-item.is c.in_ok-push_changed.ensures.bits);
  so_far = since_on c.wires.text.items c.push_changed.new.text.items (c.args.text.now.items ++ lines_since 0 c.args.before.now c.args.values.now) c.wires.number c.wires.value-index (c.wires.number + 1)
      c.args.before.now c.args.values.now c.value-item.result c.wires-test.true refl
      (c.in_ok-push_changed.ensures.text ∙ ap (λ o. c.wires.text.items ++ changed_line c.wires.number o c.value-item.result) (c.value_at.ensures ∙ ap (slice_get c.args.before.now) c.wires.invariant.count)
      ∙ ap (λ v. c.wires.text.items ++ changed_line c.wires.number (slice_get c.args.before.now c.wires.value-index) v) c.value-item.is)
      c.wires.invariant.so_far;
}

pub returns-clause-text : goal.returns-clause-text
returns-clause-text c =
    since_over c.wires.text.items (c.args.text.now.items ++ lines_since 0 c.args.before.now c.args.values.now) c.wires.number c.wires.value-index c.args.before.now c.args.values.now c.wires-test.false
    c.wires.invariant.so_far

pub returns-clause-bits : goal.returns-clause-bits
returns-clause-bits c = all_over HasBits c.wires.value-index c.args.values.now c.wires-test.false c.wires.invariant.bits
