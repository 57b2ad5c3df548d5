use Rattle.std.proofs.Common.{◌++◌, ◌∙◌, ap}
use Rattle.vcd_print.specs.Printed.{declarations}
use Rattle.vcd_print.proofs.Adding.{begun}
use Rattle.vcd_print.proofs.phases.Dump.new.Goals as goal

pub returns : goal.returns
returns c = begun c.args.wires.now c.push_declarations.new.text.items (c.in_ok-push_declarations.ensures.text ∙ ap (λ t. t ++ declarations c.args.wires.now) c.new-text.ensures.items) c.in_ok-push_declarations.ensures.widths
