use Rattle.std.proofs.Common.{[], ◌++◌, codes}
use Rattle.vcd_print.specs.Printed.{scope_line, declared, upscope_line, line_end}
use Rattle.vcd_print.proofs.Printing.{four_pushed}
use Rattle.vcd_print.proofs.print.push_declarations.Goals as goal

pub returns-clause-text : goal.returns-clause-text
returns-clause-text c =
    four_pushed c.args.text.now.items (codes "$timescale 1 ns $end" ++ line_end) (scope_line (codes "top")) (declared [] 0 c.args.wires.now) (upscope_line ++ (codes "$enddefinitions $end" ++ line_end))
    c.extend_from_slice.new.self.items c.push_scope.new.text.items c.push_declared.new.text.items c.extend_from_slice-2.new.self.items
    c.in_ok-extend_from_slice.ensures.items c.in_ok-push_scope.ensures c.in_ok-push_declared.ensures.text c.in_ok-extend_from_slice-2.ensures.items
