use Rattle.std.proofs.Common.{◌++◌, codes}
use Rattle.vcd_print.specs.Printed.{line_end}
use Rattle.vcd_print.proofs.Printing.{three_pushed}
use Rattle.vcd_print.proofs.print.push_scope.Goals as goal

pub returns : goal.returns
returns c =
    three_pushed c.args.text.now.items (codes "$scope module ") c.args.name.now (codes " $end" ++ line_end) c.extend_from_slice.new.self.items c.extend_from_slice-2.new.self.items
    c.extend_from_slice-3.new.self.items c.in_ok-extend_from_slice.ensures.items c.in_ok-extend_from_slice-2.ensures.items c.in_ok-extend_from_slice-3.ensures.items
