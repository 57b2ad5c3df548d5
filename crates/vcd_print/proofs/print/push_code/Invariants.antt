use Rattle.std.proofs.Common.{◌≡◌, ◌++◌}
use Rattle.vcd_print.specs.Printed.{code_of}
use Rattle.vcd_print.proofs.Printing.{code_rest}
use Rattle.vcd_print.proofs.print.push_code.Given as goal

abbrev pub invariant-digits : goal.invariant-digits
invariant-digits l = l.text.items ++ code_rest l.rest ≡ l.fn.text.items ++ code_of l.number

abbrev pub decreases-digits : goal.decreases-digits
decreases-digits l = l.rest
