use Rattle.std.proofs.Common.{◌≡◌, ◌++◌, length}
use Rattle.vcd_print.specs.Printed.{opened}
use Rattle.vcd_print.proofs.print.push_opened.Given as goal

abbrev pub invariant-scopes : goal.invariant-scopes
invariant-scopes l = l.text.items ++ opened l.number l.width l.rest ≡ l.fn.text.items ++ opened l.number l.width l.path

abbrev pub decreases-scopes : goal.decreases-scopes
decreases-scopes l = length l.rest
