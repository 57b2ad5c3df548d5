use Rattle.std.proofs.Common.{◌≡◌, ◌++◌, length}
use Rattle.vcd_print.specs.Printed.{closed, scopes_of}
use Rattle.vcd_print.proofs.print.push_closed.Given as goal

abbrev pub invariant-scopes : goal.invariant-scopes
invariant-scopes l = l.text.items ++ closed (length (scopes_of l.rest)) ≡ l.fn.text.items ++ closed (length (scopes_of l.path))

abbrev pub decreases-scopes : goal.decreases-scopes
decreases-scopes l = length l.rest
