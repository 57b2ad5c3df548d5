use Rattle.std.proofs.Common.{◌≡◌, length}
use Rattle.vcd_print.specs.Printed.{moved, scopes_of, name_of}
use Rattle.vcd_print.proofs.print.unshared.Given as goal

abbrev pub invariant-scopes : goal.invariant-scopes
invariant-scopes l = record {
  moved_is : moved (scopes_of l.held) (scopes_of l.path) ≡ moved (scopes_of l.fn.held) (scopes_of l.fn.path);
  name : name_of l.path ≡ name_of l.fn.path;
}

abbrev pub decreases-scopes : goal.decreases-scopes
decreases-scopes l = length l.held
