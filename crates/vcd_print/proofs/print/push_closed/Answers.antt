use Rattle.std.proofs.Common.{◌++◌, length}
use Rattle.vcd_print.specs.Printed.{closed, scopes_of}
use Rattle.vcd_print.proofs.Printing.{close_on, close_over}
use Rattle.vcd_print.proofs.print.push_closed.Goals as goal

pub scopes-preserved : goal.scopes-preserved
scopes-preserved c =
    close_on c.scopes.text.items c.extend_from_slice.new.self.items (c.args.text.now.items ++ closed (length (scopes_of c.args.path.now))) c.scopes.rest.now c.in-Some.field-0-0.now c.in-Some.more.now
    c.in-Some.ensures c.in_ok-extend_from_slice.ensures.items c.scopes.invariant

pub returns : goal.returns
returns c = close_over c.scopes.text.items (c.args.text.now.items ++ closed (length (scopes_of c.args.path.now))) c.scopes.rest.now c.in_default.ensures c.scopes.invariant
