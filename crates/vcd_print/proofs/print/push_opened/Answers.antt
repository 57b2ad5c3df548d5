use Rattle.std.proofs.Common.{◌≡◌, ◌++◌}
use Rattle.vcd_print.specs.Printed.{opened, var_line}
use Rattle.vcd_print.proofs.Printing.{open_on, open_over, on_ok}
use Rattle.vcd_print.proofs.print.push_opened.Goals as goal

pub scopes-preserved : goal.scopes-preserved
scopes-preserved c =
    open_on c.scopes.text.items c.push_scope.new.text.items (c.args.text.now.items ++ opened c.args.number c.args.width c.args.path.now) c.scopes.rest.now c.in-Some.scope.now c.in-Some.more.now
    c.args.number c.args.width c.in-Some.ensures c.in_ok-push_scope.ensures c.scopes.invariant

pub returns : goal.returns
returns c =
    on_ok c.push_var.result (c.push_var.new.text.items ≡ c.scopes.text.items ++ var_line c.args.number c.args.width c.scopes.rest.now)
    (c.push_var.new.text.items ≡ c.args.text.now.items ++ opened c.args.number c.args.width c.args.path.now)
    (λ is. open_over c.scopes.text.items c.push_var.new.text.items (c.args.text.now.items ++ opened c.args.number c.args.width c.args.path.now) c.scopes.rest.now c.args.number c.args.width
    c.in_default.ensures is c.scopes.invariant)
    c.push_var.ensures
