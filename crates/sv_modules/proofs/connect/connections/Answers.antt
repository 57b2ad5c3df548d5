use Rattle.std.proofs.Common.{◌∙◌, List, Option, Some, sym, ap, subst}
use Rattle.std.specs.Option.{option_copied}
use Rattle.sv_tree.specs.declared.exprs.Expr.{Expr}
use Rattle.sv_tree.specs.declared.design.Pins.{Pins}
use Rattle.sv_meaning.specs.Params.{connections, in_order}
use Rattle.sv_modules.specs.Naming.{texts_of}
use Rattle.sv_modules.proofs.Pinned.{Listed}
use Rattle.sv_modules.proofs.connect.connections.Goals as goal

pub returns-in-Ordered : goal.returns-in-Ordered
returns-in-Ordered c = λ at.
    subst (λ (o : Option Pins). Listed (connections at (texts_of c.args.names.now) o) c.in_order.result) (sym (ap option_copied c.in-Some.is ∙ ap Some c.in-Ordered.is))
    (subst (λ (xs : List Expr). Listed (in_order at (texts_of c.args.names.now) xs) c.in_order.result) c.as_slice-in-Ordered.ensures (c.in_order.ensures at))
