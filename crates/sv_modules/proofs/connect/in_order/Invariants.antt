use Rattle.std.proofs.Common.{◌≡◌, map, drop}
use Rattle.sv_meaning.specs.Layouts.{Scope}
use Rattle.sv_meaning.specs.Params.{in_order}
use Rattle.sv_modules.specs.Naming.{texts_of}
use Rattle.sv_modules.specs.Connections.{connection_is}
use Rattle.sv_modules.proofs.Pinned.{behind}
use Rattle.sv_modules.proofs.connect.in_order.Given as goal

abbrev pub invariant-exprs : goal.invariant-exprs
invariant-exprs l = (at : Scope) → in_order at (texts_of l.names) l.exprs ≡ behind (map connection_is l.list.items) (in_order at (drop l.at (texts_of l.names)) (drop l.at l.exprs))
