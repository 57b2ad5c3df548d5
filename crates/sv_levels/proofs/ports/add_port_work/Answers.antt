use Rattle.std.proofs.Common.{◌≡◌, ◌++◌, map, Option, subst}
use Rattle.std.specs.Result.{OnOk}
use Rattle.sv_tree.specs.declared.exprs.Expr.{Expr}
use Rattle.sv_modules.specs.Connections.{joined_is}
use Rattle.sv_hierarchy.specs.Scopes.{connected, port_named}
use Rattle.sv_levels.specs.Levels.{front_is}
use Rattle.sv_levels.specs.Ports.{port_is}
use Rattle.sv_levels.specs.Tasks.{work_is}
use Rattle.sv_levels.proofs.PortsLists.{no_works}
use Rattle.sv_levels.proofs.ports.add_port_work.Goals as goal

pub returns-in-Some : goal.returns-in-Some
returns-in-Some c =
    subst
    (λ (o : Option Expr). OnOk c.add_connected.result (map work_is c.add_connected.new.works.items ≡ map work_is c.args.works.now.items ++ connected (front_is c.args.at) (port_named c.args.connection.now.name.now.text (map port_is c.args.ports.now)) o))
    c.in-Some.ensures c.add_connected.ensures

pub returns-in-None : goal.returns-in-None
returns-in-None c =
    no_works (front_is c.args.at) (port_named c.args.connection.now.name.now.text (map port_is c.args.ports.now)) (joined_is c.args.connection.now.name.now c.args.connection.now.joined) (map work_is c.args.works.now.items) c.in-None.ensures
