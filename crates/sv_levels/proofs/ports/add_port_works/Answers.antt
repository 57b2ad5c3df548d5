use Rattle.std.proofs.lemmas.Result.{IfOk-from_err}
use Rattle.std.proofs.Common.{◌++◌, map}
use Rattle.sv_modules.specs.Connections.{connection_is}
use Rattle.sv_hierarchy.specs.Scopes.{port_works}
use Rattle.sv_levels.specs.Levels.{front_is}
use Rattle.sv_levels.specs.Ports.{port_is}
use Rattle.sv_levels.specs.Tasks.{work_is}
use Rattle.sv_levels.proofs.PortsLists.{works_next, works_end}
use Rattle.sv_levels.proofs.ports.add_port_works.Goals as goal

pub connections-preserved : goal.connections-preserved
connections-preserved c =
    works_next (front_is c.args.at) (map port_is c.args.ports.now) c.args.connections.now c.connections.connection-index c.connection-item.result (map work_is c.connections.works.items) (map work_is c.add_port_work.new.works.items)
    (map work_is c.args.works.now.items ++ port_works (front_is c.args.at) (map connection_is c.args.connections.now) (map port_is c.args.ports.now)) c.connections-test.true c.connection-item.is c.connections.invariant c.in_ok-add_port_work.ensures

pub returns : goal.returns
returns c =
    works_end (front_is c.args.at) (map port_is c.args.ports.now) c.args.connections.now c.connections.connection-index (map work_is c.connections.works.items)
    (map work_is c.args.works.now.items ++ port_works (front_is c.args.at) (map connection_is c.args.connections.now) (map port_is c.args.ports.now)) c.connections-test.false c.connections.invariant

pub returns-in_err-add_port_work : goal.returns-in_err-add_port_work
returns-in_err-add_port_work c = IfOk-from_err _ _ c.from_residual-in_err-add_port_work.ensures.0

pub returns-in_err-index : goal.returns-in_err-index
returns-in_err-index c = IfOk-from_err _ _ c.from_residual.ensures.0
