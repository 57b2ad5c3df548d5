use Rattle.std.proofs.lemmas.Result.{IfOk-from_err}
use Rattle.std.proofs.Common.{◌++◌, List, map, ap}
use Rattle.sv_modules.specs.Connections.{connection_is}
use Rattle.sv_hierarchy.specs.Scopes.{given_by}
use Rattle.sv_levels.specs.declared.tasks.Given.{Given}
use Rattle.sv_levels.specs.Levels.{front_is}
use Rattle.sv_levels.specs.Tasks.{given_is}
use Rattle.sv_levels.proofs.PortsLists.{given_next, given_end}
use Rattle.sv_levels.proofs.ports.given_by.Goals as goal

pub connections-init : goal.connections-init
connections-init c =
    ap (λ (l : List Given). map given_is l ++ given_by (front_is c.args.at) (map connection_is c.args.connections.now)) c.new-given.ensures.items

pub connections-preserved : goal.connections-preserved
connections-preserved c =
    given_next (front_is c.args.at) c.args.connections.now c.connections.connection-index c.connection-item.result (map given_is c.connections.given.items) (map given_is c.add_given.new.given.items)
    (given_by (front_is c.args.at) (map connection_is c.args.connections.now)) c.connections-test.true c.connection-item.is c.connections.invariant c.in_ok-add_given.ensures

pub returns : goal.returns
returns c =
    given_end (front_is c.args.at) c.args.connections.now c.connections.connection-index (map given_is c.connections.given.items) (given_by (front_is c.args.at) (map connection_is c.args.connections.now)) c.connections-test.false c.connections.invariant

pub returns-in_err-add_given : goal.returns-in_err-add_given
returns-in_err-add_given c = IfOk-from_err _ _ c.from_residual.ensures.0
