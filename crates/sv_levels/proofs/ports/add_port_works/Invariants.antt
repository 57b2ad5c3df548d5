use Rattle.std.proofs.Common.{◌≡◌, ◌++◌, drop, map}
use Rattle.sv_modules.specs.Connections.{connection_is}
use Rattle.sv_hierarchy.specs.Scopes.{port_works}
use Rattle.sv_levels.specs.Levels.{front_is}
use Rattle.sv_levels.specs.Ports.{port_is}
use Rattle.sv_levels.specs.Tasks.{work_is}
use Rattle.sv_levels.proofs.ports.add_port_works.Given as goal

abbrev pub invariant-connections : goal.invariant-connections
invariant-connections l =
    map work_is l.works.items ++ port_works (front_is l.at) (map connection_is (drop l.connection-index l.connections)) (map port_is l.ports)
    ≡ map work_is l.fn.works.items ++ port_works (front_is l.at) (map connection_is l.connections) (map port_is l.ports)
