use Rattle.std.proofs.Common.{◌≡◌, ◌++◌, drop, map}
use Rattle.sv_modules.specs.Connections.{connection_is}
use Rattle.sv_hierarchy.specs.Scopes.{given_by}
use Rattle.sv_levels.specs.Levels.{front_is}
use Rattle.sv_levels.specs.Tasks.{given_is}
use Rattle.sv_levels.proofs.ports.given_by.Given as goal

abbrev pub invariant-connections : goal.invariant-connections
invariant-connections l = map given_is l.given.items ++ given_by (front_is l.at) (map connection_is (drop l.connection-index l.connections)) ≡ given_by (front_is l.at) (map connection_is l.connections)
