-- How an instance is opened, in the steps that the program takes.
use Rattle.std.specs.Prelude.{false, List}
use Rattle.sv_meaning.specs.Faults.{Judged, ◌>>=◌}
use Rattle.sv_meaning.specs.Params.{Connection}
use Rattle.sv_hierarchy.specs.Scopes as m

-- what comes behind the connections
abbrev pub behind_wiring : m.Known → m.Child → m.State → List Connection × List Connection → Judged m.State
behind_wiring k c st x = m.count_instance c st >>= λ d. m.instance_walk false k.tree c.at x.1 (m.begun k c.path c.at.level (m.given_by c.at x.0) d)
