use Rattle.std.proofs.Common.{◌≡◌, List, take}
use Rattle.sv_meaning.specs.Layouts.{Name}
use Rattle.sv_modules.specs.Naming.{Holds}
use Rattle.sv_modules.specs.Libraries.{trees_of, unused_from}
use Rattle.sv_modules.proofs.roots.unused_of.Given as goal

abbrev pub invariant-modules : goal.invariant-modules
invariant-modules l = (names : List Name) → Holds l.used names → l.numbers.items ≡ unused_from 0 names (trees_of (take l.number l.modules))
