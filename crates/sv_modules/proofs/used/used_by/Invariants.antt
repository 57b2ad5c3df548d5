use Rattle.std.proofs.Common.{take}
use Rattle.sv_modules.specs.Naming.{Holds}
use Rattle.sv_modules.specs.Libraries.{trees_of, used_in}
use Rattle.sv_modules.proofs.used.used_by.Given as goal

abbrev pub invariant-modules : goal.invariant-modules
invariant-modules l = Holds l.used (used_in (trees_of (take l.module-index l.modules)))
