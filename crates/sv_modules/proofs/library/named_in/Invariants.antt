use Rattle.std.proofs.Common.{take}
use Rattle.sv_hierarchy.specs.Libraries.{modules_in}
use Rattle.sv_modules.specs.Libraries.{trees_of}
use Rattle.sv_modules.specs.Named.{Lists}
use Rattle.sv_modules.proofs.library.named_in.Given as goal

abbrev pub invariant-parts : goal.invariant-parts
invariant-parts l = Lists l.numbers (trees_of l.trees.items) (modules_in (take l.part-index l.parts))
