-- The modules that code holds.
use Rattle.std.specs.Prelude.{List}
use Rattle.sv_tree.specs.declared.design.Module.{Module}
use Rattle.sv_modules.specs.declared.numbered.Modules.{Modules}
use Rattle.sv_modules.specs.Libraries.{trees_of}

abbrev pub modules_of : Modules → List Module
modules_of m = trees_of m.trees.items
