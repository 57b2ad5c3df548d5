use Rattle.std.proofs.Common.{◌≡◌, ◌++◌, take}
use Rattle.sv_hierarchy.specs.Scopes.{item_names}
use Rattle.sv_modules.specs.Naming.{texts_of}
use Rattle.sv_modules.proofs.parameters.add_names.Given as goal

abbrev pub invariant-list : goal.invariant-list
invariant-list l = texts_of l.words.items ≡ texts_of l.fn.words.items ++ item_names (take l.item-index l.list)
