use Rattle.std.proofs.Common.{◌≡◌, ◌++◌, take}
use Rattle.sv_hierarchy.specs.Scopes.{params_of_items}
use Rattle.sv_modules.specs.Naming.{texts_of}
use Rattle.sv_modules.proofs.parameters.+item.Given as goal

abbrev pub invariant-add_of_items-items : goal.invariant-add_of_items-items
invariant-add_of_items-items l = texts_of l.words.items ≡ texts_of l.fn.words.items ++ params_of_items (take l.item-index l.items)
