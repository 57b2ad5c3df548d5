use Rattle.std.proofs.Common.{take}
use Rattle.sv_hierarchy.specs.Scopes.{instantiated_by}
use Rattle.sv_modules.specs.Naming.{Adds}
use Rattle.sv_modules.proofs.used.+item.Given as goal

abbrev pub invariant-add_items-items : goal.invariant-add_items-items
invariant-add_items-items l = Adds l.fn.used (instantiated_by (take l.item-index l.items)) l.used
