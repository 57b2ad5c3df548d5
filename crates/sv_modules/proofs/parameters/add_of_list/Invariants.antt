use Rattle.std.proofs.Common.{◌≡◌, ◌++◌, drop}
use Rattle.sv_tree.specs.declared.design.ParamWord.TheVariants.{Parameter}
use Rattle.sv_hierarchy.specs.Scopes.{list_params}
use Rattle.sv_modules.specs.Naming.{texts_of}
use Rattle.sv_modules.proofs.parameters.add_of_list.Given as goal

abbrev pub invariant-list : goal.invariant-list
invariant-list l = texts_of l.words.items ++ list_params l.word (drop l.port-index l.list) ≡ texts_of l.fn.words.items ++ list_params Parameter l.list
