use Rattle.std.proofs.Common.{◌≡◌, drop}
use Rattle.sv_tree.specs.declared.design.ParamWord.TheVariants as param_word
use Rattle.sv_meaning.specs.Params.{kept}
use Rattle.sv_types.specs.Values.{kind_is}
use Rattle.sv_hierarchy.specs.Scopes as m
use Rattle.sv_walk.specs.Walks.{state_of}
use Rattle.sv_walk.proofs.walker.Walker.header_params.Given as goal

abbrev pub invariant-list : goal.invariant-list
invariant-list l = m.header_params param_word.Parameter kept l.list (state_of l.fn.self l.fn.current) ≡ m.header_params l.word (kind_is l.kind) (drop l.port-index l.list) (state_of l.self l.current)
