use Rattle.std.proofs.Common.{◌∙◌, List, Bor, ap}
use Rattle.std.specs.Option.{option_copied}
use Rattle.sv_hierarchy.specs.Scopes as m
use Rattle.sv_levels.proofs.Wired.{connected_as, lent_is}
use Rattle.sv_levels.proofs.library.params_given.Goals as goal
use Rattle.sv_levels.specs.Library.{IsListed}
use Rattle.sv_levels.specs.Tasks.{lent}
use Rattle.sv_modules.specs.Naming.{texts_of}
use Rattle.sv_tree.specs.declared.word.Word.{Word}

pub returns : goal.returns
returns c = λ at.
    connected_as IsListed at (texts_of c.deref.result.now) (m.open_params c.args.tree.now) (option_copied c.args.params) (lent c.args.params) c.connections-found.result
    (ap (λ (ns : List (Bor Word)). texts_of ns) c.deref.ensures.value ∙ c.in_ok-names.ensures) (lent_is c.args.params) (c.connections-found.ensures at)
