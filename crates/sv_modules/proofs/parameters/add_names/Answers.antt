use Rattle.std.proofs.lemmas.Result.{IfOk-from_err}
use Rattle.std.proofs.Common.{◌∙◌, ◌++◌, List, [], take, sym, ap, refl}
use Rattle.sv_meaning.specs.Layouts.{Name}
use Rattle.sv_hierarchy.specs.Scopes.{item_names}
use Rattle.sv_modules.specs.Naming.{texts_of}
use Rattle.sv_modules.proofs.Given.{no_names, nothing_more, names_next, one_text}
use Rattle.sv_modules.proofs.parameters.add_names.Goals as goal

pub list-init : goal.list-init
list-init c = nothing_more (texts_of c.args.words.now.items) (item_names []) no_names

pub list-preserved : goal.list-preserved
list-preserved c =
    one_text c.list.words.items c.push.new.self.items _ (texts_of c.args.words.now.items) (item_names (take c.list.item-index c.args.list.now)) c.item-item.result.name.text c.in_ok-push.ensures.items refl c.list.invariant
    ∙ ap (λ (x : List Name). texts_of c.args.words.now.items ++ x) (sym (names_next c.args.list.now c.list.item-index c.item-item.result c.list-test.true c.item-item.is))

pub returns-in_err-push : goal.returns-in_err-push
returns-in_err-push c = IfOk-from_err _ _ c.from_residual.ensures.0
