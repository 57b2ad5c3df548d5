use Rattle.std.proofs.lemmas.Result.{IfOk-from_err}
use Rattle.std.proofs.Common.{◌∙◌, ◌+◌, ◌++◌, List, drop, sym, ap, refl, arith, Bor, Vec, Global}
use Rattle.std.proofs.lemmas.List.{append-nil}
use Rattle.sv_tree.specs.declared.word.Word.{Word}
use Rattle.sv_meaning.specs.Layouts.{Name}
use Rattle.sv_hierarchy.specs.Scopes.{list_params}
use Rattle.sv_modules.specs.Naming.{texts_of}
use Rattle.sv_modules.proofs.Turns.{drop_none}
use Rattle.sv_modules.proofs.Given.{texts_push, list_then, list_else, no_ports}
use Rattle.sv_modules.proofs.parameters.add_of_list.Goals as goal
use Rattle.sv_modules.proofs.parameters.add_of_list.Goals.{then-is_parameter+in_ok-push, else-is_parameter}

pub list-preserved : goal.list-preserved
list-preserved c = elim c.if-is_parameter.branch [
  | then-is_parameter+in_ok-push w ↦
      ap (λ (v : Vec (Bor Word) Global). texts_of v.items ++ list_params c.unwrap_or-word.result (drop (c.list.port-index + 1) c.args.list.now)) w.words-is
      ∙ ap (λ (x : List Name). x ++ list_params c.unwrap_or-word.result (drop (c.list.port-index + 1) c.args.list.now)) (texts_push c.list.words.items w.push.new.self.items _ c.port-item.result.name.text w.in_ok-push.ensures.items refl)
      ∙ list_then (texts_of c.list.words.items) c.args.list.now c.list.port-index c.port-item.result c.list.word c.unwrap_or-word.result c.list-test.true c.port-item.is c.unwrap_or-word.ensures (sym c.is_parameter.ensures ∙ w.if-is_parameter.true) ∙ c.list.invariant
  | else-is_parameter w ↦
      ap (λ (v : Vec (Bor Word) Global). texts_of v.items ++ list_params c.unwrap_or-word.result (drop (c.list.port-index + 1) c.args.list.now)) w.words-is
      ∙ list_else (texts_of c.list.words.items) c.args.list.now c.list.port-index c.port-item.result c.list.word c.unwrap_or-word.result c.list-test.true c.port-item.is c.unwrap_or-word.ensures (sym c.is_parameter.ensures ∙ w.if-is_parameter.false) ∙ c.list.invariant
]

pub returns : goal.returns
returns c =
    sym (ap (λ (x : List Name). texts_of c.list.words.items ++ x) (ap (list_params c.list.word) (drop_none c.args.list.now c.list.port-index (omega (arith, c.list-test.false))) ∙ no_ports c.list.word) ∙ append-nil (texts_of c.list.words.items))
    ∙ c.list.invariant

pub returns-in_err-push : goal.returns-in_err-push
returns-in_err-push c = IfOk-from_err _ _ c.from_residual.ensures.0
