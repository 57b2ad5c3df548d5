use Rattle.std.proofs.lemmas.Result.{IfOk-from_err}
use Rattle.std.proofs.Common.{◌∙◌, ap, sym, length}
use Rattle.svtv_choices.specs.Choices.{choice_of}
use Rattle.choice_inputs.specs.Questions.{inputs_of}
use Rattle.choice_inputs.proofs.Chosen.{choice_long}
use Rattle.choice_inputs.proofs.trials.first_told.Goals as goal

pub is_told-requires-clause-inputs : goal.is_told-requires-clause-inputs
is_told-requires-clause-inputs c =
    let vars = c.args.vars.now in
    ap (λ xs. length (inputs_of xs)) (c.as_slice.ensures ∙ c.in_ok-choice.ensures)
    ∙ (choice_long vars (choice_of vars c.numbers.number) ((c.all_numbered.ensures vars c.requires.widths).0 c.numbers.number) ∙ sym c.requires.inputs)

pub returns-in_err-choice-clause-is : goal.returns-in_err-choice-clause-is
returns-in_err-choice-clause-is c = IfOk-from_err _ _ c.from_residual.ensures.0

pub returns-in_err-choice-clause-none : goal.returns-in_err-choice-clause-none
returns-in_err-choice-clause-none c = IfOk-from_err _ _ c.from_residual.ensures.0

pub returns-in_err-choice-clause-told : goal.returns-in_err-choice-clause-told
returns-in_err-choice-clause-told c = IfOk-from_err _ _ c.from_residual.ensures.0

pub returns-in_err-is_told-clause-is : goal.returns-in_err-is_told-clause-is
returns-in_err-is_told-clause-is c = IfOk-from_err _ _ c.from_residual-in_err-is_told.ensures.0

pub returns-in_err-is_told-clause-none : goal.returns-in_err-is_told-clause-none
returns-in_err-is_told-clause-none c = IfOk-from_err _ _ c.from_residual-in_err-is_told.ensures.0

pub returns-in_err-is_told-clause-told : goal.returns-in_err-is_told-clause-told
returns-in_err-is_told-clause-told c = IfOk-from_err _ _ c.from_residual-in_err-is_told.ensures.0
