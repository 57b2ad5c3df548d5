use Rattle.std.proofs.lemmas.Result.{IfOk-from_err}
use Rattle.std.proofs.Common.{◌∙◌, ap, length, slice_index_or, false}
use Rattle.choice_inputs.proofs.Asked.{inputs_all, told_of}
use Rattle.choice_inputs.proofs.choices.choice_of_values.Goals as goal

pub choice_by-requires-clause-long : goal.choice_by-requires-clause-long
choice_by-requires-clause-long c =
    ap length (c.deref.ensures.value ∙ c.in_ok-inputs.ensures) ∙ (inputs_all c.args.aig.now (λ k. slice_index_or c.args.values.now k false) ∙ c.requires.inputs)

pub returns-clause-told : goal.returns-clause-told
returns-clause-told c root within solves =
    told_of c.args.aig.now root (λ k. slice_index_or c.args.values.now k false) c.deref.result.now c.choice_by.result c.len.ensures.graph within solves (c.deref.ensures.value ∙ c.in_ok-inputs.ensures) c.choice_by.ensures.inputs

pub returns-in_err-inputs-clause-is : goal.returns-in_err-inputs-clause-is
returns-in_err-inputs-clause-is c = IfOk-from_err _ _ c.from_residual.ensures.0
