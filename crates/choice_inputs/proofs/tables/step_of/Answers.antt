use Rattle.std.proofs.Common.{◌+◌, List, [], ◌∷◌, ap, ◌∙◌}
use Rattle.std.proofs.lemmas.Result.{IfOk-weaker}
use Rattle.cnf.specs.declared.Dim.{Dim}
use Rattle.refute_check.specs.Entry.{entry_of}
use Rattle.choice_inputs.proofs.tables.step_of.Goals as goal

pub returns : goal.returns
returns c =
    IfOk-weaker c.of.result _ _ (λ s h. h ∙ ap (λ (cl : List Dim). entry_of cl (c.args.first ∷ (c.args.first + 1) ∷ [])) c.as_slice.ensures.value) c.of.ensures
