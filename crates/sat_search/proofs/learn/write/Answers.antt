use Rattle.std.proofs.Common.{◌≡◌, List, [], ◌∷◌, ◌++◌, ap, ◌∙◌}
use Rattle.std.proofs.lemmas.Result.{IfOk-from_err}
use Rattle.cnf.specs.declared.Dim.{Dim}
use Rattle.std.proofs.Common.{ℕ}
use Rattle.refute_check.specs.Entry.{Entry, entry_of}
use Rattle.sat_search.proofs.learn.write.Goals as goal

same_entry : (a b : List Dim) (g h : List ℕ) → a ≡ b → g ≡ h → entry_of a g ≡ entry_of b h
same_entry a b g h e f = λ i. record { clause = e i; hints = f i }

pub returns : goal.returns
returns c =
    let is : c.in_ok-step.step ≡ c.args.draft.now = c.in_ok-step.ensures ∙ same_entry _ _ _ _ c.as_slice.ensures.value c.as_slice-2.ensures.value ∙ c.draft.view_is in
    c.in_ok-push.ensures.items ∙ ap (λ (y : Entry). c.args.steps.now.items ++ y ∷ []) is

pub returns-in_err-step : goal.returns-in_err-step
returns-in_err-step c = IfOk-from_err _ _ c.from_residual.ensures.0

pub returns-in_err-push : goal.returns-in_err-push
returns-in_err-push c = IfOk-from_err _ _ c.from_residual-in_err-push.ensures.0
