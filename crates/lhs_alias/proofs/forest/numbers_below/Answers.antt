use Rattle.std.proofs.Common.{◌++◌, ◌∷◌, [], List, ℕ, sym, ap, ◌∙◌}
use Rattle.std.proofs.lemmas.Result.{IfOk-from_err}
use Rattle.lhs_alias.proofs.SegBits.{range-push}
use Rattle.lhs_alias.proofs.forest.numbers_below.Goals as goal

pub loop-number-preserved : goal.loop-number-preserved
loop-number-preserved c =
    c.in_ok-push.ensures.items
    ∙ ap (λ (xs : List ℕ). xs ++ c.loop-number.number ∷ []) c.loop-number.invariant
    ∙ sym (range-push c.loop-number.number)

pub returns-in_err-numbers : goal.returns-in_err-numbers
returns-in_err-numbers c = IfOk-from_err _ _ c.from_residual.ensures.0

pub returns-in_err-push : goal.returns-in_err-push
returns-in_err-push c = IfOk-from_err _ _ c.from_residual-in_err-push.ensures.0
