use Rattle.std.proofs.lemmas.Result.{IfOk-from_err}
use Rattle.std.proofs.Common.{List, [], ◌∷◌, ◌++◌, ap, ◌∙◌}
use Rattle.aig.specs.declared.gate.Lit.{Lit}
use Rattle.pair_words.proofs.numbers.single.Goals as goal

pub returns : goal.returns
returns c = (c.in_ok-bit.bit, c.in_ok-bit.was, c.in_ok-push.ensures.items ∙ ap (λ (xs : List Lit). xs ++ c.in_ok-bit.bit ∷ []) c.new-word.ensures.items)

pub returns-in_err-bit : goal.returns-in_err-bit
returns-in_err-bit c = IfOk-from_err _ _ c.from_residual.ensures.0

pub returns-in_err-push : goal.returns-in_err-push
returns-in_err-push c = IfOk-from_err _ _ c.from_residual-in_err-push.ensures.0
