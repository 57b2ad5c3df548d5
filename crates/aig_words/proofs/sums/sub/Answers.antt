use Rattle.std.proofs.Common.{◌^◌, length, sym}
use Rattle.std.proofs.lemmas.Result.{IfOk-from_err}
use Rattle.aig.specs.Graph.{holds}
use Rattle.aig.proofs.Values.{always_from}
use Rattle.aig_words.specs.Words.{number, weight}
use Rattle.aig_words.proofs.Numbers.{number-below-at}
use Rattle.aig_words.proofs.Steps.{sub_mod}
use Rattle.aig_words.proofs.sums.sub.Goals as goal

pub returns-clause-grew : goal.returns-clause-grew
returns-clause-grew c = c.in_ok-word.ensures.grew

pub returns-clause-word : goal.returns-clause-word
returns-clause-word c = c.in_ok-word.ensures.word

pub returns-clause-value : goal.returns-clause-value
returns-clause-value c = always_from _ _ c.in_ok-word.ensures.value.graph (λ v o.
    let a = c.args.a.now in
    let b = c.args.b.now in
    sub_mod (number v c.in_ok-word.field-0.word.items) (weight (holds v c.in_ok-word.field-0.carry)) (2 ^ length a) (number v a) (number v b)
    (number-below-at v c.in_ok-word.field-0.word.items (length a) c.in_ok-word.ensures.word.long) (number-below-at v b (length a) (sym c.requires.same)) (c.in_ok-word.ensures.value.obeyed v o))

pub returns-in_err-word-clause-grew : goal.returns-in_err-word-clause-grew
returns-in_err-word-clause-grew c = c.in_err-word.ensures.grew

pub returns-in_err-word-clause-word : goal.returns-in_err-word-clause-word
returns-in_err-word-clause-word c = IfOk-from_err _ _ c.from_residual.ensures.0

pub returns-in_err-word-clause-value : goal.returns-in_err-word-clause-value
returns-in_err-word-clause-value c = IfOk-from_err _ _ c.from_residual.ensures.0
