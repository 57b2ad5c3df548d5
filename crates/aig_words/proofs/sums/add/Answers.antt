use Rattle.std.proofs.lemmas.Result.{IfOk-from_err}
use Rattle.std.proofs.Common.{◌≡◌, ◌+◌, ◌^◌, Bool, length, ap, arith}
use Rattle.aig.specs.Graph.{holds}
use Rattle.aig.proofs.Values.{always_from}
use Rattle.aig_words.specs.Words.{number, weight}
use Rattle.aig_words.proofs.Numbers.{number-below-at, holds-zero}
use Rattle.aig_words.proofs.Steps.{sum_mod}
use Rattle.aig_words.proofs.sums.add.Goals as goal

pub returns-clause-value : goal.returns-clause-value
returns-clause-value c = always_from _ _ c.in_ok-word.ensures.value.graph (λ v o.
    let e = c.in_ok-word.ensures.value.obeyed v o in
    let z : weight (holds v c.constant.result) ≡ 0 = ap (λ (b : Bool). weight b) (holds-zero v c.constant.result c.constant.ensures o.bottom) in
    sum_mod (number v c.in_ok-word.field-0.word.items) (weight (holds v c.in_ok-word.field-0.carry)) (2 ^ length c.args.a.now) (number v c.args.a.now + number v c.args.b.now)
    (number-below-at v c.in_ok-word.field-0.word.items (length c.args.a.now) c.in_ok-word.ensures.word.long) (omega (arith, e, z)))

pub returns-in_err-word-clause-value : goal.returns-in_err-word-clause-value
returns-in_err-word-clause-value c = IfOk-from_err _ _ c.from_residual.ensures.0

pub returns-in_err-word-clause-word : goal.returns-in_err-word-clause-word
returns-in_err-word-clause-word c = IfOk-from_err _ _ c.from_residual.ensures.0
