use Rattle.std.proofs.lemmas.Result.{IfOk-from_err}
use Rattle.aig.proofs.Values.{always_from}
use Rattle.aig_words.specs.Words.{number}
use Rattle.aig_words.proofs.Steps.{rest_is}
use Rattle.aig_words.proofs.divides.rem.Goals as goal

pub returns-clause-value : goal.returns-clause-value
returns-clause-value c = always_from _ _ c.in_ok-rest.ensures.value.graph (λ v o pos.
    let parts = c.in_ok-rest.ensures.value.obeyed v o pos in
    rest_is (number v c.args.a.now) _ (number v c.args.b.now) _ parts.0 parts.1)

pub returns-in_err-rest-clause-value : goal.returns-in_err-rest-clause-value
returns-in_err-rest-clause-value c = IfOk-from_err _ _ c.from_residual.ensures.0

pub returns-in_err-rest-clause-word : goal.returns-in_err-rest-clause-word
returns-in_err-rest-clause-word c = IfOk-from_err _ _ c.from_residual.ensures.0
