use Rattle.std.proofs.lemmas.Result.{IfOk-from_err}
use Rattle.aig.specs.Graph.{holds}
use Rattle.aig.proofs.Growth.{Obeys-older}
use Rattle.aig_words.proofs.Tables.{holds-negation}
use Rattle.aig_words.proofs.Grown.{Grew-both, Grew-more, negation_in}
use Rattle.aig_words.proofs.Tables as gates
use Rattle.pair_words.proofs.Tables.{or_by}
use Rattle.pair_words.proofs.pairs.either.Goals as goal

pub two_gates-requires-clause-w_in : goal.two_gates-requires-clause-w_in
two_gates-requires-clause-w_in c = negation_in c.unfloat_both.new.aig _ _ c.not.ensures c.in_ok-first.ensures.first_in.up

pub two_gates-requires-clause-x_in : goal.two_gates-requires-clause-x_in
two_gates-requires-clause-x_in c = negation_in c.unfloat_both.new.aig _ _ c.not-2.ensures c.in_ok-first.ensures.second_in.up

pub two_gates-requires-clause-y_in : goal.two_gates-requires-clause-y_in
two_gates-requires-clause-y_in c = negation_in c.unfloat_both.new.aig _ _ c.not-3.ensures c.in_ok-first.ensures.first_in.low

pub two_gates-requires-clause-z_in : goal.two_gates-requires-clause-z_in
two_gates-requires-clause-z_in c = negation_in c.unfloat_both.new.aig _ _ c.not-4.ensures c.in_ok-first.ensures.second_in.low

pub returns-clause-grew : goal.returns-clause-grew
returns-clause-grew c = Grew-both 4 2 c.args.aig.now c.unfloat_both.new.aig c.two_gates.new.aig c.in_ok-first.ensures.grew c.in_ok-neither.ensures.grew

pub returns-in_err-first-clause-grew : goal.returns-in_err-first-clause-grew
returns-in_err-first-clause-grew c = Grew-more 4 2 c.args.aig.now c.unfloat_both.new.aig c.in_err-first.ensures.grew

pub returns-in_err-neither-clause-grew : goal.returns-in_err-neither-clause-grew
returns-in_err-neither-clause-grew c = Grew-both 4 2 c.args.aig.now c.unfloat_both.new.aig c.two_gates.new.aig c.in_ok-first.ensures.grew c.in_err-neither.ensures.grew

pub returns-clause-within : goal.returns-clause-within
returns-clause-within c = record {
  up = negation_in c.two_gates.new.aig _ _ c.not-5.ensures c.in_ok-neither.ensures.within.up;
  low = negation_in c.two_gates.new.aig _ _ c.not-6.ensures c.in_ok-neither.ensures.within.low;
}

pub returns-clause-value : goal.returns-clause-value
returns-clause-value c = λ v o.
    let o1 = Obeys-older v _ _ c.in_ok-neither.ensures.grew.grows o in
    let first = c.in_ok-first.ensures.first v o1 in
    let second = c.in_ok-first.ensures.second v o1 in
    let neither = c.in_ok-neither.ensures.value v o in
    or_by (holds v c.args.a.up) (holds v c.args.a.low) (holds v c.args.b.up) (holds v c.args.b.low) _ _ _ _ _ _ first.0 first.1 second.0 second.1
    (gates.or_by _ _ _ _ _ _ (holds-negation v _ _ c.not.ensures) (holds-negation v _ _ c.not-2.ensures) neither.0 (holds-negation v _ _ c.not-5.ensures))
    (gates.or_by _ _ _ _ _ _ (holds-negation v _ _ c.not-3.ensures) (holds-negation v _ _ c.not-4.ensures) neither.1 (holds-negation v _ _ c.not-6.ensures))

pub returns-in_err-first-clause-value : goal.returns-in_err-first-clause-value
returns-in_err-first-clause-value c = IfOk-from_err _ _ c.from_residual.ensures.0

pub returns-in_err-first-clause-within : goal.returns-in_err-first-clause-within
returns-in_err-first-clause-within c = IfOk-from_err _ _ c.from_residual.ensures.0

pub returns-in_err-neither-clause-value : goal.returns-in_err-neither-clause-value
returns-in_err-neither-clause-value c = IfOk-from_err _ _ c.from_residual-in_err-neither.ensures.0

pub returns-in_err-neither-clause-within : goal.returns-in_err-neither-clause-within
returns-in_err-neither-clause-within c = IfOk-from_err _ _ c.from_residual-in_err-neither.ensures.0
