use Rattle.std.proofs.lemmas.Result.{IfOk-from_err}
use Rattle.aig.specs.Graph.{holds}
use Rattle.aig.proofs.Growth.{Obeys-older}
use Rattle.aig_words.proofs.Grown.{Grew-both, Grew-more, if_ok}
use Rattle.pair_words.proofs.Tables.{and_by}
use Rattle.pair_words.proofs.pairs.both.Goals as goal

pub two_gates-requires-clause-w_in : goal.two_gates-requires-clause-w_in
two_gates-requires-clause-w_in c = c.in_ok-first.ensures.first_in.up

pub two_gates-requires-clause-x_in : goal.two_gates-requires-clause-x_in
two_gates-requires-clause-x_in c = c.in_ok-first.ensures.second_in.up

pub two_gates-requires-clause-y_in : goal.two_gates-requires-clause-y_in
two_gates-requires-clause-y_in c = c.in_ok-first.ensures.first_in.low

pub two_gates-requires-clause-z_in : goal.two_gates-requires-clause-z_in
two_gates-requires-clause-z_in c = c.in_ok-first.ensures.second_in.low

pub returns-clause-grew : goal.returns-clause-grew
returns-clause-grew c = Grew-both 4 2 c.args.aig.now c.unfloat_both.new.aig c.two_gates.new.aig c.in_ok-first.ensures.grew c.two_gates.ensures.grew

pub returns-in_err-first-clause-grew : goal.returns-in_err-first-clause-grew
returns-in_err-first-clause-grew c = Grew-more 4 2 c.args.aig.now c.unfloat_both.new.aig c.in_err-first.ensures.grew

pub returns-clause-within : goal.returns-clause-within
returns-clause-within c = c.two_gates.ensures.within

pub returns-clause-value : goal.returns-clause-value
returns-clause-value c = if_ok c.two_gates.result _ _ c.two_gates.ensures.value (λ r h v o.
    let o1 = Obeys-older v _ _ c.two_gates.ensures.grew.grows o in
    let first = c.in_ok-first.ensures.first v o1 in
    let second = c.in_ok-first.ensures.second v o1 in
    let gates = h v o in
    and_by (holds v c.args.a.up) (holds v c.args.a.low) (holds v c.args.b.up) (holds v c.args.b.low) _ _ _ _ _ _ first.0 first.1 second.0 second.1 gates.0 gates.1)

pub returns-in_err-first-clause-value : goal.returns-in_err-first-clause-value
returns-in_err-first-clause-value c = IfOk-from_err _ _ c.from_residual.ensures.0

pub returns-in_err-first-clause-within : goal.returns-in_err-first-clause-within
returns-in_err-first-clause-within c = IfOk-from_err _ _ c.from_residual.ensures.0
