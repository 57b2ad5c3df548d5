use Rattle.std.proofs.lemmas.Result.{IfOk-from_err}
use Rattle.aig.specs.Graph.{holds}
use Rattle.aig_words.proofs.Tables.{holds-negation}
use Rattle.aig_words.proofs.Grown.{negation_in}
use Rattle.aig_words.proofs.Tables as gates
use Rattle.pair_words.proofs.pairs.or_and.Goals as goal

pub two_gates-requires-clause-w_in : goal.two_gates-requires-clause-w_in
two_gates-requires-clause-w_in c = negation_in c.args.aig.now c.args.w _ c.not.ensures c.requires.w_in

pub two_gates-requires-clause-x_in : goal.two_gates-requires-clause-x_in
two_gates-requires-clause-x_in c = negation_in c.args.aig.now c.args.x _ c.not-2.ensures c.requires.x_in

pub two_gates-requires-clause-y_in : goal.two_gates-requires-clause-y_in
two_gates-requires-clause-y_in c = c.requires.y_in

pub two_gates-requires-clause-z_in : goal.two_gates-requires-clause-z_in
two_gates-requires-clause-z_in c = c.requires.z_in

pub returns-clause-grew : goal.returns-clause-grew
returns-clause-grew c = c.in_ok-gates.ensures.grew

pub returns-in_err-gates-clause-grew : goal.returns-in_err-gates-clause-grew
returns-in_err-gates-clause-grew c = c.in_err-gates.ensures.grew

pub returns-clause-within : goal.returns-clause-within
returns-clause-within c = record {
  up = negation_in c.two_gates.new.aig c.in_ok-gates.gates.up _ c.not-3.ensures c.in_ok-gates.ensures.within.up;
  low = c.in_ok-gates.ensures.within.low;
}

pub returns-clause-value : goal.returns-clause-value
returns-clause-value c = λ v o.
    let both = c.in_ok-gates.ensures.value v o in (
      gates.or_by (holds v c.args.w) (holds v c.args.x) _ _ _ _ (holds-negation v c.args.w _ c.not.ensures) (holds-negation v c.args.x _ c.not-2.ensures) both.0
          (holds-negation v c.in_ok-gates.gates.up _ c.not-3.ensures),
      both.1,
    )

pub returns-in_err-gates-clause-value : goal.returns-in_err-gates-clause-value
returns-in_err-gates-clause-value c = IfOk-from_err _ _ c.from_residual.ensures.0

pub returns-in_err-gates-clause-within : goal.returns-in_err-gates-clause-within
returns-in_err-gates-clause-within c = IfOk-from_err _ _ c.from_residual.ensures.0
