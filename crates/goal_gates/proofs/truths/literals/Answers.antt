use Rattle.std.proofs.lemmas.Result.{IfOk-from_err}
use Rattle.goal_gates.proofs.Tops.{broken_is}
use Rattle.goal_gates.proofs.truths.literals.Goals as goal

pub returns-clause-broken : goal.returns-clause-broken
returns-clause-broken c =
    broken_is c.args.aig.now c.all_true.new.aig c.all_true-2.new.aig c.and.new.self c.args.hyps.now c.args.claims.now c.in_ok-met.met c.in_ok-kept.kept c.not.result c.in_ok-broken.broken c.requires.claims
    c.in_ok-met.ensures.truth c.in_ok-met.ensures.grew.kept c.in_ok-kept.ensures.truth c.in_ok-kept.ensures.grew.kept c.in_ok-kept.ensures.grew.grows.longer c.not.ensures c.in_ok-broken.ensures.value c.in_ok-broken.ensures.kept c.in_ok-broken.ensures.within

pub returns-in_err-broken-clause-broken : goal.returns-in_err-broken-clause-broken
returns-in_err-broken-clause-broken c = IfOk-from_err _ _ c.from_residual-in_err-broken.ensures.0

pub returns-in_err-broken-clause-graph : goal.returns-in_err-broken-clause-graph
returns-in_err-broken-clause-graph c = IfOk-from_err _ _ c.from_residual-in_err-broken.ensures.0

pub returns-in_err-broken-clause-grew : goal.returns-in_err-broken-clause-grew
returns-in_err-broken-clause-grew c = IfOk-from_err _ _ c.from_residual-in_err-broken.ensures.0

pub returns-in_err-broken-clause-met : goal.returns-in_err-broken-clause-met
returns-in_err-broken-clause-met c = IfOk-from_err _ _ c.from_residual-in_err-broken.ensures.0

pub returns-in_err-kept-clause-broken : goal.returns-in_err-kept-clause-broken
returns-in_err-kept-clause-broken c = IfOk-from_err _ _ c.from_residual-in_err-kept.ensures.0

pub returns-in_err-kept-clause-graph : goal.returns-in_err-kept-clause-graph
returns-in_err-kept-clause-graph c = IfOk-from_err _ _ c.from_residual-in_err-kept.ensures.0

pub returns-in_err-kept-clause-grew : goal.returns-in_err-kept-clause-grew
returns-in_err-kept-clause-grew c = IfOk-from_err _ _ c.from_residual-in_err-kept.ensures.0

pub returns-in_err-kept-clause-met : goal.returns-in_err-kept-clause-met
returns-in_err-kept-clause-met c = IfOk-from_err _ _ c.from_residual-in_err-kept.ensures.0

pub returns-in_err-met-clause-broken : goal.returns-in_err-met-clause-broken
returns-in_err-met-clause-broken c = IfOk-from_err _ _ c.from_residual.ensures.0

pub returns-in_err-met-clause-graph : goal.returns-in_err-met-clause-graph
returns-in_err-met-clause-graph c = IfOk-from_err _ _ c.from_residual.ensures.0

pub returns-in_err-met-clause-grew : goal.returns-in_err-met-clause-grew
returns-in_err-met-clause-grew c = IfOk-from_err _ _ c.from_residual.ensures.0

pub returns-in_err-met-clause-met : goal.returns-in_err-met-clause-met
returns-in_err-met-clause-met c = IfOk-from_err _ _ c.from_residual.ensures.0
