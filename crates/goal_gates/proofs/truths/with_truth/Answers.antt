use Rattle.std.proofs.lemmas.Result.{IfOk-from_err}
use Rattle.goal_gates.proofs.truths.with_truth.Goals as goal

pub returns-in_err-both-clause-grew : goal.returns-in_err-both-clause-grew
returns-in_err-both-clause-grew c = IfOk-from_err _ _ c.from_residual-in_err-both.ensures.0

pub returns-in_err-both-clause-truth : goal.returns-in_err-both-clause-truth
returns-in_err-both-clause-truth c = IfOk-from_err _ _ c.from_residual-in_err-both.ensures.0

pub returns-in_err-one-clause-grew : goal.returns-in_err-one-clause-grew
returns-in_err-one-clause-grew c = IfOk-from_err _ _ c.from_residual.ensures.0

pub returns-in_err-one-clause-truth : goal.returns-in_err-one-clause-truth
returns-in_err-one-clause-truth c = IfOk-from_err _ _ c.from_residual.ensures.0
