use Rattle.std.proofs.lemmas.Result.{IfOk-from_err}
use Rattle.aig_words.proofs.cells.add_pair.Goals as goal

pub returns-clause-grew : goal.returns-clause-grew
returns-clause-grew c = record { grows = c.in_ok-both.ensures.grows; nodes = c.in_ok-both.ensures.nodes; flat = c.in_ok-both.ensures.flat }

pub returns-in_err-both-clause-grew : goal.returns-in_err-both-clause-grew
returns-in_err-both-clause-grew c = record { grows = c.in_err-both.ensures.grows; nodes = c.in_err-both.ensures.nodes; flat = c.in_err-both.ensures.flat }

pub returns-in_err-both-clause-sum_in : goal.returns-in_err-both-clause-sum_in
returns-in_err-both-clause-sum_in c = IfOk-from_err _ _ c.from_residual.ensures.0

pub returns-in_err-both-clause-carry_in : goal.returns-in_err-both-clause-carry_in
returns-in_err-both-clause-carry_in c = IfOk-from_err _ _ c.from_residual.ensures.0

pub returns-in_err-both-clause-carry : goal.returns-in_err-both-clause-carry
returns-in_err-both-clause-carry c = IfOk-from_err _ _ c.from_residual.ensures.0

pub returns-in_err-both-clause-sum : goal.returns-in_err-both-clause-sum
returns-in_err-both-clause-sum c = IfOk-from_err _ _ c.from_residual.ensures.0
