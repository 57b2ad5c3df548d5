use Rattle.std.proofs.lemmas.Result.{IfOk-from_err}
use Rattle.sv_lower.proofs.Reading.{root_choice, root_sample}
use Rattle.sv_lower.proofs.names.root_node.Goals as goal

pub returns-in_ok-node-in-Choice-clause-ok : goal.returns-in_ok-node-in-Choice-clause-ok
returns-in_ok-node-in-Choice-clause-ok c = root_choice _ _ _ _ _ _ _ _ c.in-Signal.is c.in-Choice.is c.in_ok-node-in-Choice.ensures.ok

pub returns-in_ok-node-in-Samples-clause-ok : goal.returns-in_ok-node-in-Samples-clause-ok
returns-in_ok-node-in-Samples-clause-ok c = root_sample _ _ _ _ _ _ _ _ c.in-Signal.is c.in-Samples.is c.in_ok-node-in-Samples.ensures.ok

pub returns-in_err-node-in-Choice-clause-ok : goal.returns-in_err-node-in-Choice-clause-ok
returns-in_err-node-in-Choice-clause-ok c = IfOk-from_err _ _ c.from_residual-in_err-node-in-Choice.ensures.0

pub returns-in_err-node-in-Number-clause-ok : goal.returns-in_err-node-in-Number-clause-ok
returns-in_err-node-in-Number-clause-ok c = IfOk-from_err _ _ c.from_residual.ensures.0

pub returns-in_err-node-in-Samples-clause-ok : goal.returns-in_err-node-in-Samples-clause-ok
returns-in_err-node-in-Samples-clause-ok c = IfOk-from_err _ _ c.from_residual-in_err-node-in-Samples.ensures.0
