use Rattle.std.proofs.lemmas.Result.{IfOk-from_err}
use Rattle.std.proofs.Common.{rules, sym, ◌∙◌}
use Rattle.sv_lower.proofs.Reading.{wire_reads_node, wire_reads_variable}
use Rattle.sv_lower.proofs.names.wire.Goals as goal

pub returns-in_ok-node-in-Some-clause-ok : goal.returns-in_ok-node-in-Some-clause-ok
returns-in_ok-node-in-Some-clause-ok c = wire_reads_node _ _ _ _ _ _ _ _ (sym c.node_of.ensures ∙ c.in-Some.is) (search rules) c.in_ok-node-in-Some.ensures.ok

pub returns-in_ok-node-in-None-clause-ok : goal.returns-in_ok-node-in-None-clause-ok
returns-in_ok-node-in-None-clause-ok c = wire_reads_variable _ _ _ _ _ _ _ (sym c.node_of.ensures ∙ c.in-None.is) c.variable-name.ensures c.in_ok-node-in-None.ensures.ok

pub returns-in_err-node-in-None-clause-ok : goal.returns-in_err-node-in-None-clause-ok
returns-in_err-node-in-None-clause-ok c = IfOk-from_err _ _ c.from_residual-in_err-node-in-None.ensures.0

pub returns-in_err-node-in-Some-clause-ok : goal.returns-in_err-node-in-Some-clause-ok
returns-in_err-node-in-Some-clause-ok c = IfOk-from_err _ _ c.from_residual.ensures.0
