use Rattle.std.proofs.lemmas.Result.{IfOk-from_err}
use Rattle.std.proofs.Common.{sym, refl, false, ◌∙◌}
use Rattle.aig.proofs.Summing.{summed_grown}
use Rattle.aig.proofs.Linked.{grows_made, both_made}
use Rattle.aig.proofs.graph.Aig.gate_of.Goals as goal

pub invariant_of-self-2 : goal.invariant_of-self-2
invariant_of-self-2 c =
    let made = c.in_ok-node.ensures.is in
    record {
      linked = c.node_of.ensures.linked;
      summed = summed_grown _ _ _ (grows_made _ _ c.args.a c.args.b c.in_ok-node.node made) c.self.invariant.summed;
      counted = c.self.invariant.counted ∙ sym (grows_made _ _ c.args.a c.args.b c.in_ok-node.node made).inputs;
    }

pub returns-clause-value : goal.returns-clause-value
returns-clause-value c =
    both_made c.self.inside.gates.items _ c.args.a c.args.b (record { node = c.in_ok-node.node; negated = false }) c.in_ok-node.ensures.is refl c.node_of.ensures.linked.graph

pub returns-in_err-node-clause-is : goal.returns-in_err-node-clause-is
returns-in_err-node-clause-is c = IfOk-from_err _ _ c.from_residual.ensures.0

pub returns-in_err-node-clause-plain : goal.returns-in_err-node-clause-plain
returns-in_err-node-clause-plain c = IfOk-from_err _ _ c.from_residual.ensures.0

pub returns-in_err-node-clause-value : goal.returns-in_err-node-clause-value
returns-in_err-node-clause-value c = IfOk-from_err _ _ c.from_residual.ensures.0
