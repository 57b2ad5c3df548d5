use Rattle.std.proofs.Common.{◌≡◌, List, ap, ◌∙◌, arith}
use Rattle.aig.specs.declared.gate.Gate.{Gate}
use Rattle.aig.specs.declared.gate.Gate.TheVariants.{Input}
use Rattle.aig.specs.Graph.{count_inputs}
use Rattle.aig.proofs.Growth.{count_inputs-push_input, IsGraph-push_input}
use Rattle.aig.proofs.Linked.{kept_input, kept_pushed, value_pushed}
use Rattle.aig.proofs.Values.{count_inputs_lt}
use Rattle.std.proofs.lemmas.Result.{IfOk-from_err}
use Rattle.aig.proofs.graph.Aig.input.Goals as goal

pub overflow_add-self : goal.overflow_add-self
overflow_add-self c = omega (arith, count_inputs_lt c.self.inside.gates.items c.self.invariant.linked.graph, c.self.invariant.counted)

pub invariant_of-self-2 : goal.invariant_of-self-2
invariant_of-self-2 c =
    kept_input c.self.inside.inputs c.self.inside.gates.items _ c.self.inside.index _ c.self.inside.sums c.in_ok-node.ensures.gates c.push_gate.ensures.indexed c.self.invariant

pub returns-clause-count : goal.returns-clause-count
returns-clause-count c = rw (c.in_ok-node.ensures.gates, ← c.self.view_is) (count_inputs-push_input c.self.inside.gates.items c.self.inside.inputs)

pub returns-clause-graph : goal.returns-clause-graph
returns-clause-graph c = rw c.in_ok-node.ensures.gates (IsGraph-push_input c.self.inside.gates.items c.self.inside.inputs c.self.invariant.linked.graph c.self.invariant.counted)

pub returns-clause-kept : goal.returns-clause-kept
returns-clause-kept c = rw (c.in_ok-node.ensures.gates, ← c.self.view_is) (kept_pushed c.self.inside.gates.items (Input c.self.inside.inputs) c.self.invariant.linked.graph)

pub returns-clause-value : goal.returns-clause-value
returns-clause-value c = λ inputs.
    let gates = c.self.inside.gates.items in
    let n = c.self.inside.inputs in
    let counted : n ≡ count_inputs c.args.self.now = c.self.invariant.counted ∙ ap (λ (g : List Gate). count_inputs g) c.self.view_is in
    rw (c.in_ok-node.ensures.gates, c.in_ok-node.ensures.node, ← counted) (value_pushed gates n c.self.invariant.linked.graph c.self.invariant.counted inputs)

pub returns-in_err-node-clause-gates : goal.returns-in_err-node-clause-gates
returns-in_err-node-clause-gates c = IfOk-from_err _ _ c.from_residual.ensures.0

pub returns-in_err-node-clause-literal : goal.returns-in_err-node-clause-literal
returns-in_err-node-clause-literal c = IfOk-from_err _ _ c.from_residual.ensures.0

pub returns-in_err-node-clause-count : goal.returns-in_err-node-clause-count
returns-in_err-node-clause-count c = IfOk-from_err _ _ c.from_residual.ensures.0

pub returns-in_err-node-clause-value : goal.returns-in_err-node-clause-value
returns-in_err-node-clause-value c = IfOk-from_err _ _ c.from_residual.ensures.0
