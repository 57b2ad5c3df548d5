use Rattle.std.proofs.Common.{◌<◌, List, length, ⊎_elim, refl, subst, arith}
use Rattle.std.proofs.lemmas.Result.{IfOk-weaker}
use Rattle.aig.specs.declared.gate.Gate.{Gate}
use Rattle.aig.specs.Graph.{IsGraph}
use Rattle.aig.specs.Conjunction.{IsBoth}
use Rattle.aig.specs.Table.{IsHashed}
use Rattle.aig.proofs.Growth.{Grows-refl}
use Rattle.aig.proofs.Linked.{both_plain, both_turned, no_gate, gate_turned, made_within, made_grows, made_nodes, made_simplified, made_gate, made_gate_turned, made_shared, two_nodes, kept_grown, open_left, open_right, open_apart}
use Rattle.aig.proofs.graph.Aig.and.Goals as goal

pub returns-then-a-b-clause-within : goal.returns-then-a-b-clause-within
returns-then-a-b-clause-within c = made_within c.gate_of.result _ _ _ _ c.gate_of.ensures.is

pub returns-then-a-b-clause-grows : goal.returns-then-a-b-clause-grows
returns-then-a-b-clause-grows c = made_grows c.gate_of.result _ _ _ _ c.gate_of.ensures.is c.gate_of.ensures.refused

pub returns-then-a-b-clause-nodes : goal.returns-then-a-b-clause-nodes
returns-then-a-b-clause-nodes c = made_nodes c.gate_of.result _ _ _ _ c.gate_of.ensures.is c.gate_of.ensures.refused

pub returns-then-a-b-clause-no_gate : goal.returns-then-a-b-clause-no_gate
returns-then-a-b-clause-no_gate c = λ decided. absurd (c.in_default.ensures decided)

pub returns-then-a-b-clause-flat : goal.returns-then-a-b-clause-flat
returns-then-a-b-clause-flat c = λ few. absurd (two_nodes _ c.args.a c.args.b c.requires.a_in c.in_default.ensures few)

pub returns-then-a-b-clause-simplified : goal.returns-then-a-b-clause-simplified
returns-then-a-b-clause-simplified c = made_simplified c.gate_of.result c.args.a c.args.b c.in_default.ensures

pub returns-then-a-b-clause-gate : goal.returns-then-a-b-clause-gate
returns-then-a-b-clause-gate c = made_gate c.gate_of.result _ _ c.args.a c.args.b c.gate_of.ensures.is c.gate_of.ensures.plain

pub returns-then-a-b-clause-shared : goal.returns-then-a-b-clause-shared
returns-then-a-b-clause-shared c = λ d g. made_shared c.gate_of.result _ _ c.args.a c.args.b c.gate_of.ensures.is c.gate_of.ensures.plain c.gate_of.ensures.refused c.if-a-b.true c.gate_of.ensures.hashed d g

pub returns-then-a-b-clause-kept : goal.returns-then-a-b-clause-kept
returns-then-a-b-clause-kept c = kept_grown _ _ (subst (λ (g : List Gate). IsGraph g) c.self.view_is c.self.invariant.linked.graph) (made_grows c.gate_of.result _ _ _ _ c.gate_of.ensures.is c.gate_of.ensures.refused)

pub returns-then-a-b-clause-graph : goal.returns-then-a-b-clause-graph
returns-then-a-b-clause-graph c = c.gate_of.ensures.graph

pub returns-then-a-b-clause-refused : goal.returns-then-a-b-clause-refused
returns-then-a-b-clause-refused c = c.gate_of.ensures.refused

pub returns-else-a-b-clause-within : goal.returns-else-a-b-clause-within
returns-else-a-b-clause-within c = made_within c.gate_of-else-a-b.result _ _ _ _ c.gate_of-else-a-b.ensures.is

pub returns-else-a-b-clause-grows : goal.returns-else-a-b-clause-grows
returns-else-a-b-clause-grows c = made_grows c.gate_of-else-a-b.result _ _ _ _ c.gate_of-else-a-b.ensures.is c.gate_of-else-a-b.ensures.refused

pub returns-else-a-b-clause-nodes : goal.returns-else-a-b-clause-nodes
returns-else-a-b-clause-nodes c = made_nodes c.gate_of-else-a-b.result _ _ _ _ c.gate_of-else-a-b.ensures.is c.gate_of-else-a-b.ensures.refused

pub returns-else-a-b-clause-no_gate : goal.returns-else-a-b-clause-no_gate
returns-else-a-b-clause-no_gate c = λ decided. absurd (c.in_default.ensures decided)

pub returns-else-a-b-clause-flat : goal.returns-else-a-b-clause-flat
returns-else-a-b-clause-flat c = λ few. absurd (two_nodes _ c.args.a c.args.b c.requires.a_in c.in_default.ensures few)

pub returns-else-a-b-clause-simplified : goal.returns-else-a-b-clause-simplified
returns-else-a-b-clause-simplified c = made_simplified c.gate_of-else-a-b.result c.args.a c.args.b c.in_default.ensures

pub returns-else-a-b-clause-gate : goal.returns-else-a-b-clause-gate
returns-else-a-b-clause-gate c = made_gate_turned c.gate_of-else-a-b.result _ _ c.args.a c.args.b c.gate_of-else-a-b.ensures.is c.gate_of-else-a-b.ensures.plain

pub returns-else-a-b-clause-shared : goal.returns-else-a-b-clause-shared
returns-else-a-b-clause-shared c = λ d g. made_shared c.gate_of-else-a-b.result _ _ c.args.b c.args.a c.gate_of-else-a-b.ensures.is c.gate_of-else-a-b.ensures.plain c.gate_of-else-a-b.ensures.refused (open_apart c.args.a c.args.b c.in_default.ensures c.if-a-b.false) c.gate_of-else-a-b.ensures.hashed d (gate_turned _ c.args.b c.args.a d g)

pub returns-else-a-b-clause-kept : goal.returns-else-a-b-clause-kept
returns-else-a-b-clause-kept c = kept_grown _ _ (subst (λ (g : List Gate). IsGraph g) c.self.view_is c.self.invariant.linked.graph) (made_grows c.gate_of-else-a-b.result _ _ _ _ c.gate_of-else-a-b.ensures.is c.gate_of-else-a-b.ensures.refused)

pub returns-else-a-b-clause-graph : goal.returns-else-a-b-clause-graph
returns-else-a-b-clause-graph c = c.gate_of-else-a-b.ensures.graph

pub returns-else-a-b-clause-refused : goal.returns-else-a-b-clause-refused
returns-else-a-b-clause-refused c = c.gate_of-else-a-b.ensures.refused

pub returns-then-a-b-clause-value : goal.returns-then-a-b-clause-value
returns-then-a-b-clause-value c = c.gate_of.ensures.value

pub returns-else-a-b-clause-value : goal.returns-else-a-b-clause-value
returns-else-a-b-clause-value c =
    IfOk-weaker c.gate_of-else-a-b.result (λ d. IsBoth c.gate_of-else-a-b.new.self c.args.b c.args.a d) (λ d. IsBoth c.gate_of-else-a-b.new.self c.args.a c.args.b d)
    (λ d h. both_turned c.gate_of-else-a-b.new.self c.args.a c.args.b d h) c.gate_of-else-a-b.ensures.value

pub returns-in-Some-clause-within : goal.returns-in-Some-clause-within
returns-in-Some-clause-within c =
    let a_in : c.args.a.node < length c.args.self.now = c.requires.a_in in
    let b_in : c.args.b.node < length c.args.self.now = c.requires.b_in in
    ⊎_elim (λ below. omega (arith, below)) (λ below. omega (arith, below)) c.in-Some.ensures.within

pub returns-in-Some-clause-value : goal.returns-in-Some-clause-value
returns-in-Some-clause-value c =
    both_plain c.args.self.now c.args.a c.args.b c.in-Some.c c.in-Some.ensures (subst (λ (g : List Gate). IsGraph g) c.self.view_is c.self.invariant.linked.graph)

pub returns-in-Some-clause-grows : goal.returns-in-Some-clause-grows
returns-in-Some-clause-grows c = Grows-refl c.args.self.now

pub returns-in-Some-clause-nodes : goal.returns-in-Some-clause-nodes
returns-in-Some-clause-nodes c = omega arith

pub returns-in-Some-clause-no_gate : goal.returns-in-Some-clause-no_gate
returns-in-Some-clause-no_gate c = λ _. refl

pub returns-in-Some-clause-flat : goal.returns-in-Some-clause-flat
returns-in-Some-clause-flat c = λ few. few

pub returns-in-Some-clause-simplified : goal.returns-in-Some-clause-simplified
returns-in-Some-clause-simplified c = c.in-Some.ensures.simplified

pub returns-in-Some-clause-gate : goal.returns-in-Some-clause-gate
returns-in-Some-clause-gate c = λ open_pair. absurd (open_pair c.in-Some.ensures.needs_none)

pub returns-in-Some-clause-shared : goal.returns-in-Some-clause-shared
returns-in-Some-clause-shared c = λ d g.
    absurd (no_gate c.args.self.now c.args.a c.args.b d (subst (λ (x : List Gate). IsHashed x) c.self.view_is c.self.invariant.linked.hashed) c.in-Some.ensures.needs_none g)

pub returns-in-Some-clause-kept : goal.returns-in-Some-clause-kept
returns-in-Some-clause-kept c = λ inputs l within. refl

pub returns-in-Some-clause-graph : goal.returns-in-Some-clause-graph
returns-in-Some-clause-graph c = subst (λ (g : List Gate). IsGraph g) c.self.view_is c.self.invariant.linked.graph

pub gate_of-requires : goal.gate_of-requires
gate_of-requires c = record {
  some = open_left c.args.a c.args.b c.in_default.ensures;
  ordered = c.if-a-b.true;
  b_in = c.requires.b_in;
}

pub gate_of-requires-else-a-b : goal.gate_of-requires-else-a-b
gate_of-requires-else-a-b c = record {
  some = open_right c.args.a c.args.b c.in_default.ensures;
  ordered = open_apart c.args.a c.args.b c.in_default.ensures c.if-a-b.false;
  b_in = c.requires.a_in;
}
