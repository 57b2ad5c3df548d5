use Rattle.std.proofs.Common.{List, subst}
use Rattle.aig.specs.declared.gate.Gate.{Gate}
use Rattle.aig.specs.declared.gate.Gate.TheVariants.{And}
use Rattle.aig.specs.Table.{HasNone}
use Rattle.aig.proofs.Linked.{linked_pushed, node_made}
use Rattle.aig.proofs.table.node_of.Goals as goal

pub returns-clause-linked : goal.returns-clause-linked
returns-clause-linked c =
    linked_pushed c.push_gate.result c.args.gates.now.items c.push_gate.new.gates.items c.args.a c.args.b c.args.index.now c.push_gate.new.index c.push_gate.ensures.gates c.push_gate.ensures.refused c.push_gate.ensures.indexed
    c.requires.linked c.requires.some c.requires.ordered c.requires.b_in
    (subst (λ (g : List Gate). HasNone g (And c.args.a c.args.b)) c.deref.ensures.value c.in_default.ensures.none)

pub returns-clause-is : goal.returns-clause-is
returns-clause-is c =
    node_made c.push_gate.result c.args.gates.now.items c.push_gate.new.gates.items c.args.a c.args.b c.push_gate.ensures.gates c.push_gate.ensures.node
    (subst (λ (g : List Gate). HasNone g (And c.args.a c.args.b)) c.deref.ensures.value c.in_default.ensures.none)
