use Rattle.std.proofs.Common.{List, subst}
use Rattle.aig.specs.declared.gate.Gate.{Gate}
use Rattle.aig.specs.Graph.{IsGraph}
use Rattle.aig.proofs.Values.{always_from}
use Rattle.aig.proofs.graph.Aig.xor_by.Goals as goal

pub returns-in-Some-clause-value : goal.returns-in-Some-clause-value
returns-in-Some-clause-value c = always_from _ _ (subst (λ (g : List Gate). IsGraph g) c.self.view_is c.self.invariant.linked.graph) (λ v o. c.in-Some.ensures.value v o.bottom)
