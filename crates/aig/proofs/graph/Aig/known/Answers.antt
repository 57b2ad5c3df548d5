use Rattle.std.proofs.Common.{◌<◌, List, length, subst}
use Rattle.aig.specs.declared.gate.Gate.{Gate}
use Rattle.aig.proofs.graph.Aig.known.Goals as goal

pub returns-clause-within : goal.returns-clause-within
returns-clause-within c =
    subst (λ (g : List Gate). c.in_ok-known.known.node < length g) c.self.view_is (c.in_ok-known.ensures.within (length c.self.inside.gates.items) c.self.invariant.summed.within)
