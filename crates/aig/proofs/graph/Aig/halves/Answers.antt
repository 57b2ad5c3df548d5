use Rattle.std.proofs.Common.{◌≡◌, true, List, subst, refl, rules}
use Rattle.aig.specs.declared.gate.Gate.{Gate}
use Rattle.aig.specs.Graph.{IsGraph, negation}
use Rattle.aig.proofs.Values.{always_from}
use Rattle.aig.proofs.Summing.{node_is, halves_by}
use Rattle.aig.proofs.graph.Aig.halves.Goals as goal

pub returns-clause-value : goal.returns-clause-value
returns-clause-value c =
    let graph : IsGraph c.args.self.now = subst (λ (g : List Gate). IsGraph g) c.self.view_is c.self.invariant.linked.graph in
    let top = c.in_ok-top.top in
    let both = c.in_ok-both.both in
    let neither = c.in_ok-neither.neither in
    let n1 : top.first.negated ≡ true = search rules in
    let n2 : top.second.negated ≡ true = search rules in
    let e1 : neither.first ≡ negation both.first = search rules in
    let e2 : neither.second ≡ negation both.second = search rules in
    always_from _ _ graph (λ v o. halves_by v c.args.c top.first top.second both.first both.second neither.first neither.second _ n1 n2
    (node_is v _ _ _ _ o c.requires c.in_ok-top.ensures.is) (node_is v _ _ _ _ o c.in_ok-top.ensures.first c.in_ok-both.ensures.is) (node_is v _ _ _ _ o c.in_ok-top.ensures.second c.in_ok-neither.ensures.is) e1 e2 refl (search rules))
