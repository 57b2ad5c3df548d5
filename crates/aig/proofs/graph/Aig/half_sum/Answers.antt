use Rattle.std.proofs.Common.{◌∙◌}
use Rattle.aig.proofs.Growth.{Obeys-older}
use Rattle.aig.proofs.Values.{always_from}
use Rattle.aig.proofs.graph.Aig.half_sum.Goals as goal

pub returns-in-Some-known-clause-sum : goal.returns-in-Some-known-clause-sum
returns-in-Some-known-clause-sum c = always_from _ _ c.in_ok-carry.ensures.graph (λ v o. c.in-Some-known.ensures.value v o ∙ c.in_ok-form.ensures v o)

pub returns-in_ok-sum-in-None-clause-carry : goal.returns-in_ok-sum-in-None-clause-carry
returns-in_ok-sum-in-None-clause-carry c = always_from _ _ c.in_ok-sum-in-None.ensures.value.graph (λ v o.
    c.in_ok-carry.ensures.value.obeyed v (Obeys-older v _ _ c.in_ok-sum-in-None.ensures.grows o))

pub returns-in-Some-clause-sum : goal.returns-in-Some-clause-sum
returns-in-Some-clause-sum c = always_from _ _ c.in_ok-carry.ensures.graph (λ v o. c.in-Some.ensures.value v o.bottom)
