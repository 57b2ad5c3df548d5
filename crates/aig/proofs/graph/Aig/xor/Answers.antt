use Rattle.std.proofs.lemmas.Result.{IfOk-weaker}
use Rattle.std.proofs.Common.{◌≡◌, List, subst, ◌∙◌}
use Rattle.aig.specs.declared.gate.Gate.{Gate}
use Rattle.aig.specs.Graph.{holds, IsGraph}
use Rattle.aig.specs.Sums.{IsDifference, differ}
use Rattle.aig.proofs.Growth.{Obeys-older}
use Rattle.aig.proofs.Values.{always_from}
use Rattle.aig.proofs.graph.Aig.xor.Goals as goal

pub returns-in-Some-known-clause-value : goal.returns-in-Some-known-clause-value
returns-in-Some-known-clause-value c =
    always_from _ _ (subst (λ (g : List Gate). IsGraph g) c.self.view_is c.self.invariant.linked.graph) (λ v o. c.in-Some-known.ensures.value v o ∙ c.in_ok-form.ensures v o)

pub returns-in-Some-clause-value : goal.returns-in-Some-clause-value
returns-in-Some-clause-value c = always_from _ _ (subst (λ (g : List Gate). IsGraph g) c.self.view_is c.self.invariant.linked.graph) (λ v o. c.in-Some.ensures.value v o.bottom)

pub returns-clause-value : goal.returns-clause-value
returns-clause-value c =
    IfOk-weaker c.xor_by.result (λ d. IsDifference c.xor_by.new.self c.in_ok-parts.parts.first c.in_ok-parts.parts.second d) (λ d. IsDifference c.xor_by.new.self c.args.a c.args.b d)
    (λ d h. always_from c.xor_by.new.self (λ v. holds v d ≡ differ (holds v c.args.a) (holds v c.args.b)) h.graph (λ v o. h.obeyed v o ∙ c.in_ok-parts.ensures.value v (Obeys-older v _ _ c.xor_by.ensures.grows o)))
    c.xor_by.ensures.value
