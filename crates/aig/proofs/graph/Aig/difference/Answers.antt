use Rattle.std.proofs.Common.{◌≡◌}
use Rattle.std.proofs.lemmas.Result.{IfOk-weaker}
use Rattle.aig.specs.Graph.{holds}
use Rattle.aig.specs.Conjunction.{IsBoth}
use Rattle.aig.specs.Sums.{IsDifference, differ}
use Rattle.aig.proofs.Growth.{Obeys-older}
use Rattle.aig.proofs.Values.{always_from}
use Rattle.aig.proofs.Summing.{difference_by}
use Rattle.aig.proofs.graph.Aig.difference.Goals as goal

pub returns-clause-value : goal.returns-clause-value
returns-clause-value c =
    IfOk-weaker c.and-2.result (λ d. IsBoth c.and-2.new.self c.not-3.result c.not-4.result d) (λ d. IsDifference c.and-2.new.self c.args.a c.args.b d)
    (λ d h. always_from c.and-2.new.self (λ v. holds v d ≡ differ (holds v c.args.a) (holds v c.args.b)) h.graph (λ v o.
    let o2 = Obeys-older v _ _ c.and-2.ensures.grows o in
    let o1 = Obeys-older v _ _ c.in_ok-neither.ensures.grows o2 in
    difference_by v c.args.a c.args.b _ _ c.args.carry c.in_ok-neither.neither _ _ d c.not.ensures c.not-2.ensures c.not-3.ensures c.not-4.ensures
    (c.requires.carry.obeyed v o1) (c.in_ok-neither.ensures.value.obeyed v o2) (h.obeyed v o)))
    c.and-2.ensures.value
