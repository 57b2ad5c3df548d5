use Rattle.std.proofs.lemmas.Result.{IfOk-from_err}
use Rattle.std.proofs.Common.{◌≡◌, List, ℕ, map, sym, ap, ◌∙◌, subst}
use Rattle.dep_groups.specs.Groups.{IsGrouping}
use Rattle.net_equations.specs.declared.group.Group.{Group}
use Rattle.net_equations.specs.Groups.{IsOrder}
use Rattle.net_order.specs.Kept.{eq_groups}
use Rattle.net_order.proofs.Ordered.{ordered, members-some}
use Rattle.net_order.proofs.ordering.order.Goals as goal

pub returns-clause-order : goal.returns-clause-order
returns-clause-order c =
    let kept = c.args.joins.now in
    let shapes = c.args.arena.now in
    let set = c.args.set.now in
    let graph = c.in_ok-graph.graph in
    let all = c.in_ok-all.all.items in
    let members : List Group → List (List ℕ) = λ l. map (λ (x : Group). x.members) l in
    let groups : members c.from_vec.result ≡ eq_groups graph.nodes all = ap members c.from_vec.ensures ∙ c.in_ok-groups.ensures ∙ ap (eq_groups graph.nodes) c.deref-2.ensures.value in
    subst (IsOrder kept shapes set.eqs) (sym groups)
    (ordered kept shapes set.eqs graph.nodes graph.rows.items all c.in_ok-graph.ensures (subst (λ l. IsGrouping l all) c.deref.ensures.value c.in_ok-all.ensures))

pub returns-clause-some : goal.returns-clause-some
returns-clause-some c =
    let members : List Group → List (List ℕ) = λ l. map (λ (x : Group). x.members) l in
    let nodes = c.in_ok-graph.graph.nodes in
    let groups : members c.from_vec.result ≡ eq_groups nodes c.deref-2.result.now = ap members c.from_vec.ensures ∙ c.in_ok-groups.ensures in
    members-some c.from_vec.result nodes c.deref-2.result.now groups

pub returns-in_err-all-clause-order : goal.returns-in_err-all-clause-order
returns-in_err-all-clause-order c = IfOk-from_err _ _ c.from_residual-in_err-all.ensures.0

pub returns-in_err-all-clause-some : goal.returns-in_err-all-clause-some
returns-in_err-all-clause-some c = IfOk-from_err _ _ c.from_residual-in_err-all.ensures.0

pub returns-in_err-groups-clause-order : goal.returns-in_err-groups-clause-order
returns-in_err-groups-clause-order c = IfOk-from_err _ _ c.from_residual-in_err-groups.ensures.0

pub returns-in_err-groups-clause-some : goal.returns-in_err-groups-clause-some
returns-in_err-groups-clause-some c = IfOk-from_err _ _ c.from_residual-in_err-groups.ensures.0

pub returns-in_err-graph-clause-order : goal.returns-in_err-graph-clause-order
returns-in_err-graph-clause-order c = IfOk-from_err _ _ c.from_residual.ensures.0

pub returns-in_err-graph-clause-some : goal.returns-in_err-graph-clause-some
returns-in_err-graph-clause-some c = IfOk-from_err _ _ c.from_residual.ensures.0
