use Rattle.std.proofs.Common.{take_all}
use Rattle.net_order.specs.Kept.{eq_groups}
use Rattle.std.proofs.lemmas.Result.{IfOk-from_err}
use Rattle.std.proofs.Common.{◌≡◌, ◌+◌, ◌++◌, ◌∷◌, [], List, ℕ, map, take, sym, ap, ◌∙◌, subst, arith}
use Rattle.std.proofs.lemmas.List.{take_more}
use Rattle.net_equations.specs.declared.group.Group.{Group}
use Rattle.net_order.specs.Kept.{eqs_in, with_group}
use Rattle.net_order.proofs.Keeping.{groups_more}
use Rattle.net_order.proofs.groups.eq_groups.Goals as goal

pub groups-preserved : goal.groups-preserved
groups-preserved c =
    let i = c.groups.group-index in
    let all = c.args.all.now in
    let g = c.group-item.result in
    let members : List Group → List (List ℕ) = λ l. map (λ (x : Group). x.members) l in
    groups_more c.args.nodes (take i all) (take (i + 1) all) (members c.groups.groups.items) (members c.put_group.new.groups.items) g
    (take_more all i g (omega arith) ∙ ap (λ x. take i all ++ x ∷ []) (sym c.group-item.is)) c.groups.invariant
    (subst (λ l. members c.put_group.new.groups.items ≡ members c.groups.groups.items ++ with_group (eqs_in c.args.nodes l) []) c.as_slice.ensures c.in_ok-put_group.ensures)

pub returns-in_err-put_group : goal.returns-in_err-put_group
returns-in_err-put_group c = IfOk-from_err _ _ c.from_residual.ensures.0

pub returns : goal.returns
returns c = c.groups.invariant ∙ ap (eq_groups c.args.nodes) (take_all c.groups.group-index c.args.all.now c.groups-test.false)
