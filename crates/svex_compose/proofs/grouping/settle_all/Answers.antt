use Rattle.std.proofs.Common.{◌≡◌, ◌≤◌, ◌<◌, List, length, map, ap, ◌∙◌, subst, arith}
use Rattle.std.proofs.lemmas.List.{length-map}
use Rattle.svex_arena.proofs.Keeping.{extends_on}
use Rattle.driver_resolve.specs.declared.driver.NetEq.{NetEq}
use Rattle.net_equations.specs.declared.group.Group.{Group}
use Rattle.net_equations.specs.Groups.{bits_in, members_of}
use Rattle.svex_compose.specs.Grouping.{IsRest}
use Rattle.svex_compose.proofs.Weighing.{wide_here, wide_on, wide_end, same_err}
use Rattle.svex_compose.proofs.Settling.{ordered_kept, open_next, rest_next, members_here}
use Rattle.svex_compose.proofs.grouping.settle_all.Goals as goal

pub settle_next-requires-clause-open : goal.settle_next-requires-clause-open
settle_next-requires-clause-open c =
    let groups = map (λ (g : Group). g.members) c.args.groups.now in
    let i = c.groups.invariant in
    let lt : c.groups.at < length groups = let l = length-map c.args.groups.now (λ (g : Group). g.members) in let t = c.groups-test.true in omega (arith, l, t) in
    let is : members_of groups c.groups.at ≡ c.as_slice-members.result.now = members_here c.args.groups.now c.groups.at c.index-groups-at.result c.as_slice-members.result.now c.groups-test.true c.as_slice-members.ensures in
    open_next c.args.joins.now c.groups.arena c.args.set.now c.groups.scene groups c.groups.at c.as_slice-members.result.now lt is i.ordered i.rest

pub groups-preserved : goal.groups-preserved
groups-preserved c =
    let groups = map (λ (g : Group). g.members) c.args.groups.now in
    let segs = map (λ (e : NetEq). e.seg) c.args.set.now.eqs in
    let members = c.as_slice-members.result.now in
    let i = c.groups.invariant in
    let e = c.in_ok-settle_next.ensures in
    let lt : c.groups.at < length groups = let l = length-map c.args.groups.now (λ (g : Group). g.members) in let t = c.groups-test.true in omega (arith, l, t) in
    let is : members_of groups c.groups.at ≡ members = members_here c.args.groups.now c.groups.at c.index-groups-at.result c.as_slice-members.result.now c.groups-test.true c.as_slice-members.ensures in
    let open_ = open_next c.args.joins.now c.groups.arena c.args.set.now c.groups.scene groups c.groups.at members lt is i.ordered i.rest in
    record {
      ready = e.ready;
      ordered = ordered_kept c.args.joins.now c.groups.arena c.settle_next.new.arena c.args.set.now groups e.extends i.ordered;
      rest = rest_next c.args.joins.now c.groups.arena c.settle_next.new.arena c.args.set.now c.groups.scene c.settle_next.new.scene groups c.groups.at members lt is i.ordered e.extends i.ready.scene i.rest e.settled e.next open_;
      wide = wide_on segs groups c.groups.at members lt is
          (subst (λ (l : List NetEq). bits_in (map (λ (x : NetEq). x.seg) l) members ≤ 1024) c.as_slice.ensures e.narrow) i.wide;
      extends = extends_on c.args.arena.now c.groups.arena c.settle_next.new.arena i.extends e.extends;
    }

pub returns-clause-rest : goal.returns-clause-rest
returns-clause-rest c =
    let groups = map (λ (g : Group). g.members) c.args.groups.now in
    let end : c.groups.at ≡ length c.args.groups.now = let t = c.groups-test.false in let most = c.groups.auto.at-end in omega (arith, t, most) in
    subst (IsRest c.args.joins.now c.groups.arena c.args.set.now c.groups.scene groups) end c.groups.invariant.rest

pub returns-clause-narrow : goal.returns-clause-narrow
returns-clause-narrow c =
    let groups = map (λ (g : Group). g.members) c.args.groups.now in
    let segs = map (λ (e : NetEq). e.seg) c.args.set.now.eqs in
    wide_end segs groups c.groups.at (let l = length-map c.args.groups.now (λ (g : Group). g.members) in let t = c.groups-test.false in omega (arith, l, t)) c.groups.invariant.wide

pub returns-in_err-settle_next-clause-wide : goal.returns-in_err-settle_next-clause-wide
returns-in_err-settle_next-clause-wide c = λ n e.
    let groups = map (λ (g : Group). g.members) c.args.groups.now in
    let segs = map (λ (e : NetEq). e.seg) c.args.set.now.eqs in
    let members = c.as_slice-members.result.now in
    let lt : c.groups.at < length groups = let l = length-map c.args.groups.now (λ (g : Group). g.members) in let t = c.groups-test.true in omega (arith, l, t) in
    let is : members_of groups c.groups.at ≡ members = members_here c.args.groups.now c.groups.at c.index-groups-at.result c.as_slice-members.result.now c.groups-test.true c.as_slice-members.ensures in
    let w = c.in_err-settle_next.ensures.wide n (same_err c.from_residual.result c.in_err-settle_next.field-0.0 _ c.from_residual.ensures.1 e) in
    wide_here segs groups c.groups.at n members lt is (w.0 ∙ ap (λ (l : List NetEq). bits_in (map (λ (x : NetEq). x.seg) l) members) c.as_slice.ensures) w.1 c.groups.invariant.wide
