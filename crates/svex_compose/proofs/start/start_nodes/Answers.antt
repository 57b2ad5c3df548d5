use Rattle.std.proofs.Common.{◌≡◌, ◌+◌, length, map, subst, sym, ap, ◌∙◌, arith}
use Rattle.std.proofs.lemmas.List.{get_or-map}
use Rattle.lhs_alias.specs.declared.segs.Seg.{Seg}
use Rattle.svex_arena.proofs.Keeping.{extends_on}
use Rattle.driver_resolve.specs.declared.driver.NetEq.{NetEq}
use Rattle.net_equations.specs.Equations.{seg_at}
use Rattle.svex_compose.specs.Starting.{AreStarted}
use Rattle.svex_compose.proofs.start.start_nodes.Goals as goal

pub start_node-requires-clause-some : goal.start_node-requires-clause-some
start_node-requires-clause-some c =
    let same : seg_at (map (λ (e : NetEq). e.seg) c.args.eqs.now) c.eqs.at ≡ c.index-eqs-at.result.seg =
    get_or-map (λ (e : NetEq). e.seg) c.args.eqs.now c.eqs.at c.index-eqs-at.result _ c.eqs-test.true ∙ ap (λ (e : NetEq). e.seg) (sym c.index-eqs-at.is) in
    let whole = c.requires.segs c.eqs.at c.eqs-test.true in
    let some = whole.some in
    let back = ap (λ (e : NetEq). e.seg.width) c.index-eqs-at.is in
    let w = ap (λ (s : Seg). s.width) same in
    omega (arith, some, w, back)

pub start_node-requires-clause-most : goal.start_node-requires-clause-most
start_node-requires-clause-most c =
    let same : seg_at (map (λ (e : NetEq). e.seg) c.args.eqs.now) c.eqs.at ≡ c.index-eqs-at.result.seg =
    get_or-map (λ (e : NetEq). e.seg) c.args.eqs.now c.eqs.at c.index-eqs-at.result _ c.eqs-test.true ∙ ap (λ (e : NetEq). e.seg) (sym c.index-eqs-at.is) in
    let whole = c.requires.segs c.eqs.at c.eqs-test.true in
    let ends = whole.ends in
    let back = ap (λ (e : NetEq). e.seg.width) c.index-eqs-at.is in
    let w = ap (λ (s : Seg). s.width) same in
    omega (arith, ends, w, back)

pub eqs-preserved : goal.eqs-preserved
eqs-preserved c =
    let i = c.eqs.invariant in
    let e = c.in_ok-start_node.ensures in
    let segs = map (λ (x : NetEq). x.seg) c.args.eqs.now in
    let same : seg_at segs c.eqs.at ≡ c.index-eqs-at.result.seg =
    get_or-map (λ (x : NetEq). x.seg) c.args.eqs.now c.eqs.at c.index-eqs-at.result _ c.eqs-test.true ∙ ap (λ (x : NetEq). x.seg) (sym c.index-eqs-at.is) in
    let w = ap (λ (s : Seg). s.width) same in
    record {
      extends = extends_on c.args.arena.now c.eqs.arena c.start_node.new.arena i.extends e.extends;
      arena = e.arena;
      len = e.len ∙ ap (λ n. n + 1) i.len;
      started = e.started segs (ap (λ k. (seg_at segs k).width) i.len ∙ w ∙ ap (λ (x : NetEq). x.seg.width) c.index-eqs-at.is) i.started;
    }

pub returns-clause-started : goal.returns-clause-started
returns-clause-started c =
    let segs = map (λ (x : NetEq). x.seg) c.args.eqs.now in
    let end : length c.eqs.nodes.items ≡ length c.args.eqs.now = omega (arith, c.eqs.invariant.len) in
    subst (AreStarted c.eqs.arena segs c.eqs.nodes.items) end c.eqs.invariant.started
