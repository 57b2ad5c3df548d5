use Rattle.std.proofs.Common.{◌≡◌, ℕ, ◌<◌, ◌+◌, ◌-◌, length, map, ap, ◌∙◌, sym, arith}
use Rattle.std.specs.Prelude.{slice_index}
use Rattle.std.proofs.lemmas.List.{get_or-map}
use Rattle.lhs_alias.specs.declared.segs.Seg.{Seg}
use Rattle.driver_resolve.specs.declared.driver.NetEq.{NetEq}
use Rattle.net_equations.specs.Equations.{seg_at}
use Rattle.compose_rounds.proofs.Turning.{index-from_each}
use Rattle.svex_compose.proofs.Weighing.{weigh_more, weigh_none}
use Rattle.svex_compose.proofs.weigh.weigh.Goals as goal

pub members-init : goal.members-init
members-init c = record {
  most = omega arith;
  bits = ap length c.new-bits.ensures.items ∙ weigh_none (map (λ (e : NetEq). e.seg) c.args.eqs.now) c.args.members.now (length c.args.members.now) (omega arith);
}

pub members-preserved : goal.members-preserved
members-preserved c =
    let i = c.members.invariant in
    let segs = map (λ (e : NetEq). e.seg) c.args.eqs.now in
    let at = c.members.at - 1 in
    let lt : at < length c.args.members.now = let most = i.most in let some = c.members-test.true in omega (arith, most, some) in
    let member = slice_index c.args.members.now at in
    let inside : member < length c.args.eqs.now = index-from_each (λ k. k < length c.args.eqs.now) c.args.members.now c.requires at lt in
    let same : seg_at segs member ≡ c.index-eqs-members.result.seg =
    get_or-map (λ (e : NetEq). e.seg) c.args.eqs.now member c.index-eqs-members.result _ inside ∙ ap (λ (e : NetEq). e.seg) (sym c.index-eqs-members.is) in
    record {
      most = let most = i.most in omega (arith, most);
      bits = weigh_more segs c.args.members.now c.members.at c.index-eqs-members.result.seg.width (length c.members.bits.items) (length c.add_bits.new.bits.items) c.members-test.true i.most
          (ap (λ (s : Seg). s.width) (sym same)) i.bits
          (c.in_ok-add_bits.ensures ∙ ap (λ (k : ℕ). k + length c.members.bits.items) (ap (λ (e : NetEq). e.seg.width) (sym c.index-eqs-members.is)));
    }
