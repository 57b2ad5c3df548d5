use Rattle.std.proofs.Common.{◌+◌, List, length, map, sym, subst}
use Rattle.fourvec.specs.declared.Bit.{Bit}
use Rattle.lhs_alias.specs.declared.segs.Seg.{Seg}
use Rattle.svtv_induct.specs.Showing.{AreSlices, HaveValues}
use Rattle.svtv_induct.proofs.Failing.{have_values_push}
use Rattle.svtv_induct.proofs.shown.state.Goals as goal

pub joined-requires : goal.joined-requires
joined-requires c = subst (λ (ss : List Seg). AreSlices (map (λ (v : List Bit). length v) c.args.own.now) ss) (sym c.segs_at.ensures) (c.requires c.wires.at c.wires-test.true)

pub wires-preserved : goal.wires-preserved
wires-preserved c =
    subst (λ (values : List (List Bit)). HaveValues c.args.own.now c.args.firsts.now values (c.wires.at + 1)) (sym c.in_ok-push.ensures.ok)
    (have_values_push c.args.own.now c.args.firsts.now c.wires.values c.wires.at c.segs_at.result.now c.joined.result c.segs_at.ensures c.wires.invariant c.joined.ensures)
