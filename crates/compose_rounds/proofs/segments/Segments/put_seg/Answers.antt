use Rattle.std.proofs.Common.{sym, subst, arith, ◌<◌, ◌-◌}
use Rattle.std.proofs.lemmas.List.Elements.{All-push}
use Rattle.lhs_alias.specs.Segs.{bit, AreSegs, IsSeg}
use Rattle.lhs_alias.proofs.SegBits.{get_or-seg_bits, length-seg_bits}
use Rattle.compose_rounds.specs.Sources.{all_segs, HasSource}
use Rattle.compose_rounds.proofs.Placing.{put-more, put-end}
use Rattle.compose_rounds.proofs.segments.Segments.put_seg.Goals as goal

pub place-place-requires-clause-source : goal.place-place-requires-clause-source
place-place-requires-clause-source c =
    let k = c.bits.left - 1 in
    let lt = let most = c.bits.invariant.most in let some = c.bits-test.true in (let l : k < c.args.seg.width = omega (arith, most, some) in l) in
    subst (HasSource (all_segs c.args.self.now)) (get_or-seg_bits c.args.seg k (bit 0 0) lt)
    (c.requires.sources k (bit 0 0) (omega (arith, lt, length-seg_bits c.args.seg)))

pub bits-preserved : goal.bits-preserved
bits-preserved c = record {
  most = omega (arith, c.bits.invariant.most);
  segs = subst AreSegs (sym c.in_ok-push.ensures.items) (All-push IsSeg c.bits.out.items c.place-place.result c.bits.invariant.segs c.place-place.ensures.seg);
  places = λ before h. put-more (all_segs c.args.self.now) c.args.seg.wire c.args.seg.lo c.args.seg.width c.bits.left before c.bits.out.items c.push.new.self.items c.place-place.result
      c.bits-test.true c.bits.invariant.most c.in_ok-push.ensures.items c.place-place.ensures.one c.place-place.ensures.source (c.bits.invariant.places before h);
}

pub returns-clause-places : goal.returns-clause-places
returns-clause-places c = λ before h. put-end (all_segs c.args.self.now) c.args.seg c.bits.left before c.bits.out.items (omega arith) (c.bits.invariant.places before h)
