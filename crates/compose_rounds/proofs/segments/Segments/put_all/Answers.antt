use Rattle.std.proofs.Common.{sym, subst, take}
use Rattle.std.specs.List.{AllZip}
use Rattle.lhs_alias.specs.declared.segs.Seg.{Seg}
use Rattle.lhs_alias.specs.Segs.{lhs_bits}
use Rattle.lhs_alias.proofs.SegBits.{lhs_bits-take_more}
use Rattle.compose_rounds.specs.Sources.{all_segs, HasSource, IsSource}
use Rattle.compose_rounds.proofs.Placing.{bits-of-one}
use Rattle.compose_rounds.proofs.segments.Segments.put_all.Goals as goal

pub put_seg-requires-clause-sources : goal.put_seg-requires-clause-sources
put_seg-requires-clause-sources c = bits-of-one (HasSource (all_segs c.args.self.now)) c.args.segs.now c.segs.seg-index c.segs-test.true c.requires.sources

pub segs-preserved : goal.segs-preserved
segs-preserved c =
    let none : Seg = record { wire = 0; lo = 0; width = 0 } in
    record {
      segs = c.in_ok-put_seg.ensures.segs;
      places = subst (λ l. AllZip (IsSource (all_segs c.args.self.now)) l (lhs_bits c.put_seg.new.out.items))
          (sym (lhs_bits-take_more c.args.segs.now c.segs.seg-index none c.segs-test.true))
          (c.in_ok-put_seg.ensures.places (lhs_bits (take c.segs.seg-index c.args.segs.now)) c.segs.invariant.places);
    }
