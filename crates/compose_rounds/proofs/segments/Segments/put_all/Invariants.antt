use Rattle.std.proofs.Common.{take}
use Rattle.std.specs.List.{AllZip}
use Rattle.lhs_alias.specs.Segs.{lhs_bits, AreSegs}
use Rattle.compose_rounds.specs.Sources.{all_segs, IsSource}
use Rattle.compose_rounds.proofs.segments.Segments.put_all.Given as goal

abbrev pub invariant-segs : goal.invariant-segs
invariant-segs l = record {
  segs : AreSegs l.out.items;
  places : AllZip (IsSource (all_segs l.self)) (lhs_bits (take l.seg-index l.segs)) (lhs_bits l.out.items);
}
