use Rattle.std.proofs.Common.{◌≤◌, ◌+◌, ◌-◌, ◌++◌, List, map}
use Rattle.std.specs.List.{AllZip, range_with_len}
use Rattle.lhs_alias.specs.declared.segs.WireBit.{WireBit}
use Rattle.lhs_alias.specs.Segs.{bit, lhs_bits, AreSegs}
use Rattle.compose_rounds.specs.Sources.{all_segs, IsSource}
use Rattle.compose_rounds.proofs.segments.Segments.put_seg.Given as goal

abbrev pub invariant-bits : goal.invariant-bits
invariant-bits l = record {
  most : l.left ≤ l.seg.width;
  segs : AreSegs l.out.items;
  places : (before : List WireBit) → AllZip (IsSource (all_segs l.self)) before (lhs_bits l.initial.out.items)
      → AllZip (IsSource (all_segs l.self)) (map (bit l.seg.wire) (range_with_len (l.seg.lo + l.left) (l.seg.width - l.left)) ++ before) (lhs_bits l.out.items);
}

abbrev pub decreases-bits : goal.decreases-bits
decreases-bits l = l.left
