use Rattle.std.proofs.Common.{◌≡◌, take}
use Rattle.lhs_alias.specs.Segs.{lhs_bits, AreSegs, IsUnited}
use Rattle.lhs_alias.proofs.lhs.Lhs.normal.Given as goal

abbrev pub invariant-loop-seg : goal.invariant-loop-seg
invariant-loop-seg l = record {
  bits : lhs_bits l.united.items ≡ lhs_bits (take l.seg-index l.seg-items);
  segs : AreSegs l.united.items;
  united : IsUnited l.united.items;
}
