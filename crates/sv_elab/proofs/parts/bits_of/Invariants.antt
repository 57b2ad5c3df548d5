use Rattle.std.proofs.Common.{◌≡◌, ◌+◌, ◌≤◌, length, drop, min}
use Rattle.lhs_alias.specs.Segs.{lhs_bits}
use Rattle.sv_elab.proofs.parts.bits_of.Given as goal

abbrev pub invariant-segs : goal.invariant-segs
invariant-segs l = record {
  fits : l.count ≤ 255;
  total : min 255 (l.count + length (lhs_bits (drop l.seg-index l.seg-items))) ≡ min 255 (length (lhs_bits l.seg-items));
}
