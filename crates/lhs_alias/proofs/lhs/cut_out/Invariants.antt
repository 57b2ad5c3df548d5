use Rattle.std.proofs.Common.{◌≡◌, ◌+◌, ◌≤◌, ◌++◌, length, take, drop}
use Rattle.std.specs.Prelude.{reverse}
use Rattle.lhs_alias.specs.Segs.{lhs_bits, AreSegs}
use Rattle.lhs_alias.proofs.lhs.cut_out.Given as goal

abbrev pub invariant-loop-left : goal.invariant-loop-left
invariant-loop-left l = record {
  bits : lhs_bits (reverse l.parts.items) ++ take l.left (drop l.skip (lhs_bits l.rest)) ≡ take l.width (drop l.lo (lhs_bits l.segs));
  room : l.skip + l.left ≤ length (lhs_bits l.rest);
  parts : AreSegs l.parts.items;
  rest : AreSegs l.rest;
}

abbrev pub decreases-loop-left : goal.decreases-loop-left
decreases-loop-left l = length l.rest
