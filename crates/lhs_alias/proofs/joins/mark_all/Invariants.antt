use Rattle.std.proofs.Common.{◌≡◌, true, ◌&&◌, length}
use Rattle.std.specs.Prelude.{All}
use Rattle.lhs_alias.specs.Segs.{lhs_bits}
use Rattle.lhs_alias.specs.Joined.{HasPlace, marked, are_free}
use Rattle.lhs_alias.proofs.joins.mark_all.Given as goal

abbrev pub invariant-loop-bit : goal.invariant-loop-bit
invariant-loop-bit l = record {
  marks : marked l.starts true l.joined l.bits ≡ marked l.starts true l.initial.joined (lhs_bits l.segs);
  free : (l.free && are_free l.starts l.joined l.bits) ≡ are_free l.starts l.initial.joined (lhs_bits l.segs);
  places : All (HasPlace l.starts (length l.joined)) l.bits;
}

abbrev pub decreases-loop-bit : goal.decreases-loop-bit
decreases-loop-bit l = length l.bits
