use Rattle.std.proofs.Common.{◌≡◌, length}
use Rattle.std.specs.Prelude.{All}
use Rattle.std.specs.List.{list_any}
use Rattle.lhs_alias.specs.Segs.{lhs_bits}
use Rattle.lhs_alias.specs.Joined.{is_marked, HasPlace}
use Rattle.lhs_alias.proofs.joins.any_joined.Given as goal

abbrev pub invariant-loop-bit : goal.invariant-loop-bit
invariant-loop-bit l = record {
  same : list_any (is_marked l.starts l.joined) l.bits ≡ list_any (is_marked l.starts l.joined) (lhs_bits l.segs);
  places : All (HasPlace l.starts (length l.joined)) l.bits;
}

abbrev pub decreases-loop-bit : goal.decreases-loop-bit
decreases-loop-bit l = length l.bits
