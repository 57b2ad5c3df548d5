use Rattle.std.proofs.Common.{◌≡◌, ◌++◌, map, length}
use Rattle.std.specs.Prelude.{All, Contains}
use Rattle.lhs_alias.specs.Segs.{lhs_bits}
use Rattle.lhs_alias.specs.Joined.{HasPlace, first_bit}
use Rattle.lhs_alias.proofs.joins.first_bits.Given as goal

abbrev pub invariant-loop-bit : goal.invariant-loop-bit
invariant-loop-bit l = record {
  firsts : l.firsts.items ++ map (first_bit l.bits l.starts l.forest) l.rest ≡ map (first_bit l.bits l.starts l.forest) (lhs_bits l.segs);
  known : All (Contains l.bits) l.firsts.items;
  places : All (HasPlace l.starts (length l.forest)) l.rest;
}

abbrev pub decreases-loop-bit : goal.decreases-loop-bit
decreases-loop-bit l = length l.rest
