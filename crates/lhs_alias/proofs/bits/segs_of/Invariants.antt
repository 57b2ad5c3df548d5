use Rattle.std.proofs.Common.{◌≡◌, ◌<◌, ◌++◌, length}
use Rattle.std.specs.Prelude.{All}
use Rattle.lhs_alias.specs.Segs.{lhs_bits, AreSegs, IsUnited}
use Rattle.lhs_alias.proofs.bits.segs_of.Given as goal

abbrev pub invariant-loop-bit : goal.invariant-loop-bit
invariant-loop-bit l = record {
  bits : l.rest ++ lhs_bits l.segs.items ≡ l.bits;
  segs : AreSegs l.segs.items;
  united : IsUnited l.segs.items;
  rest : All (λ bit. bit.at < 128) l.rest;
}

abbrev pub decreases-loop-bit : goal.decreases-loop-bit
decreases-loop-bit l = length l.rest
