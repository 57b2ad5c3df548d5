use Rattle.std.proofs.Common.{◌≡◌, take}
use Rattle.lhs_alias.specs.Joined.{starts_of, all_bits}
use Rattle.lhs_alias.proofs.joins.row_of.Given as goal

abbrev pub invariant-loop-width : goal.invariant-loop-width
invariant-loop-width l = record {
  starts : l.starts.items ≡ starts_of (take l.width-index l.widths);
  bits : l.bits.items ≡ all_bits (take l.width-index l.widths);
}
