use Rattle.std.proofs.Common.{◌≡◌, take}
use Rattle.lhs_alias.specs.Joined.{all_bits}
use Rattle.net_resolve.proofs.runs.row_of.Given as goal

abbrev pub invariant-loop-wire : goal.invariant-loop-wire
invariant-loop-wire l = l.bits.items ≡ all_bits (take l.wire l.widths)
