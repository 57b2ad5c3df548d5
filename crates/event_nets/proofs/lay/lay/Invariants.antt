use Rattle.std.proofs.Common.{◌≡◌, length, take}
use Rattle.lhs_alias.specs.Joined.{starts_of, all_bits}
use Rattle.event_nets.proofs.lay.lay.Given as goal

abbrev pub invariant-loop-width : goal.invariant-loop-width
invariant-loop-width l = record {
  starts : l.starts.items ≡ starts_of (take l.width-index l.widths);
  told : length l.told.items ≡ length (all_bits (take l.width-index l.widths));
}
