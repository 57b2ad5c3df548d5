use Rattle.std.proofs.Common.{◌≡◌, length, take}
use Rattle.event_nets.proofs.values.copy_all.Given as goal

abbrev pub invariant-loop-wire : goal.invariant-loop-wire
invariant-loop-wire l = record {
  long : length l.into ≡ length l.from;
  copied : take l.wire l.into ≡ take l.wire l.from;
}
