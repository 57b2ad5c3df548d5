use Rattle.std.proofs.Common.{◌≡◌, length, take}
use Rattle.svtv_least.proofs.stimulus.copy.Given as goal

abbrev pub invariant-values : goal.invariant-values
invariant-values l = record {
  long : length l.into ≡ length l.from;
  copied : take l.at l.into ≡ take l.at l.from;
}
