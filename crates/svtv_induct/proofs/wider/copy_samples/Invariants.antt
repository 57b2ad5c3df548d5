use Rattle.std.proofs.Common.{◌≡◌, take}
use Rattle.svtv_induct.proofs.wider.copy_samples.Given as goal

abbrev pub invariant-samples : goal.invariant-samples
invariant-samples l = l.copies ≡ take l.at l.samples
