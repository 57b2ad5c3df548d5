use Rattle.std.proofs.Common.{◌≡◌, take, true}
use Rattle.sv_targets.specs.Slots.{all_fixed}
use Rattle.sv_targets.proofs.fixed.are_fixed.Given as goal

abbrev pub invariant-targets : goal.invariant-targets
invariant-targets l = all_fixed (take l.target-index l.targets) ≡ true
