use Rattle.std.proofs.Common.{◌≡◌, take}
use Rattle.sv_targets.specs.Targets.{width_of_all}
use Rattle.sv_blocks.proofs.assigns.total.Given as goal

abbrev pub invariant-targets : goal.invariant-targets
invariant-targets l = l.width ≡ width_of_all (take l.target-index l.targets)
