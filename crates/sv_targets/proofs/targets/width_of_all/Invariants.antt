use Rattle.std.proofs.Common.{◌≡◌, ◌≤◌, ◌+◌, min, drop}
use Rattle.sv_targets.specs.Targets.{width_of_all}
use Rattle.sv_targets.proofs.targets.width_of_all.Given as goal

abbrev pub invariant-targets : goal.invariant-targets
invariant-targets l = record {
  fits : l.width ≤ 255;
  total : min 255 (l.width + width_of_all (drop l.target-index l.all)) ≡ min 255 (width_of_all l.all);
}
