use Rattle.std.proofs.Common.{◌≡◌, map, take}
use Rattle.svtv_periods.specs.Periods.{sampling}
use Rattle.svtv_commands.proofs.course.are_alike.Given as goal

abbrev pub invariant-samples : goal.invariant-samples
invariant-samples l = map sampling (take l.at l.ones) ≡ map sampling (take l.at l.others)
