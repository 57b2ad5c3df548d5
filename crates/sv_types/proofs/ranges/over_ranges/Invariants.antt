use Rattle.std.proofs.Common.{◌≤◌, ◌&&◌, ◌==◌, length, drop}
use Rattle.sv_meaning.specs.Forms.{over_ranges}
use Rattle.sv_names.specs.Kinds.{layout_is}
use Rattle.sv_names.specs.Names.{constants_are}
use Rattle.sv_types.specs.Types.{JudgesLayout}
use Rattle.sv_types.proofs.ranges.over_ranges.Given as goal

abbrev pub invariant-outward : goal.invariant-outward
invariant-outward l = record {
  within : l.at ≤ length l.ranges;
  found : JudgesLayout (over_ranges (constants_are l.names) (l.signed && (l.at == 0)) (drop l.at l.ranges) (layout_is l.fn.each)) l.found;
}

abbrev pub decreases-outward : goal.decreases-outward
decreases-outward l = l.at
