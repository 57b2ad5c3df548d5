use Rattle.std.proofs.Common.{◌≡◌, ◌≤◌, take, length}
use Rattle.sv_names.specs.Kinds.{entries_are}
use Rattle.sv_names.specs.Names.{fronts_above}
use Rattle.sv_meaning.specs.Layouts.{last_of}
use Rattle.sv_names.proofs.names.found_above_in.Given as goal

abbrev pub invariant-frames : goal.invariant-frames
invariant-frames l = record {
  within : l.at ≤ length l.frames;
  rest : last_of l.name (entries_are (fronts_above (take l.at l.frames))) ≡ last_of l.name (entries_are (fronts_above l.frames));
}

abbrev pub decreases-frames : goal.decreases-frames
decreases-frames l = l.at
