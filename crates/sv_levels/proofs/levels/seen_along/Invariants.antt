use Rattle.std.proofs.Common.{◌≡◌, [], map, take}
use Rattle.sv_names.specs.Kinds.{entries_are}
use Rattle.sv_names.specs.Names.{above_of, loops_of, frames_of}
use Rattle.sv_levels.specs.Levels.{level_is, seen_frames}
use Rattle.sv_levels.proofs.levels.seen_along.Given as goal

abbrev pub invariant-fronts : goal.invariant-fronts
invariant-fronts l = record {
  names : entries_are (frames_of l.names) ≡ seen_frames (map level_is l.levels) (take l.front-index l.fronts);
  above : entries_are (above_of l.names) ≡ seen_frames (map level_is l.levels) (take l.front-index l.fronts);
  loops : loops_of l.names ≡ [];
}
