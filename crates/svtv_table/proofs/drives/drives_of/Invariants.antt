use Rattle.std.proofs.Common.{◌≡◌, ◌++◌, drop}
use Rattle.svtv_table.specs.Binding.{phase_faults}
use Rattle.svtv_table.specs.Drives.{drive_before, held_before, phase_drive}
use Rattle.svtv_table.specs.Faults.{at_each}
use Rattle.svtv_table.specs.Indexing.{listed}
use Rattle.svtv_table.proofs.drives.drives_of.Given as goal

abbrev pub invariant-loop-phase : goal.invariant-loop-phase
invariant-loop-phase l = record {
  held : l.held ≡ held_before l.cells l.phase;
  before : l.before ≡ drive_before l.target.width (listed l.variables) l.cells l.phase;
  drives : l.drives ++ at_each (phase_drive l.target.width (listed l.variables) l.cells) l.phase (drop l.phase l.cells) ≡ at_each (phase_drive l.target.width (listed l.variables) l.cells) 0 l.cells;
  fine : at_each (phase_faults l.target.width (listed l.variables) l.cells l.target.line) l.phase (drop l.phase l.cells) ≡ at_each (phase_faults l.target.width (listed l.variables) l.cells l.target.line) 0 l.cells;
}
