use Rattle.std.proofs.Common.{◌≡◌, ◌++◌, drop}
use Rattle.svtv_table.specs.Binding.{over_faults, phase_over}
use Rattle.svtv_table.specs.Faults.{at_each}
use Rattle.svtv_table.specs.Indexing.{listed}
use Rattle.svtv_table.proofs.overs.overs_of.Given as goal

abbrev pub invariant-loop-phase : goal.invariant-loop-phase
invariant-loop-phase l = record {
  overs : l.overs ++ at_each (phase_over l.target.width (listed l.variables)) l.phase (drop l.phase l.cells) ≡ at_each (phase_over l.target.width (listed l.variables)) 0 l.cells;
  fine : at_each (over_faults l.target.width (listed l.variables) l.target.line) l.phase (drop l.phase l.cells) ≡ at_each (over_faults l.target.width (listed l.variables) l.target.line) 0 l.cells;
}
