use Rattle.std.proofs.Common.{◌≡◌, ◌++◌, drop, take, map}
use Rattle.svtv_table.specs.Binding.{cell_sample, sample_faults, sample_name}
use Rattle.svtv_table.specs.Faults.{at_each}
use Rattle.svtv_table.specs.Following.{AreNamed}
use Rattle.svtv_table.specs.Indexing.{listed}
use Rattle.svtv_table.specs.Names.{names_in}
use Rattle.svtv_table.proofs.samples.sample_cells.Given as goal

abbrev pub invariant-loop-phase : goal.invariant-loop-phase
invariant-loop-phase l = record {
  list : l.samples.list ++ at_each (cell_sample l.target.wire l.target.width) l.phase (drop l.phase l.cells) ≡ l.fn.samples.list ++ at_each (cell_sample l.target.wire l.target.width) 0 l.cells;
  names : map sample_name l.samples.list ≡ map sample_name l.fn.samples.list ++ names_in (take l.phase l.cells);
  named : AreNamed l.samples;
  fine : at_each (sample_faults (listed l.variables) (map sample_name l.fn.samples.list) l.cells l.target.line) l.phase (drop l.phase l.cells)
      ≡ at_each (sample_faults (listed l.variables) (map sample_name l.fn.samples.list) l.cells l.target.line) 0 l.cells;
}
