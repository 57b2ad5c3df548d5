use Rattle.std.proofs.Common.{◌≡◌, ◌≤◌, length, map, drop}
use Rattle.event_sim.specs.Sims.{store_of}
use Rattle.svtv_table.specs.Stimuli.{values_of}
use Rattle.svtv_runs.specs.Runs.{driven_rows}
use Rattle.svtv_least.proofs.Setting.{IsOver}
use Rattle.svtv_least.proofs.stimulus.drive.Given as goal

abbrev pub invariant-rows : goal.invariant-rows
invariant-rows l = record {
  inside : l.at ≤ length l.rows;
  widths : map (λ row. length row) l.stim ≡ map (λ row. length row) l.fn.stim;
  stim : IsOver l.stim (driven_rows (values_of l.choice (drop l.at l.rows)) l.phase) (store_of l.fn.stim);
}

abbrev pub decreases-rows : goal.decreases-rows
decreases-rows l = l.at
