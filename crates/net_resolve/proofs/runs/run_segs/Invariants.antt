use Rattle.std.proofs.Common.{◌≡◌, ◌<◌, ℕ, length}
use Rattle.std.specs.Prelude.{slice_index}
use Rattle.net_equations.specs.Equations.{seg_at}
use Rattle.net_resolve.specs.Runs.{IsRunSeg}
use Rattle.net_resolve.proofs.runs.run_segs.Given as goal

abbrev pub invariant-loop-run : goal.invariant-loop-run
invariant-loop-run l = record {
  as_many : length l.segs.items ≡ l.run;
  each : (i : ℕ) → i < l.run → IsRunSeg l.bits l.lows (slice_index l.runs i) (seg_at l.segs.items i);
}
