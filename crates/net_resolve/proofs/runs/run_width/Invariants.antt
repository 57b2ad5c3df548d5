use Rattle.std.proofs.Common.{◌-◌, ◌+◌, ◌≡◌, ◌<◌, ◌≤◌, ℕ, true, None, get_or}
use Rattle.event_nets.specs.Runs.{is_at}
use Rattle.net_resolve.proofs.runs.run_width.Given as goal

abbrev pub invariant-loop-width : goal.invariant-loop-width
invariant-loop-width l = record {
  most : l.width ≤ 128;
  inside : (j : ℕ) → j < l.width → is_at (get_or l.lows (l.low + j) None) l.low ≡ true;
}

abbrev pub decreases-loop-width : goal.decreases-loop-width
decreases-loop-width l = 128 - l.width
