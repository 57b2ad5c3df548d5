use Rattle.std.proofs.Common.{◌≡◌, ℕ, ◌<◌, ◌-◌, length}
use Rattle.sat_state.specs.Queue.{stamp_at}
use Rattle.sat_state.proofs.queue.first_stamps.Given as goal

abbrev pub invariant-loop-var : goal.invariant-loop-var
invariant-loop-var l = record {
  count : length l.stamps.items ≡ l.var;
  stamps : (v : ℕ) → v < l.var → stamp_at l.stamps.items v ≡ l.vars - v;
}
