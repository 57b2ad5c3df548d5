use Rattle.std.proofs.Common.{◌≡◌, ◌<◌, ℕ, false, length, get_or}
use Rattle.net_resolve.specs.Runs.{none_at}
use Rattle.net_resolve.proofs.runs.outside_nets.Given as goal

abbrev pub invariant-loop-place : goal.invariant-loop-place
invariant-loop-place l = record {
  len : length l.marks.items ≡ l.place;
  marks : (k : ℕ) → k < l.place → get_or l.marks.items k false ≡ none_at l.lows k;
}
