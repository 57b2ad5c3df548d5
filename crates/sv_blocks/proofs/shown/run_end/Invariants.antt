use Rattle.std.proofs.Common.{◌≡◌, ℕ, ◌<◌, ◌≤◌}
use Rattle.sv_stores.specs.Scenes.{mark_at}
use Rattle.sv_blocks.proofs.shown.run_end.Given as goal

abbrev pub invariant-bits : goal.invariant-bits
invariant-bits l = record {
  first : l.first ≡ mark_at l.marks l.at l.from;
  some : l.from < l.bit;
  same : (k : ℕ) → l.from ≤ k → k < l.bit → mark_at l.marks l.at k ≡ mark_at l.marks l.at l.from;
}
