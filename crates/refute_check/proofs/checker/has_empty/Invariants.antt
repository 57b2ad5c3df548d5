use Rattle.std.proofs.Common.{◌≡◌, ℕ, ◌<◌, []}
use Rattle.refute_check.specs.Accepted.{entry_at}
use Rattle.refute_check.proofs.checker.has_empty.Given as goal

abbrev pub invariant-loop-k : goal.invariant-loop-k
invariant-loop-k l = record {
  none : (j : ℕ) → j < l.k → (entry_at l.steps j).clause ≡ [] → ⊥;
}
