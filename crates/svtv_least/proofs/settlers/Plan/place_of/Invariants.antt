use Rattle.std.proofs.Common.{ℕ, ◌≢◌, ◌<◌}
use Rattle.svtv_least.specs.Running.{over_of}
use Rattle.svtv_least.proofs.settlers.Plan.place_of.Given as goal

abbrev pub invariant-settlers : goal.invariant-settlers
invariant-settlers l = (k : ℕ) → k < l.place → over_of l.self.settlers.items k ≢ l.over
