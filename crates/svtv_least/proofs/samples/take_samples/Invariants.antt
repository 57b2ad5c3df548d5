use Rattle.std.proofs.Common.{◌≡◌, ℕ, length, map}
use Rattle.event_sim.specs.Sims.{store_of}
use Rattle.svtv_least.specs.Running.{taken_before}
use Rattle.svtv_least.proofs.samples.take_samples.Given as goal

abbrev pub invariant-samples : goal.invariant-samples
invariant-samples l = record {
  widths : map (λ v. length v) l.values ≡ map (λ v. length v) l.fn.values;
  taken : (n k : ℕ) → store_of l.values n k ≡ taken_before l.samples l.at l.phase (store_of l.now) (store_of l.fn.values) n k;
}
