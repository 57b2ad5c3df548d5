use Rattle.std.proofs.Common.{◌≡◌, ℕ, length, map, take}
use Rattle.fourvec.specs.declared.Bit.TheVariants.{Unknown}
use Rattle.event_sim.specs.Sims.{store_of}
use Rattle.svtv_least.specs.Running.{sample_widths}
use Rattle.svtv_least.proofs.samples.blank_values.Given as goal

abbrev pub invariant-samples : goal.invariant-samples
invariant-samples l = record {
  widths : map (λ v. length v) l.values ≡ sample_widths (take l.sample-index l.samples);
  unknown : (n k : ℕ) → store_of l.values n k ≡ Unknown;
}
