use Rattle.std.proofs.Common.{◌≡◌, ℕ, ◌<◌, length, map}
use Rattle.fourvec.specs.declared.Bit.TheVariants.{Unknown}
use Rattle.event_nets.specs.Tables.{store_of}
use Rattle.event_nets.proofs.values.make_unknown.Given as goal

abbrev pub invariant-loop-wire : goal.invariant-loop-wire
invariant-loop-wire l = record {
  lengths : map (λ row. length row) l.values ≡ map (λ row. length row) l.initial.values;
  unknown : (n : ℕ) → n < l.wire → (k : ℕ) → store_of l.values n k ≡ Unknown;
}
