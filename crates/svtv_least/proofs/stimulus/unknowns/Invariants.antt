use Rattle.std.proofs.Common.{◌≡◌, ℕ, length, map, take}
use Rattle.fourvec.specs.declared.Bit.TheVariants.{Unknown}
use Rattle.driver_resolve.specs.Drivers.{widths_of}
use Rattle.event_sim.specs.Sims.{store_of}
use Rattle.svtv_least.proofs.stimulus.unknowns.Given as goal

abbrev pub invariant-wires : goal.invariant-wires
invariant-wires l = record {
  valuation : map (λ row. length row) l.values ≡ widths_of (take l.wire-index l.wires);
  unknown : (n k : ℕ) → store_of l.values n k ≡ Unknown;
}
