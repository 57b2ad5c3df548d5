use Rattle.std.proofs.Common.{◌≡◌, ℕ, List}
use Rattle.event_sim.specs.Sims.{prev_values, stim_values, Fits, AllElseRests}
use Rattle.event_sim.specs.Steps.{IsOnTheWay}
use Rattle.event_sim.proofs.Falling.{unknowns}
use Rattle.event_sim.proofs.sim.Sim.settle.Given as goal

abbrev pub invariant-changes : goal.invariant-changes
invariant-changes l = record {
  fits : (over : List ℕ) → Fits l.flat over l.fn.self → Fits l.flat over l.self;
  previous : prev_values l.self ≡ l.prev.values;
  stim : stim_values l.self ≡ l.stim.values;
  reached : (over : List ℕ) → Fits l.flat over l.fn.self → IsOnTheWay l.flat over l.self;
  rests : (over : List ℕ) → Fits l.flat over l.fn.self → AllElseRests l.flat over l.self;
}

abbrev pub decreases-changes : goal.decreases-changes
decreases-changes l = unknowns l.self.env.present
