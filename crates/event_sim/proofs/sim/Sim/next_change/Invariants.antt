use Rattle.std.proofs.Common.{◌≡◌, ℕ, List, length}
use Rattle.event_sim.specs.Sims.{now_values, prev_values, stim_values, Fits, AllElseRests}
use Rattle.event_sim.proofs.sim.Sim.next_change.Given as goal

abbrev pub invariant-turns : goal.invariant-turns
invariant-turns l = record {
  fits : (over : List ℕ) → Fits l.flat over l.fn.self → Fits l.flat over l.self;
  now : now_values l.self ≡ now_values l.fn.self;
  previous : prev_values l.self ≡ prev_values l.fn.self;
  stim : stim_values l.self ≡ stim_values l.fn.self;
  rests : (over : List ℕ) → Fits l.flat over l.fn.self → AllElseRests l.flat over l.fn.self → AllElseRests l.flat over l.self;
}

abbrev pub decreases-turns : goal.decreases-turns
decreases-turns l = length l.self.waiting.items
