use Rattle.std.proofs.Common.{◌≡◌, ℕ}
use Rattle.std.specs.Prelude.{slice_get}
use Rattle.settling.specs.Settling.{Store}
use Rattle.sv_meaning.specs.Designs.{Design}
use Rattle.event_sim.specs.Sims.{store_of}
use Rattle.sv_elab.specs.Elaborated.{IsElaborated}
use Rattle.svtv_runs.specs.Runs.{Run, IsLeastRunFrom, asks_of}
use Rattle.svtv_least.specs.Running.{Serves, StandsBehind}
use Rattle.svtv_least.proofs.Phases.{early}
use Rattle.svtv_least.proofs.runner.Runner.run_phases.Given as goal

abbrev pub invariant-phases : goal.invariant-phases
invariant-phases l = record {
  serves : Serves l.flat l.bound l.self;
  stands : (first : Store) → StandsBehind l.flat l.bound l.choice first 0 l.fn.self → StandsBehind l.flat l.bound l.choice first l.phase l.self;
  values : (first : Store) → StandsBehind l.flat l.bound l.choice first 0 l.fn.self → (d : Design) → IsElaborated d l.flat → (r : Run) → IsLeastRunFrom d (asks_of l.choice l.bound) l.bound.phases first r
      → (n k : ℕ) → store_of l.self.values n k ≡ early r l.phase (slice_get l.bound.samples n) k;
}
