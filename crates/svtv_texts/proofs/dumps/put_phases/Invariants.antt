use Rattle.std.proofs.Common.{◌≡◌}
use Rattle.sv_meaning.specs.Designs.{Design}
use Rattle.svtv_decide.specs.Passed.{IsElaborated, Serves, StandsBehind}
use Rattle.svtv_runs.specs.Leasts.{all_unknown}
use Rattle.svtv_runs.specs.Runs.{IsLeastRun, Run, asks_of}
use Rattle.svtv_texts.specs.Phases.{phases_in}
use Rattle.vcd_print.specs.Dumps.{IsDump, last_phase}
use Rattle.svtv_texts.proofs.dumps.put_phases.Given as goal

-- the dump has the phases so far, and the values before are those of the last of them
abbrev pub invariant-phases : goal.invariant-phases
invariant-phases l = record {
  serves : Serves l.flat l.bound l.runner;
  stands : StandsBehind l.flat l.bound l.choice all_unknown l.phase l.runner;
  dump : (d : Design) → IsElaborated d l.flat → (r : Run) → IsLeastRun d (asks_of l.choice l.bound) l.bound.phases r → IsDump l.flat.wires (phases_in l.flat.wires l.phase r) l.dump;
  before : (d : Design) → IsElaborated d l.flat → (r : Run) → IsLeastRun d (asks_of l.choice l.bound) l.bound.phases r → l.before.items ≡ last_phase (phases_in l.flat.wires l.phase r);
}
