use Rattle.svtv_least.specs.Running.{Serves}
use Rattle.event_rows.proofs.least.run_all.Given as goal

abbrev pub invariant-lines : goal.invariant-lines
invariant-lines l = Serves l.flat l.bound l.runner
