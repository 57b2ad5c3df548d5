use Rattle.std.proofs.Common.{◌≡◌, ◌++◌, take}
use Rattle.std.specs.List.{flat_map}
use Rattle.cert_names.specs.Names.{names_in}
use Rattle.cert_names.proofs.names.put_steps.Given as goal

abbrev pub invariant-loop-step : goal.invariant-loop-step
invariant-loop-step l = l.names.items ≡ l.fn.names.items ++ flat_map (λ s. names_in s.clause) (take l.step-index l.steps)
