use Rattle.std.proofs.Common.{take}
use Rattle.std.specs.List.{AllZip}
use Rattle.cert_names.specs.Names.{IsRenamedStep}
use Rattle.cert_names.proofs.renaming.renamed_steps.Given as goal

abbrev pub invariant-loop-step : goal.invariant-loop-step
invariant-loop-step l = AllZip (IsRenamedStep l.names) (take l.step-index l.steps) l.new.items
