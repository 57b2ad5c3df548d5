use Rattle.choice_inputs.specs.Tables.{IsResolved}
use Rattle.choice_inputs.proofs.tables.levels.Given as goal

abbrev pub invariant-loop-level : goal.invariant-loop-level
invariant-loop-level l = IsResolved l.bits l.first l.level l.steps.items
