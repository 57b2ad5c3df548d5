use Rattle.choice_inputs.specs.Tables.{IsResolving}
use Rattle.choice_inputs.proofs.tables.put_level.Given as goal

abbrev pub invariant-loop-number : goal.invariant-loop-number
invariant-loop-number l = IsResolving l.bits l.first l.level l.number l.steps.items
