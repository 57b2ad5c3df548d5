use Rattle.std.proofs.Common.{◌≡◌, ◌-◌, ◌++◌}
use Rattle.choice_inputs.specs.Tables.{ruling_out}
use Rattle.choice_inputs.proofs.tables.clause_of.Given as goal

abbrev pub invariant-loop-var : goal.invariant-loop-var
invariant-loop-var l = l.clause.items ++ ruling_out l.var (l.to - l.var) l.left ≡ ruling_out l.from (l.to - l.from) l.number
