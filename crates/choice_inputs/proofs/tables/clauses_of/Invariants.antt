use Rattle.std.proofs.Common.{◌≡◌, map}
use Rattle.std.specs.List.{range_with_len}
use Rattle.choice_inputs.specs.Tables.{ruling_out}
use Rattle.choice_inputs.proofs.tables.clauses_of.Given as goal

abbrev pub invariant-loop-number : goal.invariant-loop-number
invariant-loop-number l = map (λ v. v.items) l.clauses.items ≡ map (ruling_out 0 l.bits) (range_with_len 0 l.number)
