use Rattle.std.proofs.Common.{ap, ◌∙◌}
use Rattle.sat_state.proofs.RowSets.{rows_set}
use Rattle.sat_state.proofs.lists.take_list.Goals as goal

pub returns-clause-rest : goal.returns-clause-rest
returns-clause-rest c = rows_set c.args.lists.now _ _ c.replace.new.dest _ c.number_of.ensures (ap (λ v. v.items) c.replace.ensures.after ∙ c.new.ensures.items)
