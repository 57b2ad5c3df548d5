use Rattle.std.proofs.Common.{refl}
use Rattle.sat_state.proofs.RowSets.{rows_set}
use Rattle.sat_state.proofs.lists.put_list.Goals as goal

pub returns : goal.returns
returns c = rows_set c.args.lists.now _ _ c.args.list _ c.number_of.ensures refl
