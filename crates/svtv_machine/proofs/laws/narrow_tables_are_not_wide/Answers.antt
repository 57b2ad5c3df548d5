use Rattle.svtv_machine.proofs.Narrow.{narrow_excludes}
use Rattle.svtv_machine.proofs.laws.narrow_tables_are_not_wide.Goals as goal

pub returns : goal.returns
returns c = narrow_excludes
