use Rattle.sv_cursor.specs.Tests.{same_mark}
use Rattle.sv_cursor.proofs.cursor.same_mark.Goals as goal

pub returns : goal.returns
unfolding same_mark
returns c = c.eq.ensures
