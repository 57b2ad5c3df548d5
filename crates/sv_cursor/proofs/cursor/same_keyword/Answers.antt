use Rattle.sv_cursor.specs.Tests.{same_keyword}
use Rattle.sv_cursor.proofs.cursor.same_keyword.Goals as goal

pub returns : goal.returns
unfolding same_keyword
returns c = c.eq.ensures
