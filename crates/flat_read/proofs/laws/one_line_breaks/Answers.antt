use Rattle.flat_read.proofs.Unique.{one_line}
use Rattle.flat_read.proofs.laws.one_line_breaks.Goals as goal

pub returns : goal.returns
returns c m n a b = one_line c.args.text.now m n a b
