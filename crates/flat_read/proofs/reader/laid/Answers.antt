use Rattle.flat_read.proofs.Uniting.{laid_none}
use Rattle.flat_read.proofs.reader.laid.Goals as goal

pub returns-in-None-clause-stands : goal.returns-in-None-clause-stands
returns-in-None-clause-stands c joins h = laid_none c.args.made c.args.widths.now joins c.new.result c.in-None.is h c.new.ensures.none
