use Rattle.vcd_print.proofs.Printing.{same_told}
use Rattle.vcd_print.proofs.print.is_same.Goals as goal

pub returns-then-width-clause-same : goal.returns-then-width-clause-same
returns-then-width-clause-same c = same_told c.same.result c.args.one.now c.args.other.now c.same.ensures
