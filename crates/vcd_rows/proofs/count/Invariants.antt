use Rattle.std.proofs.Common.{length}
use Rattle.vcd_rows.proofs.count.Given as goal

abbrev pub decreases-changes : goal.decreases-changes
decreases-changes l = length l.changes
