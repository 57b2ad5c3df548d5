use Rattle.std.proofs.Common.{length}
use Rattle.sv_blocks.proofs.writes.+written.Given as goal

abbrev pub decreases-written : goal.decreases-written
decreases-written l = length l.picks.now
