use Rattle.std.proofs.Common.{length}
use Rattle.aig_words.proofs.cells.+parity.Given as goal

abbrev pub decreases-parity : goal.decreases-parity
decreases-parity l = length l.a.now
