use Rattle.std.proofs.Common.{length}
use Rattle.pair_words.proofs.vectors.+pair_parity.Given as goal

abbrev pub decreases-pair_parity : goal.decreases-pair_parity
decreases-pair_parity l = length l.a.now
