use Rattle.std.proofs.Common.{◌≡◌, map, take}
use Rattle.pair_words.specs.Truths.{known_pair}
use Rattle.pair_words.proofs.numbers.pairs_of.Given as goal

abbrev pub invariant-loop-i : goal.invariant-loop-i
invariant-loop-i l = l.vector.items ≡ map known_pair (take l.i l.word)
