use Rattle.std.proofs.Common.{take}
use Rattle.pair_words.specs.Truths.{AreParts}
use Rattle.pair_words.proofs.vectors.split_all.Given as goal

abbrev pub invariant-loop-i : goal.invariant-loop-i
invariant-loop-i l = AreParts l.aig (take l.i l.a) l.first.items l.second.items
