use Rattle.std.proofs.Common.{◌≡◌, map, take}
use Rattle.pair_words.specs.declared.pairs.Pair.{Pair}
use Rattle.pair_words.proofs.numbers.uppers.Given as goal

abbrev pub invariant-loop-i : goal.invariant-loop-i
invariant-loop-i l = l.word.items ≡ map (λ (p : Pair). p.up) (take l.i l.a)
