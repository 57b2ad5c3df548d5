use Rattle.std.proofs.Common.{◌≡◌, map, take}
use Rattle.pair_words.specs.declared.pairs.Pair.{Pair}
use Rattle.svex_blast.proofs.planes.rails_of.Given as goal

abbrev pub invariant-loop-i : goal.invariant-loop-i
invariant-loop-i l = record {
  up : l.up.items ≡ map (λ (p : Pair). p.up) (take l.i l.word);
  low : l.low.items ≡ map (λ (p : Pair). p.low) (take l.i l.word);
}
