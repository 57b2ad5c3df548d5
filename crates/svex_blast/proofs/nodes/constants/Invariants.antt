use Rattle.std.proofs.Common.{◌≡◌, map, take}
use Rattle.pair_words.specs.Ways.{constant_pair}
use Rattle.svex_blast.proofs.nodes.constants.Given as goal

abbrev pub invariant-loop-i : goal.invariant-loop-i
invariant-loop-i l = l.word.items ≡ map constant_pair (take l.i l.value)
