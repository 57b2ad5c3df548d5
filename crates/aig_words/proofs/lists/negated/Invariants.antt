use Rattle.std.proofs.Common.{◌≡◌, map, take}
use Rattle.aig.specs.Graph.{negation}
use Rattle.aig_words.proofs.lists.negated.Given as goal

abbrev pub invariant-loop-l : goal.invariant-loop-l
invariant-loop-l l = l.word.items ≡ map negation (take l.l-index l.a)
