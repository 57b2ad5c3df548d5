use Rattle.std.proofs.Common.{◌≡◌, map}
use Rattle.std.specs.List.{range_with_len}
use Rattle.pair_words.specs.Starts.{laid}
use Rattle.pair_words.proofs.places.all_laid.Given as goal

abbrev pub invariant-loop-t : goal.invariant-loop-t
invariant-loop-t l = l.parts.items ≡ map (laid l.a l.put l.p l.n) (range_with_len 0 l.t)
