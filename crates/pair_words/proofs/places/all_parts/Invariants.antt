use Rattle.std.proofs.Common.{◌≡◌, ℕ, map, take, drop}
use Rattle.std.specs.List.{range_with_len}
use Rattle.pair_words.proofs.places.all_parts.Given as goal

abbrev pub invariant-loop-t : goal.invariant-loop-t
invariant-loop-t l = l.parts.items ≡ map (λ (t : ℕ). take l.width (drop t l.a)) (range_with_len 0 l.t)
