use Rattle.std.proofs.Common.{◌≡◌, ◌-◌, ◌^◌, min, take}
use Rattle.flat_words.specs.Readers.{value}
use Rattle.flat_words.proofs.numbers.value.Given as goal

abbrev pub invariant-loop-b : goal.invariant-loop-b
invariant-loop-b l = l.number ≡ min (value (take l.b-index l.digits)) (2 ^ 64 - 1)
