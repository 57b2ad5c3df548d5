use Rattle.std.proofs.Common.{◌≡◌, ◌++◌, map, drop}
use Rattle.refute_check.specs.Packed.{number_of, distances, hint_numbers}
use Rattle.refute_check.proofs.Packs.{Back}
use Rattle.refute_check.proofs.packing.put_hints.Given as goal

abbrev pub invariant-loop-hint : goal.invariant-loop-hint
invariant-loop-hint l = record {
  put : l.numbers.items ++ map number_of (distances l.last (drop l.hint-index l.hints)) ≡ l.fn.numbers.items ++ hint_numbers l.hints;
  back : Back l.last (drop l.hint-index l.hints) → Back 0 l.hints;
}
