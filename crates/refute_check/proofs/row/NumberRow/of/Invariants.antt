use Rattle.std.proofs.Common.{◌≡◌, take}
use Rattle.refute_check.specs.Groups.{begun, numbers_from}
use Rattle.refute_check.proofs.row.NumberRow.of.Given as goal

-- the bytes so far are the numbers so far, and end with a last group
abbrev pub invariant-loop-number : goal.invariant-loop-number
invariant-loop-number l = record {
  numbers : numbers_from 0 l.bytes.items ≡ take l.number-index l.numbers;
  begun : begun 0 l.bytes.items ≡ 0;
}
