use Rattle.std.proofs.Common.{◌≡◌, ◌+◌, ◌*◌, ◌≤◌, ◌^◌, take}
use Rattle.lrat_text.specs.Texts.{value}
use Rattle.lrat_text.proofs.numbers.few_value.Given as goal

abbrev pub invariant-loop-b : goal.invariant-loop-b
invariant-loop-b l = record {
  is : l.number ≡ value (take l.b-index l.digits);
  below : l.number + 23 ≤ 23 * 10 ^ l.b-index;
}
