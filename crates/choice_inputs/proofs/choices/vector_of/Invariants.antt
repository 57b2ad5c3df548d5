use Rattle.std.proofs.Common.{◌≡◌, ◌<◌, map, take}
use Rattle.fourvec.specs.Bits.{truth_bit}
use Rattle.choice_inputs.proofs.choices.vector_of.Given as goal

abbrev pub invariant-loop-at : goal.invariant-loop-at
invariant-loop-at l = record {
  some : 0 < l.at;
  is : l.value ≡ map truth_bit (take l.at l.bits);
}
