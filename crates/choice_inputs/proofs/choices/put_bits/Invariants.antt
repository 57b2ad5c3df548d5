use Rattle.std.proofs.Common.{◌≡◌, ◌++◌, map, take}
use Rattle.fourvec.specs.Bits.{is_one}
use Rattle.choice_inputs.proofs.choices.put_bits.Given as goal

abbrev pub invariant-loop-at : goal.invariant-loop-at
invariant-loop-at l = l.inputs.items ≡ l.fn.inputs.items ++ take l.at (map is_one l.value)
