use Rattle.std.proofs.Common.{◌≡◌, take}
use Rattle.choice_inputs.specs.Questions.{inputs_of}
use Rattle.choice_inputs.proofs.choices.inputs_of.Given as goal

abbrev pub invariant-values : goal.invariant-values
invariant-values l = l.inputs.items ≡ inputs_of (take l.value-index l.choice)
