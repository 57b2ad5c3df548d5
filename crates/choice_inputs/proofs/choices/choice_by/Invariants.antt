use Rattle.std.proofs.Common.{◌≡◌, ◌+◌, drop, take, length}
use Rattle.svtv_choices.specs.Choices.{bits_of}
use Rattle.svtv_table.specs.Stimuli.{IsChoice}
use Rattle.choice_inputs.specs.Questions.{inputs_of}
use Rattle.choice_inputs.proofs.choices.choice_by.Given as goal

abbrev pub invariant-vars : goal.invariant-vars
invariant-vars l = record {
  is : IsChoice (take l.var-index l.vars) l.choice;
  inputs : inputs_of l.choice ≡ take l.at l.inputs;
  long : l.at + bits_of (drop l.var-index l.vars) ≡ length l.inputs;
}
