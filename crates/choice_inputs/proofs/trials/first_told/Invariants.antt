use Rattle.std.proofs.Common.{◌≡◌, ℕ, ◌<◌, false}
use Rattle.aig.specs.Graph.{value}
use Rattle.svtv_choices.specs.Choices.{choice_of}
use Rattle.choice_inputs.specs.Questions.{inputs_of}
use Rattle.choice_inputs.proofs.trials.first_told.Given as goal

abbrev pub invariant-numbers : goal.invariant-numbers
invariant-numbers l = (number : ℕ) → number < l.number → value (inputs_of (choice_of l.vars number)) l.aig l.root ≡ false
