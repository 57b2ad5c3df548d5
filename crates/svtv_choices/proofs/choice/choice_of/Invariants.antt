use Rattle.std.proofs.Common.{◌≡◌, ◌≤◌, ◌++◌, drop}
use Rattle.svtv_choices.specs.Choices.{bits_of, choice_of}
use Rattle.svtv_choices.proofs.choice.choice_of.Given as goal

abbrev pub invariant-vars : goal.invariant-vars
invariant-vars l = record {
  is : l.choice ++ choice_of (drop l.var-index l.vars) l.left ≡ choice_of l.fn.vars l.fn.number;
  few : bits_of (drop l.var-index l.vars) ≤ 16;
}
