use Rattle.std.proofs.Common.{◌≡◌, false, slice_index_or}
use Rattle.choice_inputs.specs.Inputs.{inputs_to}
use Rattle.choice_inputs.proofs.inputs.inputs_to.Given as goal

abbrev pub invariant-loop-k : goal.invariant-loop-k
invariant-loop-k l = l.inputs.items ≡ inputs_to l.aig (λ k. slice_index_or l.values k false) l.k
