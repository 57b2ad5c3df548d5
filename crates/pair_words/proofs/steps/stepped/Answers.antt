use Rattle.std.proofs.Common.{subst}
use Rattle.pair_words.specs.declared.steps.Step.{Step}
use Rattle.pair_words.specs.Steps.{StepIn}
use Rattle.pair_words.proofs.steps.stepped.Goals as goal

pub returns-in-Apply-clause-grew : goal.returns-in-Apply-clause-grew
returns-in-Apply-clause-grew c = rw c.in-Apply.is c.one_bit.ensures.grew

pub returns-in-Apply-clause-value : goal.returns-in-Apply-clause-value
returns-in-Apply-clause-value c = rw c.in-Apply.is c.one_bit.ensures.value

pub returns-in-Join-clause-grew : goal.returns-in-Join-clause-grew
returns-in-Join-clause-grew c = rw c.in-Join.is c.two_bits.ensures.grew

pub returns-in-Join-clause-value : goal.returns-in-Join-clause-value
returns-in-Join-clause-value c = rw c.in-Join.is c.two_bits.ensures.value

pub returns-in-Pick-clause-grew : goal.returns-in-Pick-clause-grew
returns-in-Pick-clause-grew c = rw c.in-Pick.is c.pick_pair.ensures.grew

pub returns-in-Pick-clause-value : goal.returns-in-Pick-clause-value
returns-in-Pick-clause-value c = rw c.in-Pick.is c.pick_pair.ensures.value

pub returns-in-OrX-clause-grew : goal.returns-in-OrX-clause-grew
returns-in-OrX-clause-grew c = rw c.in-OrX.is c.pair_or_x.ensures.grew

pub returns-in-OrX-clause-value : goal.returns-in-OrX-clause-value
returns-in-OrX-clause-value c = rw c.in-OrX.is c.pair_or_x.ensures.value

pub returns-in-KeepBy-clause-grew : goal.returns-in-KeepBy-clause-grew
returns-in-KeepBy-clause-grew c = rw c.in-KeepBy.is c.kept.ensures.grew

pub returns-in-KeepBy-clause-value : goal.returns-in-KeepBy-clause-value
returns-in-KeepBy-clause-value c = rw c.in-KeepBy.is c.kept.ensures.value

pub pick_pair-requires-clause-c_in : goal.pick_pair-requires-clause-c_in
pick_pair-requires-clause-c_in c = subst (λ (s : Step). StepIn c.args.aig.now s) c.in-Pick.is c.requires.step_in

pub pair_or_x-requires-clause-c_in : goal.pair_or_x-requires-clause-c_in
pair_or_x-requires-clause-c_in c = subst (λ (s : Step). StepIn c.args.aig.now s) c.in-OrX.is c.requires.step_in

pub kept-requires-clause-b_in : goal.kept-requires-clause-b_in
kept-requires-clause-b_in c = subst (λ (s : Step). StepIn c.args.aig.now s) c.in-KeepBy.is c.requires.step_in
