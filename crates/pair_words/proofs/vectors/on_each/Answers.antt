use Rattle.std.proofs.Common.{refl, ◌∙◌}
use Rattle.aig_words.proofs.Grown.{if_ok}
use Rattle.pair_words.specs.Rails.{bits, one_value}
use Rattle.pair_words.proofs.Lists.{each_first}
use Rattle.pair_words.proofs.vectors.on_each.Goals as goal

pub each_place-requires-clause-same : goal.each_place-requires-clause-same
each_place-requires-clause-same c = refl

pub each_place-requires-clause-step_in : goal.each_place-requires-clause-step_in
each_place-requires-clause-step_in c = tt

pub each_place-requires-clause-a_in : goal.each_place-requires-clause-a_in
each_place-requires-clause-a_in c = c.requires.a_in

pub each_place-requires-clause-b_in : goal.each_place-requires-clause-b_in
each_place-requires-clause-b_in c = c.requires.a_in

pub returns-clause-grew : goal.returns-clause-grew
returns-clause-grew c = c.each_place.ensures.grew

pub returns-clause-word : goal.returns-clause-word
returns-clause-word c = c.each_place.ensures.word

pub returns-clause-value : goal.returns-clause-value
returns-clause-value c = if_ok c.each_place.result _ _ c.each_place.ensures.value (λ r h v o. h v o ∙ each_first (one_value c.args.op) (bits v c.args.a.now))
