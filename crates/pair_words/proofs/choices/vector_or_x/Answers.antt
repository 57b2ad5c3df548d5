use Rattle.std.proofs.Common.{refl, cond, ap, ◌∙◌}
use Rattle.std.proofs.lemmas.List.{length-map}
use Rattle.aig.specs.Graph.{holds}
use Rattle.fourvec.specs.Bits.{all_x}
use Rattle.aig_words.proofs.Grown.{if_ok}
use Rattle.pair_words.specs.Rails.{bit_at, bits}
use Rattle.pair_words.proofs.Picking.{or_x_each}
use Rattle.pair_words.proofs.choices.vector_or_x.Goals as goal

pub each_place-requires-clause-same : goal.each_place-requires-clause-same
each_place-requires-clause-same c = refl

pub each_place-requires-clause-step_in : goal.each_place-requires-clause-step_in
each_place-requires-clause-step_in c = c.requires.c_in

pub each_place-requires-clause-a_in : goal.each_place-requires-clause-a_in
each_place-requires-clause-a_in c = c.requires.a_in

pub each_place-requires-clause-b_in : goal.each_place-requires-clause-b_in
each_place-requires-clause-b_in c = c.requires.a_in

pub returns-clause-grew : goal.returns-clause-grew
returns-clause-grew c = c.each_place.ensures.grew

pub returns-clause-word : goal.returns-clause-word
returns-clause-word c = c.each_place.ensures.word

pub returns-clause-value : goal.returns-clause-value
returns-clause-value c = if_ok c.each_place.result _ _ c.each_place.ensures.value (λ r h v o.
    let a = c.args.a.now in
    h v o ∙ or_x_each (holds v c.args.c) (bits v a) ∙ ap (λ n. cond (holds v c.args.c) (bits v a) (all_x n)) (length-map a (bit_at v)))
