use Rattle.std.proofs.lemmas.Result.{IfOk-from_err}
use Rattle.std.proofs.Common.{◌≡◌, max, List, length, ap, ◌∙◌, arith}
use Rattle.svex_shape.specs.Shapes.{width_of}
use Rattle.svex_shape.specs.Values.{value_of}
use Rattle.pair_words.specs.declared.pairs.Pair.{Pair}
use Rattle.pair_words.specs.Rails.{bits}
use Rattle.svex_blast.specs.Reads.{word_in}
use Rattle.fourvec.specs.Spots.{dyn_slice_of}
use Rattle.svex_blast.proofs.nodes.on_dyn_slice.Goals as goal

pub dyn_slice-requires-clause-some : goal.dyn_slice-requires-clause-some
dyn_slice-requires-clause-some c = rw c.vector_of.ensures c.requires.a_ready.some

pub dyn_slice-requires-clause-a_in : goal.dyn_slice-requires-clause-a_in
dyn_slice-requires-clause-a_in c = rw c.vector_of.ensures c.requires.a_ready.inside

pub dyn_slice-requires-clause-some_at : goal.dyn_slice-requires-clause-some_at
dyn_slice-requires-clause-some_at c = rw c.vector_of-2.ensures c.requires.at_ready.some

pub dyn_slice-requires-clause-at_in : goal.dyn_slice-requires-clause-at_in
dyn_slice-requires-clause-at_in c = rw c.vector_of-2.ensures c.requires.at_ready.inside

pub returns-clause-grew : goal.returns-clause-grew
returns-clause-grew c =
    let ea : length c.vector_of.result.now ≡ length (word_in c.args.done.now c.args.a) = ap (λ (t : List Pair). length t) c.vector_of.ensures in
    let et : length c.vector_of-2.result.now ≡ length (word_in c.args.done.now c.args.at) = ap (λ (t : List Pair). length t) c.vector_of-2.ensures in
    c.in_ok-word.ensures.grew (max c.args.spot.now.width (max (length (word_in c.args.done.now c.args.a)) (length (word_in c.args.done.now c.args.at)))) (omega (arith, ea)) (omega (arith, et)) (omega arith)

pub returns-in_err-word-clause-grew : goal.returns-in_err-word-clause-grew
returns-in_err-word-clause-grew c =
    let ea : length c.vector_of.result.now ≡ length (word_in c.args.done.now c.args.a) = ap (λ (t : List Pair). length t) c.vector_of.ensures in
    let et : length c.vector_of-2.result.now ≡ length (word_in c.args.done.now c.args.at) = ap (λ (t : List Pair). length t) c.vector_of-2.ensures in
    c.in_err-word.ensures.grew (max c.args.spot.now.width (max (length (word_in c.args.done.now c.args.a)) (length (word_in c.args.done.now c.args.at)))) (omega (arith, ea)) (omega (arith, et)) (omega arith)

pub returns-clause-word : goal.returns-clause-word
unfolding width_of
returns-clause-word c = c.in_ok-word.ensures.word

pub returns-clause-value : goal.returns-clause-value
unfolding value_of
returns-clause-value c = λ v o. c.in_ok-word.ensures.value v o ∙ ap (λ (t : List Pair). dyn_slice_of (bits v t) (bits v c.vector_of-2.result.now) c.args.spot.now) c.vector_of.ensures ∙
    ap (λ (t : List Pair). dyn_slice_of (bits v (word_in c.args.done.now c.args.a)) (bits v t) c.args.spot.now) c.vector_of-2.ensures

pub returns-in_err-word-clause-value : goal.returns-in_err-word-clause-value
returns-in_err-word-clause-value c = IfOk-from_err _ _ c.from_residual.ensures.0

pub returns-in_err-word-clause-word : goal.returns-in_err-word-clause-word
returns-in_err-word-clause-word c = IfOk-from_err _ _ c.from_residual.ensures.0
