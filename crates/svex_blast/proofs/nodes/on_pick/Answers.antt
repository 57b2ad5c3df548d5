use Rattle.std.proofs.lemmas.Result.{IfOk-from_err}
use Rattle.std.proofs.Common.{◌≡◌, max, List, length, ap, ◌∙◌, arith}
use Rattle.svex_shape.specs.Shapes.{width_of}
use Rattle.svex_shape.specs.Values.{value_of}
use Rattle.pair_words.specs.declared.pairs.Pair.{Pair}
use Rattle.svex_blast.specs.Reads.{word_in}
use Rattle.fourvec.specs.Bits.{keep_bit, pick_of}
use Rattle.svex_blast.proofs.Noding.{chosen_at}
use Rattle.pair_words.proofs.Growing.{vector_at}
use Rattle.svex_blast.proofs.nodes.on_pick.Goals as goal

pub choice-requires-clause-one : goal.choice-requires-clause-one
choice-requires-clause-one c = rw c.vector_of.ensures c.requires.one

pub choice-requires-clause-some : goal.choice-requires-clause-some
choice-requires-clause-some c = rw c.vector_of-2.ensures c.requires.a_ready.some

pub choice-requires-clause-same : goal.choice-requires-clause-same
choice-requires-clause-same c = rw (c.vector_of-2.ensures, c.vector_of-3.ensures) c.requires.same

pub choice-requires-clause-c_in : goal.choice-requires-clause-c_in
choice-requires-clause-c_in c = rw c.vector_of.ensures c.requires.c_ready.inside

pub choice-requires-clause-a_in : goal.choice-requires-clause-a_in
choice-requires-clause-a_in c = rw c.vector_of-2.ensures c.requires.a_ready.inside

pub choice-requires-clause-b_in : goal.choice-requires-clause-b_in
choice-requires-clause-b_in c = rw c.vector_of-3.ensures c.requires.b_ready.inside

pub returns-clause-grew : goal.returns-clause-grew
returns-clause-grew c =
    let w = c.args.done.now in
    let ea : length c.vector_of-2.result.now ≡ length (word_in w c.args.a) = ap (λ (t : List Pair). length t) c.vector_of-2.ensures in
    c.in_ok-word.ensures.grew (max (length (word_in w c.args.c)) (max (length (word_in w c.args.a)) (length (word_in w c.args.b)))) (omega (arith, ea))

pub returns-in_err-word-clause-grew : goal.returns-in_err-word-clause-grew
returns-in_err-word-clause-grew c =
    let w = c.args.done.now in
    let ea : length c.vector_of-2.result.now ≡ length (word_in w c.args.a) = ap (λ (t : List Pair). length t) c.vector_of-2.ensures in
    c.in_err-word.ensures.grew (max (length (word_in w c.args.c)) (max (length (word_in w c.args.a)) (length (word_in w c.args.b)))) (omega (arith, ea))

pub returns-clause-word : goal.returns-clause-word
unfolding width_of
returns-clause-word c = vector_at _ _ _ c.in_ok-word.word.items (ap (λ (t : List Pair). length t) c.vector_of-2.ensures) c.in_ok-word.ensures.word

pub returns-clause-value : goal.returns-clause-value
unfolding value_of pick_of
returns-clause-value c = λ v o.
    c.in_ok-word.ensures.value v o ∙ chosen_at v keep_bit _ _ _ _ _ _ c.vector_of.ensures c.vector_of-2.ensures c.vector_of-3.ensures

pub returns-in_err-word-clause-value : goal.returns-in_err-word-clause-value
returns-in_err-word-clause-value c = IfOk-from_err _ _ c.from_residual.ensures.0

pub returns-in_err-word-clause-word : goal.returns-in_err-word-clause-word
returns-in_err-word-clause-word c = IfOk-from_err _ _ c.from_residual.ensures.0
