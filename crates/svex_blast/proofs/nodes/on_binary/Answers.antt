use Rattle.std.proofs.Common.{◌≡◌, ℕ, max, List, length, ap, ◌∙◌, arith}
use Rattle.svex_shape.specs.Shapes.{width_of, binary_width}
use Rattle.svex_shape.specs.Values.{value_of, binary_value}
use Rattle.pair_words.specs.declared.pairs.Pair.{Pair}
use Rattle.pair_words.specs.Rails.{bits}
use Rattle.svex_blast.specs.Reads.{word_in}
use Rattle.svex_blast.proofs.Noding.{word_from, value_from}
use Rattle.svex_blast.proofs.nodes.on_binary.Goals as goal

pub binary-requires-clause-fits : goal.binary-requires-clause-fits
binary-requires-clause-fits c = rw (c.vector_of.ensures, c.vector_of-2.ensures) c.requires.fits

pub binary-requires-clause-some : goal.binary-requires-clause-some
binary-requires-clause-some c = rw c.vector_of.ensures c.requires.a_ready.some

pub binary-requires-clause-some_b : goal.binary-requires-clause-some_b
binary-requires-clause-some_b c = rw c.vector_of-2.ensures c.requires.b_ready.some

pub binary-requires-clause-a_in : goal.binary-requires-clause-a_in
binary-requires-clause-a_in c = rw c.vector_of.ensures c.requires.a_ready.inside

pub binary-requires-clause-b_in : goal.binary-requires-clause-b_in
binary-requires-clause-b_in c = rw c.vector_of-2.ensures c.requires.b_ready.inside

pub returns-clause-grew : goal.returns-clause-grew
returns-clause-grew c =
    let a : ℕ = length (word_in c.args.done.now c.args.a) in
    let b : ℕ = length (word_in c.args.done.now c.args.b) in
    let ea : length c.vector_of.result.now ≡ a = ap (λ (t : List Pair). length t) c.vector_of.ensures in
    let eb : length c.vector_of-2.result.now ≡ b = ap (λ (t : List Pair). length t) c.vector_of-2.ensures in
    c.binary.ensures.grew (max (binary_width c.args.op.now a b) (max a b)) (omega (arith, ea)) (omega (arith, eb))

pub returns-clause-word : goal.returns-clause-word
unfolding width_of
returns-clause-word c = word_from _ _ _ _ c.binary.ensures.word (ap (λ (t : List Pair). binary_width c.args.op.now (length t) (length c.vector_of-2.result.now)) c.vector_of.ensures ∙
    ap (λ (t : List Pair). binary_width c.args.op.now (length (word_in c.args.done.now c.args.a)) (length t)) c.vector_of-2.ensures)

pub returns-clause-value : goal.returns-clause-value
unfolding value_of
returns-clause-value c = value_from _ _ _ _ c.binary.ensures.value (λ v. ap (λ (t : List Pair). binary_value c.args.op.now (bits v t) (bits v c.vector_of-2.result.now)) c.vector_of.ensures ∙
    ap (λ (t : List Pair). binary_value c.args.op.now (bits v (word_in c.args.done.now c.args.a)) (bits v t)) c.vector_of-2.ensures)
