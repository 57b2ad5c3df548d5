use Rattle.std.proofs.Common.{◌≡◌, ℕ, max, List, length, ap, arith}
use Rattle.aig_words.proofs.Grown.{Grew-wider}
use Rattle.svex_shape.specs.Shapes.{width_of, unary_width}
use Rattle.svex_shape.specs.Values.{value_of, unary_value}
use Rattle.pair_words.specs.declared.pairs.Pair.{Pair}
use Rattle.pair_words.specs.Rails.{bits}
use Rattle.svex_blast.specs.Reads.{word_in}
use Rattle.svex_blast.proofs.Noding.{word_from, value_from}
use Rattle.svex_blast.proofs.Fitting.{unary_fits}
use Rattle.svex_blast.proofs.nodes.on_unary.Goals as goal

pub unary-requires-clause-some : goal.unary-requires-clause-some
unary-requires-clause-some c = rw c.vector_of.ensures c.requires.a_ready.some

pub unary-requires-clause-a_in : goal.unary-requires-clause-a_in
unary-requires-clause-a_in c = rw c.vector_of.ensures c.requires.a_ready.inside

pub returns-clause-grew : goal.returns-clause-grew
returns-clause-grew c =
    let w : ℕ = length (word_in c.args.done.now c.args.a) in
    let e : length c.vector_of.result.now ≡ w = ap (λ (t : List Pair). length t) c.vector_of.ensures in
    Grew-wider _ _ _ _ (unary_fits c.args.op.now (length c.vector_of.result.now) (max (unary_width c.args.op.now w) w) (omega (arith, e))) c.unary.ensures.grew

pub returns-clause-word : goal.returns-clause-word
unfolding width_of
returns-clause-word c = word_from _ _ _ _ c.unary.ensures.word (ap (λ (t : List Pair). unary_width c.args.op.now (length t)) c.vector_of.ensures)

pub returns-clause-value : goal.returns-clause-value
unfolding value_of
returns-clause-value c = value_from _ _ _ _ c.unary.ensures.value (λ v. ap (λ (t : List Pair). unary_value c.args.op.now (bits v t)) c.vector_of.ensures)
