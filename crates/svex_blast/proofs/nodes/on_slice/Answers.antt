use Rattle.std.proofs.lemmas.Result.{IfOk-from_err}
use Rattle.std.proofs.Common.{List, take, drop, ap, ◌∙◌}
use Rattle.aig_words.proofs.Grown.{Grew-refl}
use Rattle.svex_shape.specs.Shapes.{width_of}
use Rattle.svex_shape.specs.Values.{value_of}
use Rattle.pair_words.proofs.Moving.{slice_is}
use Rattle.pair_words.specs.declared.pairs.Pair.{Pair}
use Rattle.pair_words.specs.Rails.{bits}
use Rattle.svex_blast.specs.Reads.{word_in}
use Rattle.svex_blast.proofs.Noding.{slice_in}
use Rattle.svex_blast.proofs.nodes.on_slice.Goals as goal

pub returns-clause-grew : goal.returns-clause-grew
returns-clause-grew c = Grew-refl 0 _

pub returns-in_err-word-clause-grew : goal.returns-in_err-word-clause-grew
returns-in_err-word-clause-grew c = Grew-refl 0 _

pub returns-clause-word : goal.returns-clause-word
unfolding width_of
returns-clause-word c = let xs = c.vector_of.result.now in rw c.in_ok-word.ensures (slice_in c.args.aig.now xs c.args.lo c.args.width (rw c.vector_of.ensures c.requires.within) (rw c.vector_of.ensures c.requires.a_ready.inside))

pub returns-clause-value : goal.returns-clause-value
unfolding value_of
returns-clause-value c = λ v o. ap (λ (t : List Pair). bits v t) c.in_ok-word.ensures ∙ ap (λ (t : List Pair). bits v (take c.args.width (drop c.args.lo t))) c.vector_of.ensures ∙ slice_is v (word_in c.args.done.now c.args.a) c.args.lo c.args.width

pub returns-in_err-word-clause-value : goal.returns-in_err-word-clause-value
returns-in_err-word-clause-value c = IfOk-from_err _ _ c.from_residual.ensures.0

pub returns-in_err-word-clause-word : goal.returns-in_err-word-clause-word
returns-in_err-word-clause-word c = IfOk-from_err _ _ c.from_residual.ensures.0
