use Rattle.std.proofs.lemmas.Result.{IfOk-from_err}
use Rattle.std.proofs.Common.{◌-◌, ◌++◌, List, length, replicate, ap, ◌∙◌}
use Rattle.aig_words.proofs.Grown.{Grew-refl}
use Rattle.svex_shape.specs.Shapes.{width_of}
use Rattle.svex_shape.specs.Values.{value_of}
use Rattle.pair_words.specs.declared.pairs.Pair.{Pair}
use Rattle.pair_words.specs.Rails.{bits}
use Rattle.svex_blast.specs.Reads.{word_in}
use Rattle.fourvec.specs.declared.Bit.TheVariants.{Zero}
use Rattle.pair_words.specs.Ways.{constant_pair}
use Rattle.pair_words.proofs.Moving.{constant_wired}
use Rattle.svex_blast.proofs.Noding.{zext_is, extended_in}
use Rattle.svex_blast.proofs.nodes.on_zext.Goals as goal

pub returns-clause-grew : goal.returns-clause-grew
returns-clause-grew c = Grew-refl 0 _

pub returns-in_err-word-clause-grew : goal.returns-in_err-word-clause-grew
returns-in_err-word-clause-grew c = Grew-refl 0 _

pub returns-clause-word : goal.returns-clause-word
unfolding width_of
returns-clause-word c = let xs = c.vector_of.result.now in rw (c.in_ok-word.ensures, c.constant.ensures) (extended_in c.args.aig.now xs c.args.width (constant_pair Zero) (rw c.vector_of.ensures c.requires.within) (rw c.vector_of.ensures c.requires.a_ready.inside) (constant_wired c.args.aig.now Zero c.requires.node))

pub returns-clause-value : goal.returns-clause-value
unfolding value_of
returns-clause-value c = λ v o.
    ap (λ (t : List Pair). bits v t) c.in_ok-word.ensures ∙ ap (λ (p : Pair). bits v (c.vector_of.result.now ++ replicate (c.args.width - length c.vector_of.result.now) p)) c.constant.ensures ∙
    ap (λ (t : List Pair). bits v (t ++ replicate (c.args.width - length t) (constant_pair Zero))) c.vector_of.ensures ∙ zext_is v (word_in c.args.done.now c.args.a) c.args.width o.bottom

pub returns-in_err-word-clause-value : goal.returns-in_err-word-clause-value
returns-in_err-word-clause-value c = IfOk-from_err _ _ c.from_residual.ensures.0

pub returns-in_err-word-clause-word : goal.returns-in_err-word-clause-word
returns-in_err-word-clause-word c = IfOk-from_err _ _ c.from_residual.ensures.0
