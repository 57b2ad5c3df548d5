use Rattle.std.proofs.lemmas.Result.{IfOk-from_err}
use Rattle.std.proofs.Common.{List, ap, ◌∙◌}
use Rattle.aig_words.proofs.Grown.{Grew-refl}
use Rattle.svex_shape.specs.Shapes.{width_of}
use Rattle.svex_shape.specs.Values.{value_of}
use Rattle.pair_words.specs.declared.pairs.Pair.{Pair}
use Rattle.pair_words.specs.Rails.{bits}
use Rattle.svex_blast.proofs.Noding.{read_is, read_in}
use Rattle.svex_blast.proofs.nodes.on_variable.Goals as goal

pub returns-clause-grew : goal.returns-clause-grew
returns-clause-grew c = Grew-refl 0 _

pub returns-in_err-word-clause-grew : goal.returns-in_err-word-clause-grew
returns-in_err-word-clause-grew c = Grew-refl 0 _

pub returns-clause-word : goal.returns-clause-word
unfolding width_of
returns-clause-word c = rw c.in_ok-word.ensures (read_in c.args.aig.now c.args.vars.now c.args.name.now c.args.width c.requires.node c.requires.vars_in)

pub returns-clause-value : goal.returns-clause-value
unfolding value_of
returns-clause-value c = λ v o. ap (λ (t : List Pair). bits v t) c.in_ok-word.ensures ∙ read_is v c.args.vars.now c.args.name.now c.args.width o.bottom

pub returns-in_err-word-clause-value : goal.returns-in_err-word-clause-value
returns-in_err-word-clause-value c = IfOk-from_err _ _ c.from_residual.ensures.0

pub returns-in_err-word-clause-word : goal.returns-in_err-word-clause-word
returns-in_err-word-clause-word c = IfOk-from_err _ _ c.from_residual.ensures.0
