use Rattle.std.proofs.Common.{◌≡◌, true, ℕ, List, length, ap, subst, sym, ◌∙◌}
use Rattle.std.proofs.lemmas.Result.{IfOk-weaker, IfOk-from_err}
use Rattle.fourvec.specs.declared.Bit.{Bit}
use Rattle.fourvec.specs.Bits.{is_known}
use Rattle.pair_words.specs.declared.pairs.Pair.{Pair}
use Rattle.pair_words.specs.Rails.{bits, IsVector}
use Rattle.svex_shape.specs.Shapes.{width_of}
use Rattle.svex_blast.specs.Reads.{word_in}
use Rattle.svex_blast.specs.Knowns.{are_twins}
use Rattle.svex_blast.proofs.Knowing.{settled_in, settled_bits, settled_twins, known_shape}
use Rattle.svex_blast.proofs.known.known_vector.Goals as goal

pub returns-clause-word : goal.returns-clause-word
returns-clause-word c = IfOk-weaker c.twinned_where.result _ _ (λ r h.
    let n : ℕ = width_of (λ k. length (word_in c.args.done.now k)) c.args.shape.now in
    subst (λ (t : List Pair). IsVector c.node_vector.new.aig n t) (sym h) (settled_in c.node_vector.new.aig n c.is_known-known.result c.in_ok-word.word.items c.in_ok-word.ensures.word)) c.twinned_where.ensures

pub returns-clause-value : goal.returns-clause-value
returns-clause-value c = IfOk-weaker c.twinned_where.result _ _ (λ r h v o.
    let word : List Pair = c.in_ok-word.word.items in
    let is = c.in_ok-word.ensures.value v o in
    ap (λ (t : List Pair). bits v t) h ∙
    settled_bits v c.is_known-known.result word (λ k. subst (λ (t : List Bit). is_known t ≡ true) (sym is)
    (known_shape v c.args.vars.now c.args.done.now c.args.shape.now c.requires.twins c.requires.fits (sym c.is_known-known.ensures ∙ k))) ∙ is) c.twinned_where.ensures

pub returns-clause-shared : goal.returns-clause-shared
returns-clause-shared c = IfOk-weaker c.twinned_where.result _ _ (λ r h k.
    ap (λ (t : List Pair). are_twins t) h ∙ settled_twins c.is_known-known.result c.in_ok-word.word.items (c.is_known-known.ensures ∙ k)) c.twinned_where.ensures

pub returns-in_err-word-clause-shared : goal.returns-in_err-word-clause-shared
returns-in_err-word-clause-shared c = IfOk-from_err _ _ c.from_residual.ensures.0

pub returns-in_err-word-clause-value : goal.returns-in_err-word-clause-value
returns-in_err-word-clause-value c = IfOk-from_err _ _ c.from_residual.ensures.0

pub returns-in_err-word-clause-word : goal.returns-in_err-word-clause-word
returns-in_err-word-clause-word c = IfOk-from_err _ _ c.from_residual.ensures.0
