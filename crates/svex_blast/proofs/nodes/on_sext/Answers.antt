use Rattle.std.proofs.lemmas.Result.{IfOk-from_err}
use Rattle.std.proofs.Common.{◌-◌, ◌<◌, ◌≤◌, get_or, List, length, ap, ◌∙◌, arith}
use Rattle.std.specs.List.{All}
use Rattle.aig_words.proofs.Grown.{Grew-refl}
use Rattle.svex_shape.specs.Shapes.{width_of}
use Rattle.svex_shape.specs.Values.{value_of}
use Rattle.pair_words.specs.declared.pairs.Pair.{Pair}
use Rattle.pair_words.specs.Rails.{bits, IsWired}
use Rattle.svex_blast.specs.Reads.{word_in}
use Rattle.fourvec.specs.declared.Bit.TheVariants.{Zero}
use Rattle.pair_words.specs.Ways.{constant_pair}
use Rattle.svex_blast.proofs.Noding.{sext_at, extended_in}
use Rattle.svex_blast.proofs.nodes.on_sext.Goals as goal

pub returns-clause-grew : goal.returns-clause-grew
returns-clause-grew c = Grew-refl 0 _

pub returns-in_err-word-clause-grew : goal.returns-in_err-word-clause-grew
returns-in_err-word-clause-grew c = Grew-refl 0 _

pub returns-clause-word : goal.returns-clause-word
unfolding width_of
returns-clause-word c =
    let xs = c.vector_of-a.result.now in
    let aig = c.args.aig.now in
    let some : 0 < length xs = rw c.vector_of-a.ensures c.requires.a_ready.some in
    let inside : All (IsWired aig) xs = rw c.vector_of-a.ensures c.requires.a_ready.inside in
    let within : length xs ≤ c.args.width = rw c.vector_of-a.ensures c.requires.within in
    rw c.in_ok-word.ensures (extended_in aig xs c.args.width (get_or xs (length xs - 1) (constant_pair Zero)) within inside (inside (length xs - 1) (constant_pair Zero) (omega arith)))

pub returns-clause-value : goal.returns-clause-value
unfolding value_of
returns-clause-value c = λ v o.
    let some : 0 < length c.vector_of-a.result.now = rw c.vector_of-a.ensures c.requires.a_ready.some in
    ap (λ (t : List Pair). bits v t) c.in_ok-word.ensures ∙ sext_at v c.vector_of-a.result.now (word_in c.args.done.now c.args.a) c.args.width _ some c.vector_of-a.ensures

pub returns-in_err-word-clause-value : goal.returns-in_err-word-clause-value
returns-in_err-word-clause-value c = IfOk-from_err _ _ c.from_residual.ensures.0

pub returns-in_err-word-clause-word : goal.returns-in_err-word-clause-word
returns-in_err-word-clause-word c = IfOk-from_err _ _ c.from_residual.ensures.0
