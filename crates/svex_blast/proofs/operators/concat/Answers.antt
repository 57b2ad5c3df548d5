use Rattle.std.proofs.lemmas.Result.{IfOk-from_err}
use Rattle.std.proofs.Common.{List, ap, ◌∙◌, arith}
use Rattle.aig_words.proofs.Grown.{Grew-refl}
use Rattle.std.proofs.lemmas.List.{length-append}
use Rattle.std.proofs.lemmas.List.Elements.{All-append}
use Rattle.pair_words.specs.declared.pairs.Pair.{Pair}
use Rattle.pair_words.specs.Rails.{bits, IsWired}
use Rattle.svex_blast.proofs.Noding.{concat_is}
use Rattle.svex_blast.proofs.operators.concat.Goals as goal

pub returns-clause-grew : goal.returns-clause-grew
returns-clause-grew c = λ n la lb. Grew-refl 0 _

pub returns-in_err-word-clause-grew : goal.returns-in_err-word-clause-grew
returns-in_err-word-clause-grew c = λ n la lb. Grew-refl 0 _

pub returns-clause-word : goal.returns-clause-word
returns-clause-word c =
    let a = c.args.a.now in
    let b = c.args.b.now in
    rw c.in_ok-word.ensures (record { long = omega (arith, length-append b a); inside = All-append (IsWired _) b a c.requires.b_in c.requires.a_in })

pub returns-clause-value : goal.returns-clause-value
returns-clause-value c = λ v o. ap (λ (t : List Pair). bits v t) c.in_ok-word.ensures ∙ concat_is v c.args.a.now c.args.b.now

pub returns-in_err-word-clause-value : goal.returns-in_err-word-clause-value
returns-in_err-word-clause-value c = IfOk-from_err _ _ c.from_residual.ensures.0

pub returns-in_err-word-clause-word : goal.returns-in_err-word-clause-word
returns-in_err-word-clause-word c = IfOk-from_err _ _ c.from_residual.ensures.0
