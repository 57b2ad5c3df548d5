use Rattle.std.proofs.lemmas.Result.{IfOk-from_err}
use Rattle.std.proofs.Common.{List, [], ◌∷◌, ◌++◌, get_or, map, sym, ap, ◌∙◌, arith}
use Rattle.std.proofs.lemmas.List.{take_all, map_more}
use Rattle.aig.specs.declared.gate.Lit.{Lit}
use Rattle.pair_words.specs.declared.pairs.Pair.{Pair}
use Rattle.fourvec.specs.declared.Bit.TheVariants.{Zero}
use Rattle.pair_words.specs.Ways.{constant_pair}
use Rattle.pair_words.proofs.numbers.uppers.Goals as goal

pub loop-i-init : goal.loop-i-init
loop-i-init c = c.new-word.ensures.items

pub loop-i-preserved : goal.loop-i-preserved
loop-i-preserved c =
    let a = c.args.a.now in
    let i = c.loop-i.i in
    let next : Lit = (get_or a i (constant_pair Zero)).up in
    rw c.in_ok-push.ensures.items (ap (λ (w : List Lit). w ++ next ∷ []) c.loop-i.invariant ∙ sym (map_more (λ (p : Pair). p.up) a i (constant_pair Zero) c.loop-i-test.true))

pub returns : goal.returns
returns c = c.loop-i.invariant ∙ ap (λ (xs : List Pair). map (λ (p : Pair). p.up) xs) (take_all c.loop-i.i c.args.a.now (omega arith))

pub returns-in_err-push : goal.returns-in_err-push
returns-in_err-push c = IfOk-from_err _ _ c.from_residual.ensures.0
