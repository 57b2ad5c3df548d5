use Rattle.std.proofs.lemmas.Result.{IfOk-from_err}
use Rattle.std.proofs.Common.{List, [], ◌∷◌, ◌++◌, false, get_or, map, sym, ap, ◌∙◌, arith}
use Rattle.std.proofs.lemmas.List.{take_all, map_more}
use Rattle.aig.specs.declared.gate.Lit.{Lit}
use Rattle.aig.specs.Graph.{constant_lit}
use Rattle.pair_words.specs.declared.pairs.Pair.{Pair}
use Rattle.pair_words.specs.Truths.{known_pair}
use Rattle.pair_words.proofs.numbers.pairs_of.Goals as goal

pub loop-i-init : goal.loop-i-init
loop-i-init c = c.new-vector.ensures.items

pub loop-i-preserved : goal.loop-i-preserved
loop-i-preserved c =
    let word = c.args.word.now in
    let i = c.loop-i.i in
    let next : Pair = known_pair (get_or word i (constant_lit false)) in
    rw c.in_ok-push.ensures.items (ap (λ (w : List Pair). w ++ next ∷ []) c.loop-i.invariant ∙ sym (map_more known_pair word i (constant_lit false) c.loop-i-test.true))

pub returns : goal.returns
returns c = c.loop-i.invariant ∙ ap (λ (xs : List Lit). map known_pair xs) (take_all c.loop-i.i c.args.word.now (omega arith))

pub returns-in_err-push : goal.returns-in_err-push
returns-in_err-push c = IfOk-from_err _ _ c.from_residual.ensures.0
