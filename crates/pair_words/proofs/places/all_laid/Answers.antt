use Rattle.std.proofs.lemmas.Result.{IfOk-from_err}
use Rattle.std.proofs.Common.{ℕ, ◌∷◌, ◌++◌, List, [], sym, ap, ◌∙◌, arith}
use Rattle.std.proofs.lemmas.List.FromFn.{map-range_with_len_more}
use Rattle.pair_words.specs.declared.pairs.Pair.{Pair}
use Rattle.pair_words.specs.Starts.{laid}
use Rattle.pair_words.proofs.places.all_laid.Goals as goal

pub loop-t-preserved : goal.loop-t-preserved
loop-t-preserved c =
    let f : ℕ → List Pair = λ t. laid c.args.a.now c.args.put.now c.args.p c.args.n t in
    rw (c.in_ok-push.ensures.items, c.from_vec.ensures, c.in_ok-part.ensures)
    (ap (λ (t : List (List Pair)). t ++ f c.loop-t.t ∷ []) c.loop-t.invariant ∙ sym (map-range_with_len_more f 0 c.loop-t.t c.loop-t.t (omega arith)))

pub returns-in_err-part : goal.returns-in_err-part
returns-in_err-part c = IfOk-from_err _ _ c.from_residual.ensures.0

pub returns-in_err-push : goal.returns-in_err-push
returns-in_err-push c = IfOk-from_err _ _ c.from_residual-in_err-push.ensures.0
