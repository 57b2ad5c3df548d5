use Rattle.std.proofs.Common.{◌≡◌, ◌+◌, ◌++◌, ◌∷◌, ℕ, List, [], length, map, take, sym, ap, ◌∙◌, take_all, arith}
use Rattle.std.proofs.lemmas.List.{take_more, map-append}
use Rattle.std.proofs.lemmas.Result.{IfOk-from_err}
use Rattle.dep_groups.proofs.finder.lengths.Goals as goal

pub lists-preserved : goal.lists-preserved
lists-preserved c =
    let all = c.args.all.now in
    let i = c.lists.list-index in
    let list : List ℕ = c.list-item.result in
    let more : take (i + 1) all ≡ take i all ++ list ∷ [] = take_more all i list (omega arith) ∙ ap (λ (x : List ℕ). take i all ++ x ∷ []) (sym c.list-item.is) in
    c.in_ok-push.ensures.items ∙ (λ j. c.lists.invariant j ++ c.len.ensures j ∷ []) ∙ sym (ap (map length) more ∙ map-append length (take i all) (list ∷ []))

pub returns : goal.returns
returns c = c.lists.invariant ∙ ap (map length) (take_all c.lists.list-index c.args.all.now c.lists-test.false)

pub returns-in_err-lengths : goal.returns-in_err-lengths
returns-in_err-lengths c = IfOk-from_err _ _ c.from_residual.ensures.0

pub returns-in_err-push : goal.returns-in_err-push
returns-in_err-push c = IfOk-from_err _ _ c.from_residual-in_err-push.ensures.0
