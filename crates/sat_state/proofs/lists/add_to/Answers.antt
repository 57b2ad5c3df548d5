use Rattle.std.proofs.lemmas.Result.{IfOk-from_err}
use Rattle.std.proofs.Common.{◌≡◌, ap, ◌∙◌, ◌++◌, ◌∷◌, [], sym, subst, ◌<◌, length, ℕ, Vec, Global}
use Rattle.cnf.specs.declared.Dim.{Dim}
use Rattle.sat_state.specs.declared.watch.Watch.{Watch}
use Rattle.sat_state.specs.Watch.{code}
use Rattle.sat_state.proofs.RowSets.{rows_set, row_is, code_below}
use Rattle.sat_state.proofs.lists.add_to.Goals as goal

pub returns : goal.returns
returns c =
    let number : c.code.result ≡ code c.args.d = c.code.ensures in
    let lt = subst (λ (n : ℕ). n < length c.args.lists.now) (sym number) (code_below c.args.d (length c.args.lists.now) c.requires) in
    rows_set c.args.lists.now _ _ c.push.new.self _ number
    (c.in_ok-push.ensures.items ∙ ap (λ (v : Vec Watch Global). v.items ++ c.args.watch ∷ []) (sym c.index-lists-code.is)
    ∙ ap (λ r. r ++ c.args.watch ∷ []) (row_is c.args.lists.now _ _ c.index-lists-code.result lt number c.index-lists-code.is))

pub returns-in_err-push : goal.returns-in_err-push
returns-in_err-push c = IfOk-from_err _ _ c.from_residual.ensures.0
