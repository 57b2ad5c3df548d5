use Rattle.std.proofs.Common.{ℕ, List, get_or, ◌∙◌, subst}
use Rattle.std.specs.Prelude.{Contains}
use Rattle.std.proofs.lemmas.List.{get_or_default}
use Rattle.node_memo.specs.Memos.{rows_in}
use Rattle.node_memo.proofs.Rows.{gains-none, row-of}
use Rattle.node_memo.proofs.lists.put_once.Goals as goal

pub returns-then-is_last-clause-gains : goal.returns-then-is_last-clause-gains
returns-then-is_last-clause-gains c = gains-none (rows_in c.args.lists.now) c.args.number

pub returns-then-is_last-clause-has : goal.returns-then-is_last-clause-has
returns-then-is_last-clause-has c =
    let lists = c.args.lists.now in
    let row = get_or lists c.args.at c.index-lists-at.result in
    subst (λ (l : List ℕ). Contains l c.args.number)
    (c.deref.ensures.value ∙ row-of lists c.args.at row c.requires (get_or_default lists c.args.at c.index-lists-at.result row c.requires)) (c.is_last.ensures c.if-is_last.true)
