use Rattle.std.proofs.Common.{◌≡◌, ℕ, List, true, false, [], ◌∷◌, set, sym, ◌∙◌, subst}
use Rattle.std.proofs.lemmas.List.{get_or_default}
use Rattle.node_memo.specs.Memos.{is_fresh}
use Rattle.node_memo.specs.Walks.{AreDropped}
use Rattle.node_memo.proofs.Ups.{dropped-one}
use Rattle.node_memo.proofs.memo.drop_one.Goals as goal

pub returns-then-index-clause-dropped : goal.returns-then-index-clause-dropped
returns-then-index-clause-dropped c =
    let node = c.args.node in
    let fresh = c.args.fresh.now.items in
    let stale = c.args.stale.now.items in
    let on : is_fresh fresh node ≡ true = get_or_default fresh node false c.index.result.now c.requires.within ∙ sym c.index.ensures ∙ c.if-index.true in
    subst (λ (s : List ℕ). AreDropped (node ∷ []) fresh stale (set fresh node false) s) (sym c.push_reserved.ensures.items) (dropped-one node fresh stale c.requires.within on)
