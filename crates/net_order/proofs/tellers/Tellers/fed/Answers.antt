use Rattle.std.proofs.Common.{take_all}
use Rattle.net_order.specs.Rows.{IsFed}
use Rattle.std.proofs.lemmas.Result.{IfOk-from_err}
use Rattle.std.proofs.Common.{◌≡◌, ◌+◌, ◌<◌, ℕ, List, [], length, take, get_or, sym, ap, ◌∙◌, subst, arith}
use Rattle.std.proofs.lemmas.List.{take_more}
use Rattle.lhs_alias.specs.declared.segs.Seg.{Seg}
use Rattle.net_order.specs.Rows.{IsFedBy}
use Rattle.net_order.proofs.Feeding.{fed_more, numbers_below}
use Rattle.net_order.proofs.tellers.Tellers.fed.Goals as goal

pub feed_by-requires-clause-within : goal.feed_by-requires-clause-within
feed_by-requires-clause-within c =
    let s = c.args.self.now in
    let seg : Seg = get_or c.args.of.now c.of.seg-index (record { wire = 0; lo = 0; width = 0 }) in
    λ k d lt.
    subst (λ (l : List Seg). get_or c.numbers_on.result.now k d < length l) (sym c.deref.ensures.value)
    (numbers_below s.segs.items s.lists.items (length s.segs.items) c.requires.lists seg.wire c.numbers_on.result.now
    (c.numbers_on.ensures ∙ ap (λ (l : List (List ℕ)). get_or l seg.wire []) c.deref-in-of.ensures.value) k d lt)

pub of-preserved : goal.of-preserved
of-preserved c =
    let s = c.args.self.now in
    let i = c.of.seg-index in
    let none : Seg = record { wire = 0; lo = 0; width = 0 } in
    let seg : Seg = get_or c.args.of.now i none in
    let numbers : c.numbers_on.result.now ≡ get_or s.lists.items seg.wire [] = c.numbers_on.ensures ∙ ap (λ (l : List (List ℕ)). get_or l seg.wire []) c.deref-in-of.ensures.value in
    fed_more s.segs.items c.args.nodes (take i c.args.of.now) (take (i + 1) c.args.of.now) seg s.lists.items c.of.row.items c.feed_by.new.row.items c.requires.lists
    (take_more c.args.of.now i none (omega arith)) c.of.invariant
    (subst (λ (l : List ℕ). IsFedBy s.segs.items c.args.nodes seg l c.of.row.items c.feed_by.new.row.items) numbers
    (subst (λ (l : List Seg). IsFedBy l c.args.nodes seg c.numbers_on.result.now c.of.row.items c.feed_by.new.row.items) c.deref.ensures.value c.in_ok-feed_by.ensures))

pub returns-in_err-feed_by : goal.returns-in_err-feed_by
returns-in_err-feed_by c = IfOk-from_err _ _ c.from_residual.ensures.0

pub returns : goal.returns
returns c = subst (λ l. IsFed c.args.self.now.segs.items c.args.nodes l c.of.row.items) (take_all c.of.seg-index c.args.of.now c.of-test.false) c.of.invariant
