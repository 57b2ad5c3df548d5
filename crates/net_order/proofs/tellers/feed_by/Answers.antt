use Rattle.std.proofs.Common.{take_all, subst}
use Rattle.net_order.specs.Rows.{IsFedBy}
use Rattle.std.proofs.lemmas.Result.{IfOk-from_err}
use Rattle.std.proofs.Common.{◌+◌, take, get_or, arith}
use Rattle.std.proofs.lemmas.List.{take_more}
use Rattle.net_order.proofs.Feeding.{fed_by_more}
use Rattle.net_order.proofs.tellers.feed_by.Goals as goal

pub numbers-preserved : goal.numbers-preserved
numbers-preserved c =
    let i = c.numbers.number-index in
    let all = c.args.numbers.now in
    fed_by_more c.args.segs.now c.args.nodes c.args.seg (take i all) (take (i + 1) all) (get_or all i 0) c.args.row.now.items c.numbers.row.items c.feed_one.new.row.items
    (take_more all i 0 (omega arith)) c.numbers.invariant c.in_ok-feed_one.ensures

pub returns-in_err-feed_one : goal.returns-in_err-feed_one
returns-in_err-feed_one c = IfOk-from_err _ _ c.from_residual.ensures.0

pub returns : goal.returns
returns c =
    subst (λ l. IsFedBy c.args.segs.now c.args.nodes c.args.seg l c.args.row.now.items c.numbers.row.items) (take_all c.numbers.number-index c.args.numbers.now c.numbers-test.false) c.numbers.invariant
