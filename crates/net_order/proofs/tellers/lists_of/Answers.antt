use Rattle.std.proofs.Common.{◌≡◌, length, subst, arith}
use Rattle.net_order.specs.Rows.{AreByWire}
use Rattle.std.proofs.lemmas.Result.{IfOk-from_err}
use Rattle.net_order.proofs.tellers.lists_of.Goals as goal

pub returns-in_err-put : goal.returns-in_err-put
returns-in_err-put c = IfOk-from_err _ _ c.from_residual.ensures.0

pub returns : goal.returns
returns c =
    let all : c.segs.number ≡ length c.args.segs.now = omega (arith, c.segs-test.false, c.segs.auto.number-end) in
    subst (AreByWire c.args.segs.now c.segs.lists.items) all c.segs.invariant
