use Rattle.std.proofs.Common.{ap, ◌∙◌, take_all}
use Rattle.driver_resolve.specs.declared.driver.NetEq.{NetEq}
use Rattle.net_order.specs.Rows.{segs_in}
use Rattle.net_order.proofs.Feeding.{map-more}
use Rattle.std.proofs.lemmas.Result.{IfOk-from_err}
use Rattle.net_order.proofs.tellers.segs_of.Goals as goal

pub returns-in_err-push : goal.returns-in_err-push
returns-in_err-push c = IfOk-from_err _ _ c.from_residual-in_err-push.ensures.0

pub returns-in_err-segs : goal.returns-in_err-segs
returns-in_err-segs c = IfOk-from_err _ _ c.from_residual.ensures.0

pub eqs-preserved : goal.eqs-preserved
eqs-preserved c =
    map-more (λ (e : NetEq). e.seg) c.args.eqs.now c.eqs.eq-index c.eq-item.result c.eqs.segs.items c.push.new.self.items c.eqs-test.true c.eq-item.is c.eqs.invariant c.in_ok-push.ensures.items

pub returns : goal.returns
returns c = c.eqs.invariant ∙ ap segs_in (take_all c.eqs.eq-index c.args.eqs.now c.eqs-test.false)
