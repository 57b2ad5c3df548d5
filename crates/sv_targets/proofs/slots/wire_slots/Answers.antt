use Rattle.std.proofs.lemmas.Result.{IfOk-from_err}
use Rattle.std.proofs.Common.{length, ap, ◌∙◌, sym, Some, arith}
use Rattle.lhs_alias.specs.Segs.{bit}
use Rattle.sv_targets.proofs.Slotting.{wire_none, wire_more, near_none, near_push, long_push}
use Rattle.sv_targets.proofs.slots.wire_slots.Goals as goal

pub bits-init : goal.bits-init
bits-init c = record {
  is = c.new-all.ensures ∙ sym (wire_none c.args.wire);
  near = near_none c.new-all.result c.new-all.ensures;
  long = ap length c.new-all.ensures;
}

pub bits-preserved : goal.bits-preserved
bits-preserved c =
    let w = c.requires in
    let t = c.bits-test.true in
    record {
      is = wire_more c.args.wire c.bits.at c.bits.all c.push.new.self c.bits.invariant.is c.in_ok-push.ensures.ok;
      near = near_push c.bits.all c.push.new.self (Some (bit c.args.wire c.bits.at)) c.in_ok-push.ensures.ok c.bits.invariant.near (omega arith);
      long = long_push c.bits.all c.push.new.self (Some (bit c.args.wire c.bits.at)) c.bits.at c.in_ok-push.ensures.ok c.bits.invariant.long;
    }

pub returns-in_err-push-clause-is : goal.returns-in_err-push-clause-is
returns-in_err-push-clause-is c = IfOk-from_err _ _ c.from_residual.ensures.0

pub returns-in_err-push-clause-most : goal.returns-in_err-push-clause-most
returns-in_err-push-clause-most c = IfOk-from_err _ _ c.from_residual.ensures.0

pub returns-in_err-push-clause-near : goal.returns-in_err-push-clause-near
returns-in_err-push-clause-near c = IfOk-from_err _ _ c.from_residual.ensures.0
