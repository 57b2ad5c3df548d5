use Rattle.std.proofs.lemmas.Result.{IfOk-from_err}
use Rattle.std.proofs.Common.{◌-◌, arith}
use Rattle.sv_targets.proofs.Slotting.{slots_begin, slots_up, near_none, near_append}
use Rattle.sv_targets.proofs.slots.all_slots.Goals as goal

pub upward-init : goal.upward-init
upward-init c = record {
  within = omega arith;
  is = slots_begin c.args.targets.now c.new-all.result c.new-all.ensures;
  near = near_none c.new-all.result c.new-all.ensures;
}

pub upward-preserved : goal.upward-preserved
upward-preserved c =
    let w = c.upward.invariant.within in
    let t = c.upward-test.true in
    record {
      within = omega arith;
      is = slots_up c.args.targets.now c.upward.at (c.upward.at - 1) c.index-targets-at.result c.upward.all c.in_ok-more.more c.append.new.self (omega arith) (omega arith) c.index-targets-at.is
          c.upward.invariant.is c.in_ok-more.ensures.is c.in_ok-append.ensures.ok;
      near = near_append c.upward.all c.in_ok-more.more c.append.new.self c.in_ok-append.ensures.ok c.upward.invariant.near c.in_ok-more.ensures.near;
    }

pub returns-in_err-append-clause-is : goal.returns-in_err-append-clause-is
returns-in_err-append-clause-is c = IfOk-from_err _ _ c.from_residual-in_err-append.ensures.0

pub returns-in_err-append-clause-near : goal.returns-in_err-append-clause-near
returns-in_err-append-clause-near c = IfOk-from_err _ _ c.from_residual-in_err-append.ensures.0

pub returns-in_err-more-clause-is : goal.returns-in_err-more-clause-is
returns-in_err-more-clause-is c = IfOk-from_err _ _ c.from_residual.ensures.0

pub returns-in_err-more-clause-near : goal.returns-in_err-more-clause-near
returns-in_err-more-clause-near c = IfOk-from_err _ _ c.from_residual.ensures.0
