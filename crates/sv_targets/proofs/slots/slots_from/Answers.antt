use Rattle.std.proofs.lemmas.Result.{IfOk-from_err}
use Rattle.std.proofs.Common.{length, ap, ◌∙◌, sym}
use Rattle.fourvec.specs.Spots.{reached}
use Rattle.sv_targets.proofs.Slotting.{from_none, from_more, near_none, near_push, long_push}
use Rattle.sv_targets.proofs.slots.slots_from.Goals as goal

pub slots-init : goal.slots-init
slots-init c = record {
  is = c.new-part.ensures ∙ sym (from_none c.args.all.now (reached c.args.from.below c.args.from.far));
  near = near_none c.new-part.result c.new-part.ensures;
  long = ap length c.new-part.ensures;
}

pub slots-preserved : goal.slots-preserved
slots-preserved c = record {
  is = from_more c.args.all.now (reached c.args.from.below c.args.from.far) c.slots.on c.slots.part c.push.new.self c.slot_from.result c.slots.invariant.is c.in_ok-push.ensures.ok c.slot_from.ensures.is;
  near = near_push c.slots.part c.push.new.self c.slot_from.result c.in_ok-push.ensures.ok c.slots.invariant.near c.slot_from.ensures.near;
  long = long_push c.slots.part c.push.new.self c.slot_from.result c.slots.on c.in_ok-push.ensures.ok c.slots.invariant.long;
}

pub returns-in_err-push-clause-is : goal.returns-in_err-push-clause-is
returns-in_err-push-clause-is c = IfOk-from_err _ _ c.from_residual.ensures.0

pub returns-in_err-push-clause-most : goal.returns-in_err-push-clause-most
returns-in_err-push-clause-most c = IfOk-from_err _ _ c.from_residual.ensures.0

pub returns-in_err-push-clause-near : goal.returns-in_err-push-clause-near
returns-in_err-push-clause-near c = IfOk-from_err _ _ c.from_residual.ensures.0
