use Rattle.std.proofs.lemmas.Result.{IfOk-from_err}
use Rattle.std.proofs.Common.{◌∙◌, sym, subst}
use Rattle.sv_typing.specs.Picks.{fixed_pick}
use Rattle.sv_targets.specs.Slots.{IsSpotted}
use Rattle.sv_targets.proofs.Slotting.{narrow_pick, far_none}
use Rattle.sv_targets.proofs.slots.picked.Goals as goal

pub slots_from-requires-clause-most : goal.slots_from-requires-clause-most
slots_from-requires-clause-most c = narrow_pick c.args.pick.now c.requires.sound

pub no_slots-requires : goal.no_slots-requires
no_slots-requires c = narrow_pick c.args.pick.now c.requires.sound

pub returns-in_ok-part-in-Far : goal.returns-in_ok-part-in-Far
returns-in_ok-part-in-Far c =
    let p = c.args.pick.now in
    let s = subst (IsSpotted (fixed_pick p)) c.in-Far.is c.spot_of.ensures in
    record {
      place = s.0;
      at = s.1;
      is = c.in_ok-part-in-Far.ensures.is ∙ sym (far_none c.args.all.now s.0 p.width s.2 c.requires.most (narrow_pick p c.requires.sound));
      near = c.in_ok-part-in-Far.ensures.near;
      most = c.in_ok-part-in-Far.ensures.most;
    }

pub returns-in_err-part-in-At : goal.returns-in_err-part-in-At
returns-in_err-part-in-At c = IfOk-from_err _ _ c.from_residual.ensures.0

pub returns-in_err-part-in-Far : goal.returns-in_err-part-in-Far
returns-in_err-part-in-Far c = IfOk-from_err _ _ c.from_residual-in_err-part-in-Far.ensures.0
