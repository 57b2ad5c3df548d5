use Rattle.std.proofs.lemmas.Result.{IfOk-from_err}
use Rattle.std.proofs.Common.{◌≡◌, ◌≤◌, ◌<◌, ◌∙◌, List, length, get_or, subst, ap}
use Rattle.sv_meaning.specs.Targets.{slots_from}
use Rattle.sv_typed.specs.declared.tree.Pick.{Pick}
use Rattle.sv_targets.specs.Slots.{Slots, Picked, target_slots}
use Rattle.sv_targets.proofs.Slotting.{pick_stays, pick_goes, picks_end}
use Rattle.sv_targets.proofs.slots.target_slots.Goals as goal

pub returns-in-None-clause-is : goal.returns-in-None-clause-is
returns-in-None-clause-is c =
    let picks = c.args.target.now.picks in
    let i = c.picks.pick-index in
    let p = c.pick-item.result in
    let seen = c.as_slice-pick-items.ensures in
    pick_stays picks i p c.picks.all (target_slots c.args.target.now) (subst (λ (z : List Pick). i < length z) seen c.picks-test.true) (subst (λ (z : List Pick). p ≡ get_or z i p) seen c.pick-item.is)
    (subst (Picked p c.as_slice.result.now) c.in-None.is c.in_ok-part.ensures) c.picks.invariant.is

pub picks-preserved : goal.picks-preserved
picks-preserved c =
    let picks = c.args.target.now.picks in
    let i = c.picks.pick-index in
    let p = c.pick-item.result in
    let seen = c.as_slice-pick-items.ensures in
    let k = subst (Picked p c.as_slice.result.now) c.in-Some.is c.in_ok-part.ensures in
    record {
      is = pick_goes picks i p c.picks.all c.in-Some.part (target_slots c.args.target.now) k.place (subst (λ (z : List Pick). i < length z) seen c.picks-test.true) (subst (λ (z : List Pick). p ≡ get_or z i p) seen c.pick-item.is)
          k.at (k.is ∙ ap (λ (z : Slots). slots_from z k.place p.width) c.as_slice.ensures) c.picks.invariant.is;
      near = k.near;
      most = k.most;
    }

pub returns-clause-is : goal.returns-clause-is
returns-clause-is c =
    picks_end c.args.target.now.picks c.picks.pick-index c.picks.all (target_slots c.args.target.now) (subst (λ (z : List Pick). length z ≤ c.picks.pick-index) c.as_slice-pick-items.ensures c.picks-test.false) c.picks.invariant.is

pub returns-in_err-all-clause-is : goal.returns-in_err-all-clause-is
returns-in_err-all-clause-is c = IfOk-from_err _ _ c.from_residual.ensures.0

pub returns-in_err-all-clause-near : goal.returns-in_err-all-clause-near
returns-in_err-all-clause-near c = IfOk-from_err _ _ c.from_residual.ensures.0

pub returns-in_err-part-clause-is : goal.returns-in_err-part-clause-is
returns-in_err-part-clause-is c = IfOk-from_err _ _ c.from_residual-in_err-part.ensures.0

pub returns-in_err-part-clause-near : goal.returns-in_err-part-clause-near
returns-in_err-part-clause-near c = IfOk-from_err _ _ c.from_residual-in_err-part.ensures.0
