use Rattle.std.proofs.Common.{Option, Some, ap, ◌∙◌, sym, subst}
use Rattle.std.specs.Prelude.{ℤ}
use Rattle.sv_meaning.specs.Meanings.{nowhere}
use Rattle.sv_typed.specs.Typed.{own, spot_place}
use Rattle.sv_typed.proofs.Below.{index_sound}
use Rattle.sv_typed.proofs.Worth.{place_fixed, place_moving}
use Rattle.sv_targets.specs.Slots.{IsSpotted}
use Rattle.sv_targets.proofs.Slotting.{some_place}
use Rattle.sv_targets.proofs.places.spot_of.Goals as goal

pub own-requires : goal.own-requires
own-requires c = index_sound c.args.pick.now c.get.result.now c.in-Moving.index c.in-Moving.spot c.in-Moving.is c.get.ensures c.requires

pub returns-in-Fixed : goal.returns-in-Fixed
returns-in-Fixed c = some_place c.args.pick.now (Some c.in-Fixed.place) c.if-not-pick.false (place_fixed c.args.pick.now c.in-Fixed.place nowhere c.in-Fixed.is) ∙ ap Some (sym c.fixed_reach.ensures)

pub returns-in-Moving : goal.returns-in-Moving
returns-in-Moving c =
    let p = c.args.pick.now in
    let x = c.get.result.now in
    let s = c.in-Moving.spot in
    let e = some_place p (spot_place s (own x nowhere)) c.if-not-pick.false (place_moving p x c.in-Moving.index s nowhere c.in-Moving.is c.get.ensures) ∙ ap (spot_place s) (sym c.own.ensures.is) in
    subst (λ (o : Option ℤ). IsSpotted o c.spot_at.result) (sym e) c.spot_at.ensures
