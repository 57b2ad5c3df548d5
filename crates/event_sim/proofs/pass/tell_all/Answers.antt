use Rattle.std.proofs.Common.{◌<◌, length, get_or, set, sym, ap, ◌∙◌, subst, arith}
use Rattle.std.specs.Prelude.{None}
use Rattle.event_nets.specs.Gifts.{told_with, IsGift}
use Rattle.event_sim.proofs.Telling.{told-none, told-more}
use Rattle.event_sim.proofs.pass.tell_all.Goals as goal

pub loop-gift-preserved : goal.loop-gift-preserved
loop-gift-preserved c =
    let values = c.args.values.now in
    let stim = c.args.stim.now in
    let gifts = c.args.gifts.now in
    let i = c.loop-gift.gift-index in
    let g = c.gift-item.result in
    let told = c.loop-gift.told in
    let within : i < length gifts = omega arith in
    let is : IsGift values stim (length c.args.told.now) g = subst (λ x. IsGift values stim (length c.args.told.now) x) (sym c.gift-item.is) (c.requires i g within) in
    told-more gifts values stim gifts i g told (set told g.to c.told_more.result) within (sym c.gift-item.is) (omega (arith, is.class))
    (ap (λ o. set told g.to o) (c.told_more.ensures ∙ ap (λ b. told_with (get_or told g.to None) b) c.bit_of-bit.ensures))
    c.loop-gift.invariant

pub loop-gift-init : goal.loop-gift-init
loop-gift-init c = told-none c.args.gifts.now c.args.values.now c.args.stim.now c.clear.new.told c.clear.ensures
