use Rattle.std.proofs.Common.{◌<◌, length, sym, subst, arith}
use Rattle.event_nets.specs.declared.gift.Gift.{Gift}
use Rattle.event_sim.proofs.Telling.{cleared-more}
use Rattle.event_sim.proofs.pass.clear.Goals as goal

pub loop-gift-preserved : goal.loop-gift-preserved
loop-gift-preserved c =
    let gifts = c.args.gifts.now in
    let i = c.loop-gift.gift-index in
    let g = c.gift-item.result in
    let within : i < length gifts = omega arith in
    let below : g.to < length c.args.told.now = subst (λ (x : Gift). x.to < length c.args.told.now) (sym c.gift-item.is) (c.requires i g within) in
    cleared-more gifts i g c.loop-gift.told within (sym c.gift-item.is) (omega (arith, below)) c.loop-gift.invariant
