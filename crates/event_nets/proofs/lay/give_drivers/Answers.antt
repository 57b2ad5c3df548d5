use Rattle.std.proofs.lemmas.Result.{IfOk-from_err}
use Rattle.std.proofs.Common.{◌++◌, take, sym, ap, ◌∙◌, arith, append_assoc}
use Rattle.lhs_alias.specs.Segs.{lhs_bits}
use Rattle.lhs_alias.specs.Joined.{widths_of}
use Rattle.event_nets.specs.declared.gift.Source.TheVariants.{Value}
use Rattle.event_nets.specs.Gifts.{gifts_to, driver_gifts}
use Rattle.event_nets.specs.Tables.{home_of}
use Rattle.event_nets.proofs.Laying.{append-none, drivers-more}
use Rattle.std.proofs.lemmas.List.{take_all}
use Rattle.event_nets.proofs.lay.give_drivers.Goals as goal

pub loop-driver-init : goal.loop-driver-init
unfolding driver_gifts
loop-driver-init c = λ links s. sym (append-none c.args.gifts.now.items)

pub loop-driver-preserved : goal.loop-driver-preserved
loop-driver-preserved c = λ links s.
    let drivers = c.args.drivers.now in
    let i = c.loop-driver.driver-index in
    let d = c.driver-item.result in
    let old = c.args.gifts.now.items in
    let home = home_of links (widths_of c.args.joins.now) in
    let here = gifts_to home (Value d.value) 0 (lhs_bits d.target) in
    c.in_ok-give.ensures links s
    ∙ ap (λ l. l ++ here) (c.loop-driver.invariant links s)
    ∙ append_assoc old (driver_gifts home (take i drivers)) here
    ∙ ap (λ l. old ++ l) (sym (drivers-more home drivers i d (omega arith) (sym c.driver-item.is)))

pub returns-in_err-give : goal.returns-in_err-give
returns-in_err-give c = IfOk-from_err _ _ c.from_residual.ensures.0

pub returns : goal.returns
returns c = λ links s.
    c.loop-driver.invariant links s
    ∙ ap (λ ds. c.args.gifts.now.items ++ driver_gifts (home_of links (widths_of c.args.joins.now)) ds) (take_all c.loop-driver.driver-index c.args.drivers.now (omega arith))

pub give-requires-clause-fits : goal.give-requires-clause-fits
give-requires-clause-fits c = c.requires.fits

pub give-requires-clause-starts : goal.give-requires-clause-starts
give-requires-clause-starts c = c.requires.starts
