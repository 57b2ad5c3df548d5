use Rattle.std.proofs.Common.{◌≡◌, ℕ, ◌<◌, List, ◌∷◌, length, get_or, sym, ap, ◌∙◌, subst, arith}
use Rattle.std.proofs.lemmas.List.{length-map}
use Rattle.lhs_alias.specs.Segs.{bit}
use Rattle.lhs_alias.specs.Joined.{all_bits, place_of}
use Rattle.lhs_alias.proofs.Row.{place-below}
use Rattle.driver_resolve.specs.Drivers.{widths_of}
use Rattle.flat_net.specs.Flats.{given_in}
use Rattle.event_nets.specs.Nets.{nets_of}
use Rattle.event_sim.specs.Sims.{prev_of, stim_of, now_values, AllRestBut}
use Rattle.idx_list.specs.Order.{without}
use Rattle.event_sim.proofs.After.{after-more}
use Rattle.event_sim.proofs.Queueing.{without-keeps}
use Rattle.event_sim.proofs.Turning.{fits-waiting, rest-fewer}
use Rattle.event_sim.proofs.Stepping.{step-event, net-inside, net-low, net-there}
use Rattle.event_sim.proofs.sim.Sim.step.Goals as goal

pub low_of-low-requires : goal.low_of-low-requires
low_of-low-requires c =
    let flat = c.args.flat.now in
    let nets = nets_of flat c.requires.net.0 in
    let long = ap (λ l. length l) (c.deref.ensures.value ∙ c.requires.net.1.tables.nets) ∙ length-map nets (place_of (widths_of flat.wires)) in
    omega (arith, c.requires.net.2, long)

pub turn-requires-clause-fits : goal.turn-requires-clause-fits
turn-requires-clause-fits c =
    (c.requires.net.0, fits-waiting c.args.flat.now c.requires.net.0 c.args.self.now c.requires.net.1 c.leave.new.waiting c.leave.ensures.room)

pub returns-clause-fits : goal.returns-clause-fits
returns-clause-fits c = λ over fits. c.turn.ensures.fits over (fits-waiting c.args.flat.now over c.args.self.now fits c.leave.new.waiting c.leave.ensures.room)

pub turn-requires-clause-low : goal.turn-requires-clause-low
turn-requires-clause-low c =
    let flat = c.args.flat.now in
    let over = c.requires.net.0 in
    let there = c.requires.net.2 in
    let widths = widths_of flat.wires in
    let sim = c.args.self.now in
    let net = get_or (nets_of flat over) c.args.net (bit 0 0) in
    subst (λ (p : ℕ). p < length (all_bits widths))
    (sym (c.low_of-low.ensures ∙ ap (λ l. get_or l c.args.net 0) c.deref.ensures.value ∙ net-low flat over sim.tables.nets.items c.requires.net.1.tables.nets c.args.net (bit 0 0) there))
    (place-below widths net (net-inside flat over c.args.net (bit 0 0) there))

pub returns-clause-now : goal.returns-clause-now
returns-clause-now c = λ over fits.
    let flat = c.args.flat.now in
    let own = fits-waiting flat over c.args.self.now fits c.leave.new.waiting c.leave.ensures.room in
    let sim = c.args.self.now in
    let there = net-there flat c.requires.net.0 over sim c.requires.net.1 fits c.args.net c.requires.net.2 in
    let net = get_or (nets_of flat over) c.args.net (bit 0 0) in
    step-event flat c.requires.flat over (now_values sim) (now_values c.turn.new.self) fits.present (c.turn.ensures.fits over own).present sim.tables.lows.items fits.tables.lows
    net (net-inside flat over c.args.net (bit 0 0) there) c.low_of-low.result
    (c.low_of-low.ensures ∙ ap (λ l. get_or l c.args.net 0) c.deref.ensures.value ∙ net-low flat over sim.tables.nets.items fits.tables.nets c.args.net (bit 0 0) there)
    (given_in flat over (stim_of sim) (prev_of sim)) (c.turn.ensures.now over own)

pub returns-clause-after : goal.returns-clause-after
returns-clause-after c = λ over steps fits h.
    let flat = c.args.flat.now in
    let own = fits-waiting flat over c.args.self.now fits c.leave.new.waiting c.leave.ensures.room in
    let sim = c.args.self.now in
    let there = net-there flat c.requires.net.0 over sim c.requires.net.1 fits c.args.net c.requires.net.2 in
    let net = get_or (nets_of flat over) c.args.net (bit 0 0) in
    after-more flat over sim c.turn.new.self c.args.net steps c.turn.ensures.stim c.turn.ensures.previous
    (step-event flat c.requires.flat over (now_values sim) (now_values c.turn.new.self) fits.present (c.turn.ensures.fits over own).present sim.tables.lows.items fits.tables.lows
    net (net-inside flat over c.args.net (bit 0 0) there) c.low_of-low.result
    (c.low_of-low.ensures ∙ ap (λ l. get_or l c.args.net 0) c.deref.ensures.value ∙ net-low flat over sim.tables.nets.items fits.tables.nets c.args.net (bit 0 0) there)
    (given_in flat over (stim_of sim) (prev_of sim)) (c.turn.ensures.now over own))
    h

pub returns-clause-rests : goal.returns-clause-rests
returns-clause-rests c = λ over fits rest.
    let flat = c.args.flat.now in
    let sim = c.args.self.now in
    let low = c.low_of-low.result in
    let items : c.leave.new.waiting.items ≡ without low sim.waiting.items = c.leave.ensures.items in
    c.turn.ensures.rests over (fits-waiting flat over sim fits c.leave.new.waiting c.leave.ensures.room)
    (subst (λ (l : List ℕ). AllRestBut flat over (low ∷ l) sim) (sym items)
    (rest-fewer flat over sim sim.waiting.items (low ∷ without low sim.waiting.items) (without-keeps low sim.waiting.items) rest))
