use Rattle.std.proofs.Common.{◌≡◌, ℕ, List, length, sym, ap, ◌∙◌, subst, rules, arith}
use Rattle.std.specs.Prelude.{None}
use Rattle.idx_list.specs.Order.{Order}
use Rattle.settling.specs.Least.{Under}
use Rattle.settling.specs.Events.{Net}
use Rattle.svex_shape.specs.Values.{Vector}
use Rattle.driver_resolve.specs.Drivers.{widths_of}
use Rattle.flat_net.specs.Flats.{links_of}
use Rattle.event_nets.specs.Tables.{store_of}
use Rattle.event_sim.specs.Sims.{now_of, picked, AllRestBut}
use Rattle.event_sim.proofs.Moving.{same-way, way-more, way-rises, under-itself}
use Rattle.event_sim.proofs.Turning.{fits-waiting}
use Rattle.event_sim.proofs.sim.Sim.next_change.Goals as goal

pub returns-then-turn-clause-fits : goal.returns-then-turn-clause-fits
returns-then-turn-clause-fits c = λ over fits.
    c.turn.ensures.fits over (fits-waiting c.args.flat.now over c.turns.self (c.turns.invariant.fits over fits) c.take_first.new.waiting c.take_first.ensures.room)

pub returns-then-turn-clause-reached : goal.returns-then-turn-clause-reached
returns-then-turn-clause-reached c = λ over fits way.
    let flat = c.args.flat.now in
    let kept = c.turns.invariant in
    let net : Net = picked (links_of flat.joins) (widths_of flat.wires) c.turns.self.tables.lows.items c.in-Some.low in
    let own = fits-waiting flat over c.turns.self (kept.fits over fits) c.take_first.new.waiting c.take_first.ensures.room in
    way-more flat over c.turns.self c.turn.new.self net c.turn.ensures.stim c.turn.ensures.previous (c.turn.ensures.now over own)
    (same-way flat over c.args.self.now c.turns.self kept.now kept.stim kept.previous way)

pub returns-then-turn-clause-rises : goal.returns-then-turn-clause-rises
returns-then-turn-clause-rises c = λ over fits way.
    let flat = c.args.flat.now in
    let kept = c.turns.invariant in
    let new = c.turn.new.self in
    let net : Net = picked (links_of flat.joins) (widths_of flat.wires) c.turns.self.tables.lows.items c.in-Some.low in
    let own = fits-waiting flat over c.turns.self (kept.fits over fits) c.take_first.new.waiting c.take_first.ensures.room in
    subst (λ (rows : List Vector). Under (store_of rows) (now_of new)) kept.now
    (way-rises flat c.turn.ensures.arena c.requires.flat over c.turns.self new net (c.turn.ensures.now over own)
    (same-way flat over c.args.self.now c.turns.self kept.now kept.stim kept.previous way))

pub returns-then-turn-clause-rests : goal.returns-then-turn-clause-rests
returns-then-turn-clause-rests c = λ over fits rest.
    let flat = c.args.flat.now in
    let kept = c.turns.invariant in
    let own = fits-waiting flat over c.turns.self (kept.fits over fits) c.take_first.new.waiting c.take_first.ensures.room in
    c.turn.ensures.rests over own (subst (λ (l : List ℕ). AllRestBut flat over l c.turns.self) c.in-Some.ensures.first (kept.rests over fits rest))

pub returns-then-turn-clause-changed : goal.returns-then-turn-clause-changed
returns-then-turn-clause-changed c = λ t same. c.turn.ensures.changed c.if-turn.true (same ∙ sym c.turns.invariant.now)

pub turns-smaller : goal.turns-smaller
turns-smaller c = omega (arith, ap (λ (l : List ℕ). length l) (c.turn.ensures.still c.if-turn.false), ap (λ (l : List ℕ). length l) c.in-Some.ensures.first)

pub turns-preserved : goal.turns-preserved
turns-preserved c =
    let flat = c.args.flat.now in
    let kept = c.turns.invariant in
    record {
      fits = λ over fits. c.turn.ensures.fits over (fits-waiting flat over c.turns.self (kept.fits over fits) c.take_first.new.waiting c.take_first.ensures.room);
      now = c.turn.ensures.same c.if-turn.false ∙ kept.now;
      previous = c.turn.ensures.previous ∙ kept.previous;
      stim = c.turn.ensures.stim ∙ kept.stim;
      rests = λ over fits rest.
          c.turn.ensures.rests over (fits-waiting flat over c.turns.self (kept.fits over fits) c.take_first.new.waiting c.take_first.ensures.room)
          (subst (λ (l : List ℕ). AllRestBut flat over l c.turns.self) c.in-Some.ensures.first (kept.rests over fits rest));
    }

pub returns-clause-rests : goal.returns-clause-rests
returns-clause-rests c = λ over fits rest.
    let none : c.take_first.result ≡ None = search rules in
    subst (λ (o : Order). AllRestBut c.args.flat.now over o.items c.turns.self) (sym (c.take_first.ensures.unchanged none)) (c.turns.invariant.rests over fits rest)

pub returns-clause-fits : goal.returns-clause-fits
returns-clause-fits c = λ over fits.
    fits-waiting c.args.flat.now over c.turns.self (c.turns.invariant.fits over fits) c.take_first.new.waiting c.take_first.ensures.room

pub returns-clause-reached : goal.returns-clause-reached
returns-clause-reached c = λ over fits way.
    let kept = c.turns.invariant in
    same-way c.args.flat.now over c.args.self.now c.turns.self kept.now kept.stim kept.previous way

pub returns-clause-rises : goal.returns-clause-rises
returns-clause-rises c = λ over fits way.
    subst (λ (rows : List Vector). Under (now_of c.args.self.now) (store_of rows)) (sym c.turns.invariant.now) (under-itself (now_of c.args.self.now))

pub returns-clause-ended : goal.returns-clause-ended
returns-clause-ended c = λ ended.
    let none : c.take_first.result ≡ None = search rules in
    ap (λ (o : Order). o.items) (c.take_first.ensures.unchanged none) ∙ c.take_first.ensures.none none
