use Rattle.std.proofs.Common.{List, ◌∙◌, subst}
use Rattle.svex_shape.specs.Values.{Vector}
use Rattle.driver_resolve.specs.Drivers.{widths_of}
use Rattle.flat_net.specs.Flats.{IsLeastSettling}
use Rattle.event_nets.specs.Tables.{store_of}
use Rattle.event_sim.specs.Sims.{now_of, now_values}
use Rattle.event_sim.proofs.Falling.{unknowns-fall}
use Rattle.event_sim.proofs.Settled.{reached-none}
use Rattle.event_sim.proofs.Moving.{lengths-same}
use Rattle.event_sim.proofs.Waiting.{none-waits}
use Rattle.event_sim.proofs.sim.Sim.settle.Goals as goal

pub changes-init : goal.changes-init
changes-init c = record {
  fits = c.start.ensures.fits;
  previous = c.start.ensures.previous;
  stim = c.start.ensures.stim;
  reached = λ over fits. reached-none c.args.flat.now over _ _ _ c.start.ensures.unknown;
  rests = c.start.ensures.rests c.requires.flat;
}

pub next_change-requires-clause-fits : goal.next_change-requires-clause-fits
next_change-requires-clause-fits c = (c.requires.fits.0, c.changes.invariant.fits c.requires.fits.0 c.requires.fits.1)

pub changes-preserved : goal.changes-preserved
changes-preserved c =
    let kept = c.changes.invariant in
    record {
      fits = λ over fits. c.next_change.ensures.fits over (kept.fits over fits);
      previous = c.next_change.ensures.previous ∙ kept.previous;
      stim = c.next_change.ensures.stim ∙ kept.stim;
      reached = λ over fits. c.next_change.ensures.reached over (kept.fits over fits) (kept.reached over fits);
      rests = λ over fits. c.next_change.ensures.rests over (kept.fits over fits) (kept.rests over fits);
    }

pub changes-smaller : goal.changes-smaller
changes-smaller c =
    let kept = c.changes.invariant in
    let over = c.requires.fits.0 in
    let fits = kept.fits over c.requires.fits.1 in
    let widths = widths_of c.args.flat.now.wires in
    let old = now_values c.changes.self in
    let new = now_values c.next_change.new.self in
    let same = lengths-same widths old new fits.present (c.next_change.ensures.fits over fits).present in
    unknowns-fall old new same.0 same.1 (c.next_change.ensures.rises over fits (kept.reached over c.requires.fits.1)) (c.next_change.ensures.changed c.changes-test.true)

pub returns-clause-least : goal.returns-clause-least
returns-clause-least c = λ over fits.
    let kept = c.changes.invariant in
    let flat = c.args.flat.now in
    let sim = c.next_change.new.self in
    let own = kept.fits over fits in
    let stim = c.next_change.ensures.stim ∙ kept.stim in
    let previous = c.next_change.ensures.previous ∙ kept.previous in
    let least : IsLeastSettling flat over (store_of sim.env.stim) (store_of sim.env.previous) (now_of sim) =
    none-waits flat c.next_change.ensures.arena c.requires.flat over sim.tables (c.next_change.ensures.fits over own).tables sim.env
    (c.next_change.ensures.reached over own (kept.reached over fits)) sim.waiting.items (c.next_change.ensures.ended c.changes-test.false) (c.next_change.ensures.rests over own (kept.rests over fits)).0 in
    subst (λ (rows : List Vector). IsLeastSettling flat over (store_of rows) (store_of c.args.prev.now.values) (now_of sim)) stim
    (subst (λ (rows : List Vector). IsLeastSettling flat over (store_of sim.env.stim) (store_of rows) (now_of sim)) previous least)
