use Rattle.std.proofs.Common.{ℕ, ◌<◌, List, length, map, sym, ap, ◌∙◌, subst}
use Rattle.std.specs.Prelude.{All, Contains}
use Rattle.std.proofs.lemmas.Bool.{false≢true}
use Rattle.event_sim.specs.declared.sim.Sim.{Sim}
use Rattle.event_nets.specs.Needs.{gift_rows}
use Rattle.event_sim.proofs.After.{after-none}
use Rattle.event_sim.proofs.Waiting.{nets-below, all-wait, none-fresh}
use Rattle.event_sim.proofs.sim.Sim.start.Goals as goal

pub wake-requires : goal.wake-requires
wake-requires c =
    let sim = c.args.self.now in
    let fits = c.requires.fits.1 in
    subst (λ (l : List ℕ). All (λ low. low < sim.waiting.room) l) (sym c.deref.ensures.value)
    (nets-below c.args.flat.now c.requires.fits.0 sim.tables fits.tables sim.waiting.room fits.queue)

pub returns-clause-fits : goal.returns-clause-fits
returns-clause-fits c = λ over fits. record {
  present = c.hold.ensures.lengths ∙ fits.present;
  previous = ap (λ l. map (λ row. length row) l) c.hold.ensures.previous ∙ c.requires.prev;
  stim = ap (λ l. map (λ row. length row) l) c.hold.ensures.stim ∙ c.requires.stim;
  tables = fits.tables;
  links = fits.links;
  memo = c.clear.ensures.memo c.args.flat.now.arena fits.memo;
  right = record { is = λ k on. absurd (false≢true (sym (c.clear.ensures.none k) ∙ on)) };
  told = fits.told;
  queue = c.wake.ensures.room ∙ fits.queue;
}

pub returns-clause-after : goal.returns-clause-after
returns-clause-after c = λ over.
    let sim : Sim = record c.args.self.now { env = c.hold.new.env } in
    after-none c.args.flat.now over sim c.hold.ensures.unknown

pub returns-clause-rests : goal.returns-clause-rests
returns-clause-rests c = λ ok over fits.
    let sim = c.args.self.now in
    let waiting = c.wake.new.waiting.items in
    let all : All (Contains waiting) sim.tables.nets.items = subst (λ (l : List ℕ). All (Contains waiting) l) c.deref.ensures.value c.wake.ensures.woken.all in (
      all-wait c.args.flat.now ok over sim.tables fits.tables waiting all c.hold.new.env,
      none-fresh sim.tables.nets.items (gift_rows sim.tables.given.items) waiting c.clear.new.self all,
    )
