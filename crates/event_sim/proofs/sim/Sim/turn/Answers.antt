use Rattle.std.proofs.Common.{List, length, refl, sym, ap, ◌∙◌, subst, arith, Vec, Global}
use Rattle.std.specs.Prelude.{All, Option}
use Rattle.fourvec.specs.declared.Bit.{Bit}
use Rattle.svex_shape.specs.Values.{Vector, read}
use Rattle.node_memo.specs.declared.memo.Memo.{Memo}
use Rattle.node_memo.specs.Memos.{IsMemo, HasFresh, StayFresh}
use Rattle.driver_resolve.specs.Drivers.{widths_of}
use Rattle.event_nets.specs.declared.gift.Gift.{Gift}
use Rattle.event_nets.specs.Gifts.{IsGift}
use Rattle.event_nets.specs.Needs.{IsRoot}
use Rattle.event_nets.specs.Tables.{IsValuation}
use Rattle.event_nets.proofs.Needed.{net-roots}
use Rattle.event_sim.specs.Passes.{IsToldOf}
use Rattle.event_sim.specs.declared.sim.Sim.{Sim}
use Rattle.event_sim.specs.Queues.{IsGivenFresh}
use Rattle.event_sim.proofs.Fitting.{net-fits}
use Rattle.event_sim.proofs.OneNet.{own_gifts, net-gifts-fit, net-now}
use Rattle.event_sim.proofs.Passing.{passed-widths}
use Rattle.event_sim.proofs.Turning.{IsPassed, turn-right, turn-rests}
use Rattle.event_sim.proofs.sim.Sim.turn.Goals as goal

pub given_to-gifts-requires : goal.given_to-gifts-requires
given_to-gifts-requires c = omega (arith, c.requires.low, c.requires.fits.1.tables.given_each)

pub evaluate_net-requires-clause-memo : goal.evaluate_net-requires-clause-memo
evaluate_net-requires-clause-memo c = c.requires.fits.1.memo

pub evaluate_net-requires-clause-right : goal.evaluate_net-requires-clause-right
evaluate_net-requires-clause-right c = c.requires.fits.1.right

pub evaluate_net-requires-clause-roots : goal.evaluate_net-requires-clause-roots
evaluate_net-requires-clause-roots c =
    let flat = c.args.flat.now in
    subst (λ (l : List Gift). All (IsRoot (length flat.arena)) l) (sym c.given_to-gifts.ensures) (net-roots flat c.requires.fits.0 c.args.self.now.tables c.requires.flat c.requires.fits.1.tables c.args.low c.requires.low)

pub tell_net-requires : goal.tell_net-requires
tell_net-requires c =
    let flat = c.args.flat.now in
    let sim = c.args.self.now in
    let memo = c.evaluate_net.new.self.memo in
    let fresh = subst (λ (l : List Gift). All (IsGivenFresh memo) l) c.given_to-gifts.ensures c.evaluate_net.ensures.has in
    let told = c.evaluate_net.new.self.told.items in
    subst (λ (l : List Gift). All (IsGift memo.values.items sim.env.stim (length told)) l) (sym c.given_to-gifts.ensures)
    (net-gifts-fit flat c.requires.fits.0 sim c.evaluate_net.ensures.arena c.requires.flat c.requires.fits.1 c.args.low c.requires.low memo c.evaluate_net.ensures.right fresh told
    (ap (λ (v : Vec (Option Bit) Global). v.items) c.evaluate_net.ensures.told))

pub take_net-requires-clause-fits : goal.take_net-requires-clause-fits
take_net-requires-clause-fits c =
    net-fits c.args.flat.now c.requires.flat c.requires.fits.0 c.args.self.now c.requires.fits.1 c.args.low c.requires.low c.tell_net.new.self.told.items
    (c.tell_net.ensures.len ∙ ap (λ (v : Vec (Option Bit) Global). length v.items) c.evaluate_net.ensures.told)

pub take_net-requires-clause-memo : goal.take_net-requires-clause-memo
take_net-requires-clause-memo c = subst (λ (m : Memo). IsMemo c.args.flat.now.arena m) (sym c.tell_net.ensures.memo) c.evaluate_net.ensures.memo

pub returns-clause-fits : goal.returns-clause-fits
returns-clause-fits c = λ over fits.
    let flat = c.args.flat.now in
    let sim = c.args.self.now in
    let widths = widths_of flat.wires in
    let valued : List Vector → Type 0 = IsValuation widths in
    let right : HasFresh (read sim.env) flat.arena c.tell_net.new.self.memo = subst (λ (m : Memo). HasFresh (read sim.env) flat.arena m) (sym c.tell_net.ensures.memo) c.evaluate_net.ensures.right in
    let passed : IsPassed sim c.args.low c.tell_net.new.self.told.items c.tell_net.new.self.memo c.take_net.new.env c.take_net.new.self.memo c.take_net.new.waiting.items = record {
      rows = c.take_net.ensures.rows;
      previous = c.take_net.ensures.previous;
      stim = c.take_net.ensures.stim;
      chosen = c.take_net.ensures.chosen;
      sampled = c.take_net.ensures.sampled;
      unread = c.take_net.ensures.unread;
      forgotten = c.take_net.ensures.forgotten;
    } in
    record {
      present = passed-widths widths _ _ _ _ _ sim.env.present c.take_net.new.env.present c.take_net.ensures.rows fits.present;
      previous = subst valued (sym c.take_net.ensures.previous) fits.previous;
      stim = subst valued (sym c.take_net.ensures.stim) fits.stim;
      tables = fits.tables;
      links = fits.links;
      memo = c.take_net.ensures.memo;
      right = turn-right flat over sim c.evaluate_net.ensures.arena fits c.args.low c.tell_net.new.self.told.items c.tell_net.new.self.memo right c.take_net.new.env c.take_net.new.self.memo c.take_net.new.waiting.items c.take_net.ensures.memo passed;
      told = ap (λ (v : Vec (Option Bit) Global). length v.items) c.take_net.ensures.told ∙ c.tell_net.ensures.len ∙ ap (λ (v : Vec (Option Bit) Global). length v.items) c.evaluate_net.ensures.told ∙ fits.told;
      queue = c.take_net.ensures.room ∙ fits.queue;
    }

pub returns-clause-now : goal.returns-clause-now
returns-clause-now c = λ over fits.
    let flat = c.args.flat.now in
    let sim = c.args.self.now in
    let memo = c.evaluate_net.new.self.memo in
    let fresh = subst (λ (l : List Gift). All (IsGivenFresh memo) l) c.given_to-gifts.ensures c.evaluate_net.ensures.has in
    net-now flat over sim c.evaluate_net.ensures.arena c.requires.flat fits c.args.low c.requires.low memo c.evaluate_net.ensures.right fresh
    c.tell_net.new.self.told.items (c.tell_net.ensures.len ∙ ap (λ (v : Vec (Option Bit) Global). length v.items) c.evaluate_net.ensures.told)
    (subst (λ (l : List Gift). IsToldOf l memo.values.items sim.env.stim l c.tell_net.new.self.told.items) c.given_to-gifts.ensures c.tell_net.ensures.told)
    c.take_net.new.env.present c.take_net.ensures.rows

pub returns-clause-rests : goal.returns-clause-rests
returns-clause-rests c = λ over fits rest.
    let flat = c.args.flat.now in
    let sim = c.args.self.now in
    let mid = c.tell_net.new.self.memo in
    let memo = c.evaluate_net.new.self.memo in
    let fresh = subst (λ (l : List Gift). All (IsGivenFresh memo) l) c.given_to-gifts.ensures c.evaluate_net.ensures.has in
    let now = net-now flat over sim c.evaluate_net.ensures.arena c.requires.flat fits c.args.low c.requires.low memo c.evaluate_net.ensures.right fresh
    c.tell_net.new.self.told.items (c.tell_net.ensures.len ∙ ap (λ (v : Vec (Option Bit) Global). length v.items) c.evaluate_net.ensures.told)
    (subst (λ (l : List Gift). IsToldOf l memo.values.items sim.env.stim l c.tell_net.new.self.told.items) c.given_to-gifts.ensures c.tell_net.ensures.told)
    c.take_net.new.env.present c.take_net.ensures.rows in
    let new : Sim = record { tables = sim.tables; links = sim.links; env = c.take_net.new.env; work = c.take_net.new.self; waiting = c.take_net.new.waiting; steps = c.saturating_add-self.result } in
    turn-rests flat over sim new c.evaluate_net.ensures.arena c.requires.flat fits c.args.low c.tell_net.new.self.told.items mid
    (subst (λ (m : Memo). StayFresh sim.work.memo m) (sym c.tell_net.ensures.memo) c.evaluate_net.ensures.stay)
    (subst (λ (m : Memo). All (IsGivenFresh m) (own_gifts sim c.args.low)) (sym c.tell_net.ensures.memo) fresh)
    c.take_net.ensures.memo
    (record {
      rows = c.take_net.ensures.rows;
      previous = c.take_net.ensures.previous;
      stim = c.take_net.ensures.stim;
      chosen = c.take_net.ensures.chosen;
      sampled = c.take_net.ensures.sampled;
      unread = c.take_net.ensures.unread;
      forgotten = c.take_net.ensures.forgotten;
    })
    refl now rest
