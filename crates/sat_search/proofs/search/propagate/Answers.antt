use Rattle.std.proofs.Common.{ℕ, ◌≤◌, length, ap, subst, refl, arith}
use Rattle.std.proofs.lemmas.Option.{MatchOption-at_none, MatchOption-at_some}
use Rattle.std.proofs.lemmas.Result.{IfOk-from_err}
use Rattle.sat_state.specs.Watch.{rows}
use Rattle.sat_search.specs.Lesson.{IsReady}
use Rattle.sat_search.proofs.Kept.{ready_here, fuller_then}
use Rattle.sat_search.proofs.Rows.{calm_end}
use Rattle.sat_search.proofs.search.propagate.Goals as goal

pub loop-at-init : goal.loop-at-init
loop-at-init c = record { ready = c.requires.ready; half = c.requires.half; fuller = record { longer = omega arith; filled = refl } }

pub look_through-requires-clause-ready : goal.look_through-requires-clause-ready
look_through-requires-clause-ready c = ready_here (length c.args.trail.now.values) c.args.store.now c.loop-at.pairs (rows c.loop-at.lists) c.loop-at.trail c.loop-at.invariant.ready

pub look_through-requires-clause-half : goal.look_through-requires-clause-half
look_through-requires-clause-half c = c.loop-at.invariant.half

pub loop-at-preserved : goal.loop-at-preserved
loop-at-preserved c = record {
  ready = subst (λ (n : ℕ). IsReady n c.args.store.now c.look_through.new.pairs (rows c.look_through.new.lists) c.look_through.new.trail) c.loop-at.invariant.ready.width c.in_ok-k.ensures.ready;
  half = MatchOption-at_none _ _ c.in-None.is c.in_ok-k.ensures.found;
  fuller = fuller_then _ _ _ c.loop-at.invariant.fuller c.in_ok-k.ensures.fuller;
}

pub returns-in-Some : goal.returns-in-Some
returns-in-Some c = record {
  ready = subst (λ (n : ℕ). IsReady n c.args.store.now c.look_through.new.pairs (rows c.look_through.new.lists) c.look_through.new.trail) c.loop-at.invariant.ready.width c.in_ok-k.ensures.ready;
  fuller = fuller_then _ _ _ c.loop-at.invariant.fuller c.in_ok-k.ensures.fuller;
  found = MatchOption-at_some _ _ _ c.in-Some.is c.in_ok-k.ensures.found;
}

pub returns-clause-found : goal.returns-clause-found
returns-clause-found c =
    let len = ap length c.entries.ensures in
    let end : length c.loop-at.trail.entries ≤ c.loop-at.at = omega (arith, len, c.loop-at-test.false) in
    calm_end c.args.store.now c.loop-at.pairs c.loop-at.trail.values c.loop-at.trail.entries c.loop-at.at end c.loop-at.invariant.ready.sound.tracks c.loop-at.invariant.half.half

pub returns-in_err-k : goal.returns-in_err-k
returns-in_err-k c =
    let e = c.from_residual.ensures.0 in
    record {
      ready = IfOk-from_err _ _ e;
      fuller = IfOk-from_err _ _ e;
      found = IfOk-from_err _ _ e;
    }
