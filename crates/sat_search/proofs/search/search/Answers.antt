use Rattle.std.proofs.Common.{◌≡◌, ◌+◌, ℕ, length, sym, ◌∙◌, refl, subst, ap, arith, None}
use Rattle.std.specs.List.{All}
use Rattle.std.proofs.lemmas.Option.{MatchOption-at_none, MatchOption-at_some}
use Rattle.std.proofs.lemmas.Result.{IfOk-from_err}
use Rattle.cnf.specs.Clauses.{valuation}
use Rattle.sat_state.specs.Lists.{TrailLists}
use Rattle.sat_state.specs.Trail.{IsQuiet, Tracks}
use Rattle.sat_state.specs.Watch.{AllHalf, IsCalm, rows}
use Rattle.sat_search.specs.Walk.{before}
use Rattle.sat_search.specs.Lesson.{IsReady}
use Rattle.sat_search.proofs.Kept.{ready_here}
use Rattle.sat_search.proofs.Watches.{calm_quiet}
use Rattle.sat_search.proofs.Steps.{sound_decided}
use Rattle.sat_search.proofs.Rests.{one_longer}
use Rattle.sat_search.proofs.Rows.{half_decided, was_decided}
use Rattle.sat_search.proofs.search.search.Goals as goal

pub loop-k-init : goal.loop-k-init
loop-k-init c = record { ready = c.requires.ready; half = c.requires.half }

pub propagate-requires : goal.propagate-requires
propagate-requires c = record {
  ready = ready_here (length c.args.trail.now.values) c.args.store.now c.loop-k.pairs (rows c.loop-k.lists) c.loop-k.trail c.loop-k.invariant.ready;
  half = c.loop-k.invariant.half;
}

pub returns-in-Some : goal.returns-in-Some
returns-in-Some c = record {
  ready = subst (λ (n : ℕ). IsReady n c.args.store.now c.propagate.new.pairs (rows c.propagate.new.lists) c.propagate.new.trail) c.loop-k.invariant.ready.width c.in_ok-k.ensures.ready;
  found = MatchOption-at_some _ _ _ c.in-Some.is c.in_ok-k.ensures.found;
}

pub returns-in-None-choose : goal.returns-in-None-choose
returns-in-None-choose c =
    let db = c.args.store.now in
    let pairs = c.propagate.new.pairs in
    let ready = subst (λ (n : ℕ). IsReady n db pairs (rows c.propagate.new.lists) c.propagate.new.trail) c.loop-k.invariant.ready.width c.in_ok-k.ensures.ready in
    let calm : IsCalm db pairs (valuation c.propagate.new.trail.values) = MatchOption-at_none _ _ c.in-None.is c.in_ok-k.ensures.found in
    record {
      ready = subst (λ (t : TrailLists). IsReady (length c.args.trail.now.values) db pairs (rows c.propagate.new.lists) t) (sym c.choose.ensures.unchanged) ready;
      found = subst (λ (t : TrailLists). IsQuiet db (valuation t.values) × All (λ o. o ≡ None → ⊥) t.values) (sym c.choose.ensures.unchanged)
          (calm_quiet db pairs (valuation c.propagate.new.trail.values) calm, c.in-None-choose.ensures.open);
    }

pub assign-requires-clause-tracks : goal.assign-requires-clause-tracks
assign-requires-clause-tracks c = subst (λ (t : TrailLists). Tracks t.values t.entries) (sym c.choose.ensures.unchanged) c.in_ok-k.ensures.ready.sound.tracks

pub loop-k-preserved : goal.loop-k-preserved
loop-k-preserved c =
    let db = c.args.store.now in
    let pairs = c.propagate.new.pairs in
    let rows_now = rows c.propagate.new.lists in
    let C = c.choose.new.self in
    let same = sym c.choose.ensures.unchanged in
    let calm0 : IsCalm db pairs (valuation c.propagate.new.trail.values) = MatchOption-at_none _ _ c.in-None.is c.in_ok-k.ensures.found in
    let calm : IsCalm db pairs (valuation C.values) = subst (λ (t : TrailLists). IsCalm db pairs (valuation t.values)) same calm0 in
    let ready : IsReady (length c.args.trail.now.values) db pairs rows_now C = subst (λ (t : TrailLists). IsReady (length c.args.trail.now.values) db pairs rows_now t) same
    (subst (λ (n : ℕ). IsReady n db pairs rows_now c.propagate.new.trail) c.loop-k.invariant.ready.width c.in_ok-k.ensures.ready) in
    let more = c.in_ok-assign-in-Some-choose.ensures.entries in
    let tracks2 = c.in_ok-assign-in-Some-choose.ensures.tracks in
    let long : length c.assign.new.self.entries ≡ length C.entries + 1 = one_longer C.entries c.assign.new.self.entries _ more in
    let at : length c.entries-next.result.now ≡ length C.entries = ap length c.entries-next.ensures in
    record {
      ready = record {
        below = ready.below;
        sound = sound_decided db C.values c.assign.new.self.values C.entries c.assign.new.self.entries _ ready.sound (calm_quiet db pairs (valuation C.values) calm) refl tracks2 more;
        width = c.in_ok-assign-in-Some-choose.ensures.width ∙ ready.width;
        paired = ready.paired;
        filed = ready.filed;
        listed = ready.listed;
        was = was_decided db pairs C.values C.entries c.assign.new.self.entries _ ready.sound.tracks more calm ready.was;
      };
      half = record {
        range = omega arith;
        half = subst (λ (n : ℕ). AllHalf db pairs (before c.assign.new.self.entries n) (valuation c.assign.new.self.values)) (sym at)
            (half_decided db pairs C.values c.assign.new.self.values C.entries c.assign.new.self.entries _ ready.sound.tracks tracks2 more calm);
      };
    }

pub returns-in_err-k : goal.returns-in_err-k
returns-in_err-k c =
    let e = c.from_residual.ensures.0 in
    record { ready = IfOk-from_err _ _ e; found = IfOk-from_err _ _ e }

pub returns-in_err-assign-in-Some-choose : goal.returns-in_err-assign-in-Some-choose
returns-in_err-assign-in-Some-choose c =
    let e = c.from_residual-in_err-assign-in-Some-choose.ensures.0 in
    record { ready = IfOk-from_err _ _ e; found = IfOk-from_err _ _ e }
