use Rattle.std.proofs.lemmas.Result.{IfOk-from_err}
use Rattle.std.proofs.Common.{◌≡◌, ◌<◌, ◌∷◌, [], ◌++◌, length, Some, None, ap, sym, subst, ◌∙◌, arith, length-set, Option, Bool}
use Rattle.sat_state.specs.Lists.{TrailLists}
use Rattle.cnf.specs.Clauses.{valuation}
use Rattle.sat_state.specs.Trail.{Tracks, open_count}
use Rattle.sat_state.proofs.Trails.{tracks_push, open_fewer}
use Rattle.sat_state.proofs.Queues.{queue_assigned}
use Rattle.sat_state.proofs.trail.Trail.assign.Goals as goal

pub returns-in_err-push-clause-entries : goal.returns-in_err-push-clause-entries
returns-in_err-push-clause-entries c = IfOk-from_err _ _ c.from_residual.ensures.0

pub returns-in_err-push-clause-fewer : goal.returns-in_err-push-clause-fewer
returns-in_err-push-clause-fewer c = IfOk-from_err _ _ c.from_residual.ensures.0

pub returns-in_err-push-clause-tracks : goal.returns-in_err-push-clause-tracks
returns-in_err-push-clause-tracks c = IfOk-from_err _ _ c.from_residual.ensures.0

pub returns-in_err-push-clause-width : goal.returns-in_err-push-clause-width
returns-in_err-push-clause-width c = IfOk-from_err _ _ c.from_residual.ensures.0

pub index_mut-requires : goal.index_mut-requires
index_mut-requires c = omega (arith, c.requires.range, ap (λ (t : TrailLists). length t.values) c.self.view_is, c.self.inside.values.ok.0)

pub index_mut-requires-2 : goal.index_mut-requires-2
index_mut-requires-2 c = omega (arith, c.requires.range, ap (λ (t : TrailLists). length t.values) c.self.view_is, c.self.invariant.0, c.self.inside.levels.ok.0)

pub index_mut-requires-3 : goal.index_mut-requires-3
index_mut-requires-3 c = omega (arith, c.requires.range, ap (λ (t : TrailLists). length t.values) c.self.view_is, c.self.invariant.1, c.self.inside.phases.ok.0)

pub invariant_of-self : goal.invariant_of-self
invariant_of-self c = c.self.invariant

pub returns-clause-entries : goal.returns-clause-entries
returns-clause-entries c = c.in_ok-push.ensures.items ∙ ap (λ (t : TrailLists). t.entries ++ c.args.e ∷ []) c.self.view_is

pub returns-clause-tracks : goal.returns-clause-tracks
returns-clause-tracks c =
    let back = sym c.self.view_is in
    let e = c.args.e in
    rw c.in_ok-push.ensures.items (tracks_push c.self.inside.values.items c.self.inside.entries.items e
    (subst (λ (t : TrailLists). e.dim.var < length t.values) back c.requires.range)
    (subst (λ (t : TrailLists). valuation t.values e.dim.var ≡ None) back c.requires.open)
    (subst (λ (t : TrailLists). Tracks t.values t.entries) back c.requires.tracks))

pub returns-clause-width : goal.returns-clause-width
returns-clause-width c = length-set c.self.inside.values.items c.args.e.dim.var (Some c.args.e.dim.negated) ∙ ap (λ (t : TrailLists). length t.values) c.self.view_is

pub invariant_of-self-2 : goal.invariant_of-self-2
invariant_of-self-2 c =
    let inside = c.self.inside in
    let v = c.args.e.dim.var in
    let taken : Option Bool = Some c.args.e.dim.negated in
    let lt : v < length inside.values.items = subst (λ (t : TrailLists). v < length t.values) (sym c.self.view_is) c.requires.range in (
      length-set inside.levels.items v c.level_with-self-inside.result ∙ c.self.invariant.0 ∙ sym (length-set inside.values.items v taken),
      length-set inside.phases.items v c.args.e.dim.negated ∙ c.self.invariant.1 ∙ sym (length-set inside.values.items v taken),
      queue_assigned inside.values.items inside.queue.list.items inside.queue.stamps.items inside.queue.clock v inside.queue.next c.args.e.dim.negated lt c.self.invariant.2,
    )

pub returns-clause-fewer : goal.returns-clause-fewer
returns-clause-fewer c =
    let back = sym c.self.view_is in
    let e = c.args.e in
    open_fewer c.self.inside.values.items e.dim.var e.dim.negated
    (subst (λ (t : TrailLists). e.dim.var < length t.values) back c.requires.range)
    (subst (λ (t : TrailLists). valuation t.values e.dim.var ≡ None) back c.requires.open) ∙ ap (λ (t : TrailLists). open_count t.values) c.self.view_is
