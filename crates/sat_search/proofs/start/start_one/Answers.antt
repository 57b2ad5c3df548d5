use Rattle.std.proofs.Common.{◌≡◌, ◌≢◌, ◌<◌, ◌+◌, ℕ, List, length, map, sym, subst, arith, Some, None, Option}
use Rattle.std.specs.List.{Contains}
use Rattle.cnf.specs.declared.Dim.{Dim}
use Rattle.refute_check.specs.Accepted.{clause_at}
use Rattle.sat_state.specs.declared.watch.Pair.{Pair}
use Rattle.sat_state.specs.declared.watch.Watch.{Watch}
use Rattle.sat_state.specs.Watch.{rows, with_pair}
use Rattle.sat_search.specs.Start.{IsStarted, IsTwoOf}
use Rattle.sat_search.proofs.Starts.{started_pair, started_keep, started_force}
use Rattle.std.proofs.lemmas.Result.{IfOk-from_err}
use Rattle.sat_search.proofs.start.start_one.Goals as goal

pub returns-in_ok-watch_pair-in-Some-clause-started : goal.returns-in_ok-watch_pair-in-Some-clause-started
returns-in_ok-watch_pair-in-Some-clause-started c =
    let vars = length c.args.trail.now.values in
    let db : List (List Dim) = c.args.store.now in
    let k = c.args.k in
    let p = c.in-Some.pair in
    let lt : k < length db = c.requires.k in
    let has : (p.a ≢ p.b) × Contains (clause_at db k) p.a × Contains (clause_at db k) p.b =
    subst (λ (l : List Dim). (p.a ≢ p.b) × Contains l p.a × Contains l p.b) c.clause.ensures c.in-Some.ensures in
    subst (λ (r : List (List Watch)). IsStarted vars db (k + 1) c.watch_pair.new.pairs.items r c.args.trail.now c.args.found) (sym c.in_ok-watch_pair-in-Some.ensures.lists)
    (subst (λ (q : List Pair). IsStarted vars db (k + 1) q (with_pair (rows c.args.lists.now) p k) c.args.trail.now c.args.found) (sym c.in_ok-watch_pair-in-Some.ensures.pairs)
    (started_pair vars db k c.args.pairs.now.items (rows c.args.lists.now) c.args.trail.now c.args.found p lt c.requires.width has.1 has.2 has.0 c.requires.started))

pub returns-in-Some-found-clause-started : goal.returns-in-Some-found-clause-started
returns-in-Some-found-clause-started c =
    let vars = length c.args.trail.now.values in
    let db : List (List Dim) = c.args.store.now in
    let k = c.args.k in
    let lt : k < length db = c.requires.k in
    let old : IsStarted vars db k c.args.pairs.now.items (rows c.args.lists.now) c.args.trail.now (Some c.in-Some-found.j) =
    subst (λ (o : Option ℕ). IsStarted vars db k c.args.pairs.now.items (rows c.args.lists.now) c.args.trail.now o) c.in-Some-found.is c.requires.started in
    subst (λ (q : List Pair). IsStarted vars db (k + 1) q (rows c.args.lists.now) c.args.trail.now (Some c.in-Some-found.j)) (sym c.in_ok-push-in-None.ensures.items)
    (started_keep vars db k c.in-Some-found.j c.args.pairs.now.items (rows c.args.lists.now) c.args.trail.now c.no_two.result lt c.no_two.ensures old)

pub returns-in_ok-forced-in-None-found-clause-started : goal.returns-in_ok-forced-in-None-found-clause-started
returns-in_ok-forced-in-None-found-clause-started c =
    let vars = length c.args.trail.now.values in
    let db : List (List Dim) = c.args.store.now in
    let k = c.args.k in
    let lt : k < length db = c.requires.k in
    let old : IsStarted vars db k c.args.pairs.now.items (rows c.args.lists.now) c.args.trail.now None =
    subst (λ (o : Option ℕ). IsStarted vars db k c.args.pairs.now.items (rows c.args.lists.now) c.args.trail.now o) c.in-None-found.is c.requires.started in
    subst (λ (q : List Pair). IsStarted vars db (k + 1) q (rows c.args.lists.now) c.force.new.trail c.in_ok-forced-in-None-found.forced) (sym c.in_ok-push-in-None.ensures.items)
    (started_force vars db k c.args.pairs.now.items (rows c.args.lists.now) c.args.trail.now c.force.new.trail c.in_ok-forced-in-None-found.forced c.no_two.result lt c.no_two.ensures
    c.in_ok-forced-in-None-found.ensures.forced c.in_ok-forced-in-None-found.ensures.width c.in_ok-forced-in-None-found.ensures.grown c.in_ok-forced-in-None-found.ensures.found old)

pub returns-in_err-watch_pair-in-Some : goal.returns-in_err-watch_pair-in-Some
returns-in_err-watch_pair-in-Some c =
    let e = c.from_residual.ensures.0 in
    record {
      width = IfOk-from_err _ _ e;
      started = IfOk-from_err _ _ e;
    }

pub returns-in_err-push-in-None : goal.returns-in_err-push-in-None
returns-in_err-push-in-None c =
    let e = c.from_residual-in_err-push-in-None.ensures.0 in
    record {
      width = IfOk-from_err _ _ e;
      started = IfOk-from_err _ _ e;
    }

pub returns-in_err-forced-in-None-found : goal.returns-in_err-forced-in-None-found
returns-in_err-forced-in-None-found c =
    let e = c.from_residual-in_err-forced-in-None-found.ensures.0 in
    record {
      width = IfOk-from_err _ _ e;
      started = IfOk-from_err _ _ e;
    }
