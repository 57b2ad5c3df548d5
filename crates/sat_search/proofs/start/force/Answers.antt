use Rattle.std.proofs.Common.{◌≡◌, ◌<◌, List, [], length, map, refl, subst, ap, arith}
use Rattle.std.specs.List.{Contains}
use Rattle.std.proofs.lemmas.List.Elements.{All-contains}
use Rattle.cnf.specs.declared.Dim.{Dim}
use Rattle.cnf.specs.Clauses.{Valuation, valuation, IsUnit, IsConflict}
use Rattle.refute_check.specs.Accepted.{clause_at}
use Rattle.sat_search.specs.Start.{first_of}
use Rattle.sat_search.proofs.Rests.{below_assigned, now_assigned}
use Rattle.sat_search.proofs.Starts.{one_true, forced_push}
use Rattle.std.proofs.lemmas.Result.{IfOk-from_err}
use Rattle.sat_search.proofs.start.force.Goals as goal

pub assign-requires : goal.assign-requires
assign-requires c =
    let db = c.args.store.now in
    let d = c.in-Unit.d in
    let lt : c.args.k < length db = c.requires.k in
    let unit : IsUnit (valuation c.args.trail.now.values) (clause_at db c.args.k) d = subst (λ (a : Valuation). IsUnit a (clause_at db c.args.k) d) (ap valuation c.values.ensures)
    (subst (λ (l : List Dim). IsUnit (valuation c.values.result.now) l d) c.clause.ensures c.in-Unit.ensures) in
    record {
      range = All-contains (λ (x : Dim). x.var < length c.args.trail.now.values) (clause_at db c.args.k) d (c.requires.width c.args.k [] lt) unit.inside;
      tracks = c.requires.forced.sound.tracks;
      «open» = unit.opened;
    }

pub returns-in-Conflict : goal.returns-in-Conflict
returns-in-Conflict c =
    let cl = clause_at c.args.store.now c.args.k in
    record {
      forced = c.requires.forced;
      width = refl;
      grown = λ v t h. h;
      found = (refl, subst (λ (a : Valuation). IsConflict a cl) (ap valuation c.values.ensures) (subst (λ (l : List Dim). IsConflict (valuation c.values.result.now) l) c.clause.ensures c.in-Conflict.ensures));
    }

pub returns-in-Neither-clause-forced : goal.returns-in-Neither-clause-forced
returns-in-Neither-clause-forced c = c.requires.forced

pub returns-in-Neither-clause-width : goal.returns-in-Neither-clause-width
returns-in-Neither-clause-width c = refl

pub returns-in-Neither-clause-grown : goal.returns-in-Neither-clause-grown
returns-in-Neither-clause-grown c = λ v t h. h

pub returns-in_ok-assign-in-Unit-clause-width : goal.returns-in_ok-assign-in-Unit-clause-width
returns-in_ok-assign-in-Unit-clause-width c = c.in_ok-assign-in-Unit.ensures.width

pub returns-in_ok-assign-in-Unit-clause-forced : goal.returns-in_ok-assign-in-Unit-clause-forced
returns-in_ok-assign-in-Unit-clause-forced c =
    let db = c.args.store.now in
    let d = c.in-Unit.d in
    let lt : c.args.k < length db = c.requires.k in
    let unit : IsUnit (valuation c.args.trail.now.values) (clause_at db c.args.k) d = subst (λ (a : Valuation). IsUnit a (clause_at db c.args.k) d) (ap valuation c.values.ensures)
    (subst (λ (l : List Dim). IsUnit (valuation c.values.result.now) l d) c.clause.ensures c.in-Unit.ensures) in
    forced_push db c.args.trail.now c.assign.new.self c.args.k d _ c.requires.forced lt unit refl c.in_ok-assign-in-Unit.ensures.tracks c.in_ok-assign-in-Unit.ensures.entries

pub returns-in_ok-assign-in-Unit-clause-grown : goal.returns-in_ok-assign-in-Unit-clause-grown
returns-in_ok-assign-in-Unit-clause-grown c =
    below_assigned c.args.trail.now.values c.assign.new.self.values c.args.trail.now.entries c.assign.new.self.entries _ c.requires.forced.sound.tracks c.in_ok-assign-in-Unit.ensures.tracks c.in_ok-assign-in-Unit.ensures.entries

pub returns-in_ok-assign-in-Unit-clause-found : goal.returns-in_ok-assign-in-Unit-clause-found
returns-in_ok-assign-in-Unit-clause-found c =
    let cl = clause_at c.args.store.now c.args.k in (
      c.in-Unit.d,
      subst (λ (l : List Dim). Contains l c.in-Unit.d) c.clause.ensures c.in-Unit.ensures.inside,
      now_assigned c.assign.new.self.values c.args.trail.now.entries c.assign.new.self.entries _ c.in_ok-assign-in-Unit.ensures.tracks c.in_ok-assign-in-Unit.ensures.entries,
    )

pub returns-in-Neither-clause-found : goal.returns-in-Neither-clause-found
returns-in-Neither-clause-found c =
    let cl = clause_at c.args.store.now c.args.k in
    let see : valuation c.values.result.now ≡ valuation c.args.trail.now.values = ap valuation c.values.ensures in
    let neither : (IsConflict (valuation c.args.trail.now.values) cl → ⊥) × ((x : Dim) → IsUnit (valuation c.args.trail.now.values) cl x → ⊥) =
    subst (λ (a : Valuation). (IsConflict a cl → ⊥) × ((x : Dim) → IsUnit a cl x → ⊥)) see
    (subst (λ (l : List Dim). (IsConflict (valuation c.values.result.now) l → ⊥) × ((x : Dim) → IsUnit (valuation c.values.result.now) l x → ⊥)) c.clause.ensures c.in-Neither.ensures) in
    one_true (valuation c.args.trail.now.values) cl (first_of cl) c.requires.same neither.0 neither.1

pub returns-in_err-assign-in-Unit : goal.returns-in_err-assign-in-Unit
returns-in_err-assign-in-Unit c =
    let e = c.from_residual.ensures.0 in
    record {
      forced = IfOk-from_err _ _ e;
      width = IfOk-from_err _ _ e;
      grown = IfOk-from_err _ _ e;
      found = IfOk-from_err _ _ e;
    }
