use Rattle.std.proofs.Common.{◌≡◌, ◌<◌, inl, ◌+◌, ◌-◌, length, List, sym, ◌∙◌, subst, ap, arith, set, get_or, take, drop, reverse, ◌∷◌, [], ◌++◌, Some, None, ℕ, true, false}
use Rattle.std.specs.List.{All}
use Rattle.std.proofs.lemmas.List.{take_all}
use Rattle.std.proofs.lemmas.List.Elements.{All-take}
use Rattle.cnf.specs.declared.Dim.{Dim}
use Rattle.cnf.specs.Clauses.{AreBelow, Valuation, denied}
use Rattle.refute_check.specs.Accepted.{clause_at, Derives}
use Rattle.sat_state.specs.declared.trail.Assigned.{Assigned}
use Rattle.sat_state.specs.Trail.{IsApart, IsExplained, falses}
use Rattle.sat_state.proofs.Trails.{newest_push}
use Rattle.sat_search.specs.Learn.{Explains, IsTraced, seen_at}
use Rattle.sat_search.proofs.Steps.{trail_range, apart_front, explained_front, place_is, front_is, trace_pop, trace_resolve, reason_known}
use Rattle.sat_search.proofs.Rows.{dim_near}
use Rattle.std.proofs.lemmas.Result.{IfOk-from_err}
use Rattle.sat_search.proofs.learn.trace.Goals as goal
use Rattle.sat_search.proofs.learn.trace.Goals.{then-seen-e+in_ok-note+else-count-le1+in-Some+in_ok-push-in-Some, else-seen-e}

abbrev no_assigned : Assigned
no_assigned = record { dim = record { var = 0; negated = false }; reason = None }

pub bounds-seen-e : goal.bounds-seen-e
bounds-seen-e c =
    let wide : length c.loop-i.seen ≡ length c.args.trail.now.values = c.loop-i.auto.seen ∙ c.mark-count.auto.seen ∙ c.requires.seen in
    subst (λ (n : ℕ). (get_or c.entries-entries.result.now (c.loop-i.i - 1) no_assigned).dim.var < n) (sym wide)
    (dim_near (length c.args.trail.now.values) (c.loop-i.i - 1) c.args.trail.now.entries c.entries-entries.result.now no_assigned c.entries-entries.ensures c.requires.sound.tracks.apart (omega (arith, c.loop-i-test.true, c.loop-i.invariant.range)))

pub is_alone-requires : goal.is_alone-requires
is_alone-requires c =
    let vars = length c.args.trail.now.values in
    let wide : length c.loop-i.seen ≡ vars = c.loop-i.auto.seen ∙ c.mark-count.auto.seen ∙ c.requires.seen in
    subst (λ (n : ℕ). All (λ e. e.dim.var < n) (take c.loop-i.i c.entries-entries.result.now)) (sym wide)
    (subst (λ (t : List Assigned). All (λ e. e.dim.var < vars) (take c.loop-i.i t)) (sym c.entries-entries.ensures)
    (All-take (λ e. e.dim.var < vars) c.loop-i.i c.args.trail.now.entries (trail_range vars c.args.trail.now.entries c.requires.sound.tracks.apart)))

pub clause-requires-in-Some : goal.clause-requires-in-Some
clause-requires-in-Some c =
    let db = c.args.store.now in
    let entries = c.args.trail.now.entries in
    let k = c.loop-i.i - 1 in
    let lt : k < length entries = omega (arith, c.loop-i-test.true, c.loop-i.invariant.range) in
    let x : Assigned = get_or entries k no_assigned in
    let why : x.reason ≡ Some c.in-Some.r = subst (λ (t : List Assigned). (get_or t k no_assigned).reason ≡ Some c.in-Some.r) c.entries-entries.ensures c.in-Some.is in
    reason_known db (take (k + 1) entries) (take k entries) x c.in-Some.r (explained_front db entries (take (k + 1) entries) (drop (k + 1) entries) (front_is entries (k + 1)) c.requires.sound.explained) (place_is entries k no_assigned lt) why

pub mark-count-requires : goal.mark-count-requires
mark-count-requires c = record {
  range = subst (λ (cl : List Dim). AreBelow (length c.args.seen.now) cl) (sym c.clause.ensures)
      (subst (λ (n : ℕ). AreBelow n (clause_at c.args.store.now c.args.conflict)) (sym c.requires.seen) (c.requires.width c.args.conflict [] c.requires.known));
  width = c.requires.seen;
}

pub loop-i-init : goal.loop-i-init
loop-i-init c =
    let db = c.args.store.now in
    let entries = c.args.trail.now.entries in
    let long : length c.entries-entries.result.now ≡ length entries = ap length c.entries-entries.ensures in
    let whole : take (length c.entries-entries.result.now) entries ≡ entries = take_all (length c.entries-entries.result.now) entries (omega (arith, long)) in
    let hints : c.push.new.self.items ≡ c.args.conflict ∷ [] = c.in_ok-push.ensures.items ∙ ap (λ (l : List ℕ). l ++ c.args.conflict ∷ []) c.requires.hints in
    let marked : All (λ d. seen_at c.mark-count.new.seen d.var ≡ true) (clause_at db c.args.conflict) =
    subst (λ (cl : List Dim). All (λ d. seen_at c.mark-count.new.seen d.var ≡ true) cl) c.clause.ensures c.mark-count.ensures.marked in
    record {
      range = omega (arith, long);
      explains = λ a below same. subst (λ (hs : List ℕ). Derives db a (reverse hs)) (sym hints) (
        c.requires.known,
        λ j e jl. same (get_or (clause_at db c.args.conflict) j e).var (marked j e jl) ∙ ap (λ (t : List Assigned). denied (falses t) (get_or (clause_at db c.args.conflict) j e).var) whole
            ∙ ap (λ (v : Valuation). v (get_or (clause_at db c.args.conflict) j e).var) (sym c.requires.sound.tracks.same) ∙ c.requires.conflict j e jl,
      );
    }

pub mark-more-requires : goal.mark-more-requires
mark-more-requires c =
    let db = c.args.store.now in
    let entries = c.args.trail.now.entries in
    let k = c.loop-i.i - 1 in
    let lt : k < length entries = omega (arith, c.loop-i-test.true, c.loop-i.invariant.range) in
    let x : Assigned = get_or entries k no_assigned in
    let why : x.reason ≡ Some c.in-Some.r = subst (λ (t : List Assigned). (get_or t k no_assigned).reason ≡ Some c.in-Some.r) c.entries-entries.ensures c.in-Some.is in
    let known : c.in-Some.r < length db =
    reason_known db (take (k + 1) entries) (take k entries) x c.in-Some.r (explained_front db entries (take (k + 1) entries) (drop (k + 1) entries) (front_is entries (k + 1)) c.requires.sound.explained) (place_is entries k no_assigned lt) why in
    let wide : length c.loop-i.seen ≡ length c.args.trail.now.values = c.loop-i.auto.seen ∙ c.mark-count.auto.seen ∙ c.requires.seen in
    record {
      range = subst (λ (cl : List Dim). AreBelow (length c.loop-i.seen) cl) (sym c.clause-in-Some.ensures)
          (subst (λ (n : ℕ). AreBelow n (clause_at db c.in-Some.r)) (sym wide) (c.requires.width c.in-Some.r [] known));
      width = wide;
    }

pub loop-i-preserved : goal.loop-i-preserved
loop-i-preserved c =
    let db = c.args.store.now in
    let vars = length c.args.trail.now.values in
    let entries = c.args.trail.now.entries in
    let k = c.loop-i.i - 1 in
    let lt : k < length entries = omega (arith, c.loop-i-test.true, c.loop-i.invariant.range) in
    let x : Assigned = get_or entries k no_assigned in
    let old = take (k + 1) entries in
    let apart : IsApart vars (reverse old) = apart_front vars entries old (drop (k + 1) entries) (front_is entries (k + 1)) c.requires.sound.tracks.apart in
    let explained : IsExplained db (reverse old) = explained_front db entries old (drop (k + 1) entries) (front_is entries (k + 1)) c.requires.sound.explained in
    let place = place_is entries k no_assigned lt in
    let here : c.loop-i.i ≡ k + 1 = omega (arith, c.loop-i-test.true) in
    let h : Explains db (reverse old) c.loop-i.seen c.loop-i.hints.items = subst (λ (n : ℕ). Explains db (reverse (take n entries)) c.loop-i.seen c.loop-i.hints.items) here c.loop-i.invariant.explains in
    let same : get_or c.entries-entries.result.now k no_assigned ≡ x = ap (λ (t : List Assigned). get_or t k no_assigned) c.entries-entries.ensures in
    elim c.if-seen-e.branch [
      | then-seen-e+in_ok-note+else-count-le1+in-Some+in_ok-push-in-Some w ↦
          let r = w.in-Some.r in
          let why : x.reason ≡ Some r = ap (λ (y : Assigned). y.reason) (sym same) ∙ w.in-Some.is in
          let marked : All (λ d. seen_at w.mark-more.new.seen d.var ≡ true) (clause_at db r) =
          subst (λ (cl : List Dim). All (λ d. seen_at w.mark-more.new.seen d.var ≡ true) cl) w.clause-in-Some.ensures w.mark-more.ensures.marked in
          let explains = trace_resolve db vars old (take k entries) x c.loop-i.seen w.mark-more.new.seen c.loop-i.hints.items r apart explained place why w.mark-more.ensures.more marked h in
          rw (w.seen-is, w.hints-is) (record {
            range = omega (arith, c.loop-i.invariant.range);
            explains = subst (λ (hs : List ℕ). Explains db (reverse (take k entries)) (set w.mark-more.new.seen (get_or c.entries-entries.result.now k no_assigned).dim.var false) hs) (sym w.in_ok-push-in-Some.ensures.items)
                (subst (λ (y : Assigned). Explains db (reverse (take k entries)) (set w.mark-more.new.seen y.dim.var false) (c.loop-i.hints.items ++ r ∷ [])) (sym same) explains);
          })
      | else-seen-e w ↦ rw (w.seen-is, w.hints-is) (record {
        range = omega (arith, c.loop-i.invariant.range);
        explains = trace_pop db vars old (take k entries) x c.loop-i.seen c.loop-i.hints.items apart place (ap (λ (y : Assigned). seen_at c.loop-i.seen y.dim.var) (sym same) ∙ w.if-seen-e.false) h;
      })
    ]

pub returns-in_err-push : goal.returns-in_err-push
returns-in_err-push c =
    let e = c.from_residual.ensures.0 in
    record {
      range = IfOk-from_err _ _ e;
      explains = IfOk-from_err _ _ e;
      traced = IfOk-from_err _ _ e;
    }

pub returns-in_err-note : goal.returns-in_err-note
returns-in_err-note c =
    let e = c.from_residual-in_err-note.ensures.0 in
    record {
      range = IfOk-from_err _ _ e;
      explains = IfOk-from_err _ _ e;
      traced = IfOk-from_err _ _ e;
    }

pub returns-in_err-push-in-Some : goal.returns-in_err-push-in-Some
returns-in_err-push-in-Some c =
    let e = c.from_residual-in_err-push-in-Some.ensures.0 in
    record {
      range = IfOk-from_err _ _ e;
      explains = IfOk-from_err _ _ e;
      traced = IfOk-from_err _ _ e;
    }

pub returns-then-is_alone-clause-range : goal.returns-then-is_alone-clause-range
returns-then-is_alone-clause-range c = c.loop-i.invariant.range

pub returns-then-is_alone-clause-explains : goal.returns-then-is_alone-clause-explains
returns-then-is_alone-clause-explains c = c.loop-i.invariant.explains

pub returns-in-None-clause-range : goal.returns-in-None-clause-range
returns-in-None-clause-range c = c.loop-i.invariant.range

pub returns-in-None-clause-explains : goal.returns-in-None-clause-explains
returns-in-None-clause-explains c = c.loop-i.invariant.explains

pub returns-in-None-clause-traced : goal.returns-in-None-clause-traced
returns-in-None-clause-traced c =
    let entries = c.args.trail.now.entries in
    let k = c.loop-i.i - 1 in
    let lt : k < length entries = omega (arith, c.loop-i-test.true, c.loop-i.invariant.range) in
    let here : c.loop-i.i ≡ k + 1 = omega (arith, c.loop-i-test.true) in
    let x : Assigned = get_or entries k no_assigned in
    let same : get_or c.entries-entries.result.now k no_assigned ≡ x = ap (λ (t : List Assigned). get_or t k no_assigned) c.entries-entries.ensures in
    let newest : reverse (take c.loop-i.i entries) ≡ x ∷ reverse (take k entries) =
    ap (λ (n : ℕ). reverse (take n entries)) here ∙ ap (λ (t : List Assigned). reverse t) (place_is entries k no_assigned lt) ∙ newest_push (take k entries) x in
    let marked : seen_at c.loop-i.seen x.dim.var ≡ true = ap (λ (y : Assigned). seen_at c.loop-i.seen y.dim.var) (sym same) ∙ c.if-seen-e.true in
    let none : x.reason ≡ None = ap (λ (y : Assigned). y.reason) (sym same) ∙ c.in-None.is in
    subst (λ (t : List Assigned). IsTraced c.loop-i.seen t) (sym newest) (marked, inl none)

pub returns-clause-explains : goal.returns-clause-explains
returns-clause-explains c =
    let end : c.loop-i.i ≡ 0 = omega (arith, c.loop-i-test.false) in
    subst (λ (n : ℕ). Explains c.args.store.now (reverse (take n c.args.trail.now.entries)) c.loop-i.seen c.loop-i.hints.items) end c.loop-i.invariant.explains
