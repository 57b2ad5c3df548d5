use Rattle.std.proofs.Common.{rules, ◌≡◌, ◌<◌, ◌+◌, ℕ, length, List, map, sym, ◌∙◌, refl, subst, ap, arith, [], ◌∷◌, ◌++◌, length-append, Option}
use Rattle.std.specs.Prelude.{IfSome, IfNone}
use Rattle.std.proofs.lemmas.Option.{MatchOption-at_none}
use Rattle.cnf.specs.Formula.{formula_of}
use Rattle.cnf.specs.Clauses.{AllBelow, valuation}
use Rattle.refute_check.specs.Entry.{Entry}
use Rattle.refute_check.specs.Accepted.{IsAccepted, IsDerived}
use Rattle.refute_check.specs.Fresh.{IsFresh, IsNew}
use Rattle.sat_state.specs.Trail.{IsQuiet, all_of}
use Rattle.sat_state.specs.Watch.{rows}
use Rattle.sat_search.specs.Lesson.{IsReady, IsHalfway, IsLast}
use Rattle.std.proofs.lemmas.List.{append-nil}
use Rattle.cnf.specs.declared.Dim.{Dim}
use Rattle.sat_search.proofs.Learned.{known_push}
use Rattle.sat_search.proofs.Kept.{ready_here}
use Rattle.sat_core.proofs.Ends.{fresh_push, accepted_push, sat_end, spent, within_more}
use Rattle.sat_search.proofs.Restarts.{restarted}
use Rattle.std.proofs.lemmas.Result.{IfOk-from_err}
use Rattle.sat_core.proofs.whole.learn_all.Goals as goal

pub conflicts-init : goal.conflicts-init
conflicts-init c =
    let vars = length c.args.trail.now.values in
    let db = c.args.store.now in
    let none : [] ≡ c.args.steps.now.items = sym c.requires.steps in
    let fresh : IsFresh (formula_of vars db) [] 0 = record { count = refl; each = λ k lt. absurd (omega (arith, lt)) } in
    record {
      store = sym (append-nil db) ∙ ap (all_of db) none;
      ready = c.requires.ready;
      state = c.requires.found;
      fresh = subst (λ (t : List Entry). IsFresh (formula_of vars db) t (length t)) none fresh;
      within = subst (λ (t : List Entry). IfSome c.args.budget (λ n. length t < n)) none c.requires.budget;
    }

pub conflict_of-requires-clause-ready : goal.conflict_of-requires-clause-ready
conflict_of-requires-clause-ready c = ready_here (length c.args.trail.now.values) c.conflicts.store c.conflicts.pairs.items (rows c.conflicts.lists) c.conflicts.trail c.conflicts.invariant.ready

pub returns-in-None : goal.returns-in-None
returns-in-None c =
    let cl = c.args.store.now in
    let values = c.conflict_of.new.trail.values in
    let wide : length values ≡ length c.args.trail.now.values = c.in_ok-conflict_of.ensures.ready.width ∙ c.conflicts.invariant.ready.width in
    let below : AllBelow (length values) cl = subst (λ (m : ℕ). AllBelow m cl) (sym wide) c.requires.ready.below in
    let quiet = MatchOption-at_none _ _ c.in-None.is c.in_ok-conflict_of.ensures.found in
    let quieted : IsQuiet (all_of c.args.store.now c.conflicts.steps.items) (valuation values) = subst (λ (db : List (List Dim)). IsQuiet db (valuation values)) c.conflicts.invariant.store quiet.0 in
    let done = sat_end values cl c.conflicts.steps.items c.in_ok-solution-in-None.field-0.items quieted quiet.1 below (c.in_ok-solution-in-None.ensures ∙ ap (map _) c.values.ensures) in
    (done.0 ∙ wide, done.1)

pub returns-in-None-2 : goal.returns-in-None-2
returns-in-None-2 c =
    let vars = length c.args.trail.now.values in
    let cl = c.args.store.now in
    let formula = formula_of vars cl in
    let wide : length c.conflict_of.new.trail.values ≡ vars = c.in_ok-conflict_of.ensures.ready.width ∙ c.conflicts.invariant.ready.width in
    let log = c.conflicts.steps.items in
    let s : Entry = c.in_ok-lesson-in-Some.lesson.step in
    let end : IsLast (length c.conflict_of.new.trail.values) c.conflicts.store s =
    subst (λ (o : Option ℕ). IfNone o (IsLast (length c.conflict_of.new.trail.values) c.conflicts.store s)) (sym c.in_ok-keep-in-Some.ensures.next ∙ c.in-None-2.is) c.in_ok-lesson-in-Some.ensures.refuted in
    let derived : IsDerived vars (all_of cl log) s = subst (λ (db : List (List Dim)). IsDerived vars db s) c.conflicts.invariant.store (subst (λ (m : ℕ). IsDerived m c.conflicts.store s) wide end.1) in
    subst (λ (t : List Entry). IsAccepted formula t) (sym c.in_ok-keep-in-Some.ensures.step) (accepted_push formula log s c.conflicts.invariant.fresh derived end.0)

pub returns-then-is_spent : goal.returns-then-is_spent
returns-then-is_spent c =
    let vars = length c.args.trail.now.values in
    let cl = c.args.store.now in
    let formula = formula_of vars cl in
    let log = c.conflicts.steps.items in
    let wide : length c.conflict_of.new.trail.values ≡ vars = c.in_ok-conflict_of.ensures.ready.width ∙ c.conflicts.invariant.ready.width in
    let s : Entry = c.in_ok-lesson-in-Some.lesson.step in
    let step : c.keep.new.steps.items ≡ log ++ s ∷ [] = c.in_ok-keep-in-Some.ensures.step in
    let taught : IsNew (length c.conflict_of.new.trail.values) c.conflicts.store s =
    subst (λ (o : Option ℕ). IfSome o (λ _. IsNew (length c.conflict_of.new.trail.values) c.conflicts.store s)) (sym c.in_ok-keep-in-Some.ensures.next ∙ c.in-Some-2.is) c.in_ok-lesson-in-Some.ensures.learned in
    let new : IsNew vars (all_of cl log) s = subst (λ (db : List (List Dim)). IsNew vars db s) c.conflicts.invariant.store (subst (λ (m : ℕ). IsNew m c.conflicts.store s) wide taught) in
    let fresh2 : IsFresh formula c.keep.new.steps.items (length c.keep.new.steps.items) = subst (λ (t : List Entry). IsFresh formula t (length t)) (sym step) (fresh_push formula log s c.conflicts.invariant.fresh new) in
    let more : length c.keep.new.steps.items ≡ length log + 1 = ap length step ∙ length-append log (s ∷ []) in
    let len : c.len.result ≡ length c.keep.new.steps.items = search rules in
    spent c.args.budget formula c.keep.new.steps.items (length log) c.len.result fresh2 more len c.conflicts.invariant.within (c.if-is_spent.ensures.0 refl)

pub conflicts-preserved : goal.conflicts-preserved
conflicts-preserved c =
    let vars = length c.args.trail.now.values in
    let cl = c.args.store.now in
    let formula = formula_of vars cl in
    let log = c.conflicts.steps.items in
    let wide : length c.conflict_of.new.trail.values ≡ vars = c.in_ok-conflict_of.ensures.ready.width ∙ c.conflicts.invariant.ready.width in
    let s : Entry = c.in_ok-lesson-in-Some.lesson.step in
    let learned = c.in_ok-lesson-in-Some.ensures in
    let step : c.keep.new.steps.items ≡ log ++ s ∷ [] = c.in_ok-keep-in-Some.ensures.step in
    let taught : IsNew (length c.conflict_of.new.trail.values) c.conflicts.store s =
    subst (λ (o : Option ℕ). IfSome o (λ _. IsNew (length c.conflict_of.new.trail.values) c.conflicts.store s)) (sym c.in_ok-keep-in-Some.ensures.next ∙ c.in-Some-2.is) learned.learned in
    let grown : c.learn.new.store ≡ c.conflicts.store ++ s.clause ∷ [] =
    subst (λ (o : Option ℕ). IfSome o (λ _. c.learn.new.store ≡ c.conflicts.store ++ s.clause ∷ [])) (sym c.in_ok-keep-in-Some.ensures.next ∙ c.in-Some-2.is) learned.store in
    let new : IsNew vars (all_of cl log) s = subst (λ (db : List (List Dim)). IsNew vars db s) c.conflicts.invariant.store (subst (λ (m : ℕ). IsNew m c.conflicts.store s) wide taught) in
    let fresh2 : IsFresh formula c.keep.new.steps.items (length c.keep.new.steps.items) = subst (λ (t : List Entry). IsFresh formula t (length t)) (sym step) (fresh_push formula log s c.conflicts.invariant.fresh new) in
    let more : length c.keep.new.steps.items ≡ length log + 1 = ap length step ∙ length-append log (s ∷ []) in
    let len : c.len.result ≡ length c.keep.new.steps.items = search rules in
    let ready0 : IsReady (length c.conflict_of.new.trail.values) c.learn.new.store c.learn.new.pairs.items (rows c.learn.new.lists) c.learn.new.trail =
    subst (λ (o : Option ℕ). IfSome o (λ _. IsReady (length c.conflict_of.new.trail.values) c.learn.new.store c.learn.new.pairs.items (rows c.learn.new.lists) c.learn.new.trail)) (sym c.in_ok-keep-in-Some.ensures.next ∙ c.in-Some-2.is) learned.ready in
    let ready : IsReady vars c.learn.new.store c.learn.new.pairs.items (rows c.learn.new.lists) c.learn.new.trail =
    subst (λ (m : ℕ). IsReady m c.learn.new.store c.learn.new.pairs.items (rows c.learn.new.lists) c.learn.new.trail) wide ready0 in
    let half : IsHalfway c.learn.new.store c.learn.new.pairs.items c.learn.new.trail c.in-Some-2.place =
    subst (λ (o : Option ℕ). IfSome o (λ n. IsHalfway c.learn.new.store c.learn.new.pairs.items c.learn.new.trail n)) (sym c.in_ok-keep-in-Some.ensures.next ∙ c.in-Some-2.is) learned.half in
    let anew = restarted vars c.learn.new.store c.learn.new.pairs.items (rows c.learn.new.lists) c.learn.new.trail c.restart-from.new.trail c.in-Some-2.place c.restart-from.result ready half
    c.restart-from.ensures.tracks c.restart-from.ensures.width c.restart-from.ensures.back in
    record {
      store = grown ∙ ap (λ (db : List (List Dim)). db ++ s.clause ∷ []) c.conflicts.invariant.store ∙ sym (known_push cl log s) ∙ ap (all_of cl) (sym step);
      ready = anew.0;
      state = anew.1;
      fresh = fresh2;
      within = subst (λ (m : ℕ). IfSome c.args.budget (λ n. m < n)) len (within_more c.args.budget (length log) c.len.result (len ∙ more) c.conflicts.invariant.within c.if-is_spent.ensures.1);
    }

pub returns-in_err-conflict_of : goal.returns-in_err-conflict_of
returns-in_err-conflict_of c = IfOk-from_err _ _ c.from_residual.ensures.0

pub returns-in_err-solution-in-None : goal.returns-in_err-solution-in-None
returns-in_err-solution-in-None c = IfOk-from_err _ _ c.from_residual-in_err-solution-in-None.ensures.0

pub returns-in_err-lesson-in-Some : goal.returns-in_err-lesson-in-Some
returns-in_err-lesson-in-Some c = IfOk-from_err _ _ c.from_residual-in_err-lesson-in-Some.ensures.0

pub returns-in_err-keep-in-Some : goal.returns-in_err-keep-in-Some
returns-in_err-keep-in-Some c = IfOk-from_err _ _ c.from_residual-in_err-keep-in-Some.ensures.0
