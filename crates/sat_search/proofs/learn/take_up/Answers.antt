use Rattle.std.proofs.Common.{◌≡◌, ℕ, ◌<◌, ◌+◌, ◌-◌, ◌*◌, ◌∷◌, ◌++◌, [], ◌∙◌, length, List, get_or, sym, subst, refl, ap, arith, None, Some}
use Rattle.std.specs.List.{All}
use Rattle.std.proofs.lemmas.List.Elements.{All-weaker}
use Rattle.std.proofs.lemmas.Result.{IfOk-from_err}
use Rattle.cnf.specs.declared.Dim.{Dim}
use Rattle.cnf.specs.Clauses.{negate, valuation}
use Rattle.refute_check.specs.Entry.{Entry}
use Rattle.sat_state.specs.declared.trail.Assigned.{Assigned}
use Rattle.sat_state.specs.declared.watch.Pair.{Pair}
use Rattle.sat_state.specs.Watch.{first_pair, rows, with_pair}
use Rattle.sat_search.specs.Learn.{no_assigned}
use Rattle.sat_search.specs.Lesson.{IsReady, IsHalfway}
use Rattle.sat_search.proofs.Learned.{taken_up}
use Rattle.sat_search.proofs.Rows.{dim_near, has_list}
use Rattle.sat_search.proofs.learn.take_up.Goals as goal

pub go_back-requires : goal.go_back-requires
go_back-requires c = record { some = c.requires.some; range = c.requires.range; seen = c.requires.seen; tracks = c.requires.ready.sound.tracks; traced = c.requires.taught.traced }

pub add_clause-requires-clause-room : goal.add_clause-requires-clause-room
add_clause-requires-clause-room c =
    let is : c.as_slice.result.now ≡ c.args.step.now.clause = c.as_slice.ensures.value ∙ ap (λ (y : Entry). y.clause) c.step.view_is in
    subst (λ (cl : List Dim). All (λ d. 2 * d.var + 1 < length c.args.lists.now) cl) (sym is)
    (All-weaker (λ (d : Dim). d.var < length c.args.trail.now.values) (λ (d : Dim). 2 * d.var + 1 < length c.args.lists.now)
    (λ d lt. has_list c.args.lists.now d.var (length c.args.trail.now.values) c.requires.ready.filed.count lt) c.args.step.now.clause c.requires.taught.new.derived.in_range)

pub assign-requires : goal.assign-requires
assign-requires c = record {
  range = subst (λ (n : ℕ). (get_or c.entries.result.now (c.args.left - 1) no_assigned).dim.var < n) (sym c.go_back.ensures.width)
      (dim_near (length c.args.trail.now.values) (c.args.left - 1) c.args.trail.now.entries c.entries.result.now no_assigned c.entries.ensures c.requires.ready.sound.tracks.apart (omega (arith, c.requires.some, c.requires.range)));
  tracks = c.go_back.ensures.tracks;
  «open» = subst (λ (t : List Assigned). valuation c.go_back.new.trail.values (get_or t (c.args.left - 1) no_assigned).dim.var ≡ None) (sym c.entries.ensures) c.go_back.ensures.open;
}

pub returns-clause-store : goal.returns-clause-store
returns-clause-store c = c.in_ok-reason.ensures.store ∙ ap (λ (cl : List Dim). c.args.store.now ++ cl ∷ []) (c.as_slice.ensures.value ∙ ap (λ (y : Entry). y.clause) c.step.view_is)

pub returns-clause-ready : goal.returns-clause-ready
returns-clause-ready c =
    let db = c.args.store.now in
    let s : Entry = c.args.step.now in
    let x : Assigned = get_or c.args.trail.now.entries (c.args.left - 1) no_assigned in
    let same : (get_or c.entries.result.now (c.args.left - 1) no_assigned).dim ≡ x.dim = ap (λ (t : List Assigned). (get_or t (c.args.left - 1) no_assigned).dim) c.entries.ensures in
    let is : c.as_slice.result.now ≡ s.clause = c.as_slice.ensures.value ∙ ap (λ (y : Entry). y.clause) c.step.view_is in
    let k = c.in_ok-reason.reason in
    let stored : c.add_clause.new.store ≡ db ++ s.clause ∷ [] = c.in_ok-reason.ensures.store ∙ ap (λ (cl : List Dim). db ++ cl ∷ []) is in
    let paired : c.add_clause.new.pairs.items ≡ c.args.pairs.now.items ++ first_pair s.clause ∷ [] = c.in_ok-reason.ensures.pairs ∙ ap (λ (cl : List Dim). c.args.pairs.now.items ++ first_pair cl ∷ []) is in
    let filed : rows c.add_clause.new.lists ≡ with_pair (rows c.args.lists.now) (first_pair s.clause) k =
    c.in_ok-reason.ensures.lists ∙ ap (λ (cl : List Dim). with_pair (rows c.args.lists.now) (first_pair cl) (length db)) is ∙ ap (λ (n : ℕ). with_pair (rows c.args.lists.now) (first_pair s.clause) n) (sym c.in_ok-reason.ensures.number) in
    let both = taken_up (length c.args.trail.now.values) db s c.args.pairs.now.items (rows c.args.lists.now) (rows c.add_clause.new.lists) c.args.trail.now c.go_back.new.trail c.assign.new.self c.args.seen.now c.args.left
    k (first_pair s.clause) _ c.requires.ready c.requires.taught c.go_back.ensures.tracks c.go_back.ensures.width c.go_back.ensures.anchored c.go_back.ensures.below c.go_back.ensures.kept c.go_back.ensures.open
    c.in_ok-reason.ensures.number refl filed c.in_ok-assign.ensures.tracks c.in_ok-assign.ensures.width c.in_ok-assign.ensures.entries
    (ap (λ (d : Dim). let a : Assigned = record { dim = negate d; reason = Some k } in a) same) in
    subst (λ (t : List (List Dim)). IsReady (length c.args.trail.now.values) t c.add_clause.new.pairs.items (rows c.add_clause.new.lists) c.assign.new.self) (sym stored)
    (subst (λ (q : List Pair). IsReady (length c.args.trail.now.values) (db ++ s.clause ∷ []) q (rows c.add_clause.new.lists) c.assign.new.self) (sym paired) both.0)

pub returns-clause-half : goal.returns-clause-half
returns-clause-half c =
    let db = c.args.store.now in
    let s : Entry = c.args.step.now in
    let x : Assigned = get_or c.args.trail.now.entries (c.args.left - 1) no_assigned in
    let same : (get_or c.entries.result.now (c.args.left - 1) no_assigned).dim ≡ x.dim = ap (λ (t : List Assigned). (get_or t (c.args.left - 1) no_assigned).dim) c.entries.ensures in
    let is : c.as_slice.result.now ≡ s.clause = c.as_slice.ensures.value ∙ ap (λ (y : Entry). y.clause) c.step.view_is in
    let k = c.in_ok-reason.reason in
    let stored : c.add_clause.new.store ≡ db ++ s.clause ∷ [] = c.in_ok-reason.ensures.store ∙ ap (λ (cl : List Dim). db ++ cl ∷ []) is in
    let paired : c.add_clause.new.pairs.items ≡ c.args.pairs.now.items ++ first_pair s.clause ∷ [] = c.in_ok-reason.ensures.pairs ∙ ap (λ (cl : List Dim). c.args.pairs.now.items ++ first_pair cl ∷ []) is in
    let filed : rows c.add_clause.new.lists ≡ with_pair (rows c.args.lists.now) (first_pair s.clause) k =
    c.in_ok-reason.ensures.lists ∙ ap (λ (cl : List Dim). with_pair (rows c.args.lists.now) (first_pair cl) (length db)) is ∙ ap (λ (n : ℕ). with_pair (rows c.args.lists.now) (first_pair s.clause) n) (sym c.in_ok-reason.ensures.number) in
    let both = taken_up (length c.args.trail.now.values) db s c.args.pairs.now.items (rows c.args.lists.now) (rows c.add_clause.new.lists) c.args.trail.now c.go_back.new.trail c.assign.new.self c.args.seen.now c.args.left
    k (first_pair s.clause) _ c.requires.ready c.requires.taught c.go_back.ensures.tracks c.go_back.ensures.width c.go_back.ensures.anchored c.go_back.ensures.below c.go_back.ensures.kept c.go_back.ensures.open
    c.in_ok-reason.ensures.number refl filed c.in_ok-assign.ensures.tracks c.in_ok-assign.ensures.width c.in_ok-assign.ensures.entries
    (ap (λ (d : Dim). let a : Assigned = record { dim = negate d; reason = Some k } in a) same) in
    let at : length c.entries-from.result.now ≡ length c.go_back.new.trail.entries = ap length c.entries-from.ensures in
    subst (λ (n : ℕ). IsHalfway c.add_clause.new.store c.add_clause.new.pairs.items c.assign.new.self n) (sym at)
    (subst (λ (t : List (List Dim)). IsHalfway t c.add_clause.new.pairs.items c.assign.new.self (length c.go_back.new.trail.entries)) (sym stored)
    (subst (λ (q : List Pair). IsHalfway (db ++ s.clause ∷ []) q c.assign.new.self (length c.go_back.new.trail.entries)) (sym paired) both.1))

pub returns-in_err-reason : goal.returns-in_err-reason
returns-in_err-reason c =
    let e = c.from_residual.ensures.0 in
    record {
      store = IfOk-from_err _ _ e;
      ready = IfOk-from_err _ _ e;
      half = IfOk-from_err _ _ e;
    }

pub returns-in_err-assign : goal.returns-in_err-assign
returns-in_err-assign c =
    let e = c.from_residual-in_err-assign.ensures.0 in
    record {
      store = IfOk-from_err _ _ e;
      ready = IfOk-from_err _ _ e;
      half = IfOk-from_err _ _ e;
    }
