use Rattle.std.proofs.Common.{◌≡◌, ◌≢◌, ◌⊎◌, ◌∙◌, ◌<◌, ◌+◌, ◌++◌, ◌∷◌, [], ℕ, length, List, get_or, set, sym, subst, ap, arith, take, drop, reverse, Some, true, false}
use Rattle.std.specs.List.{All}
use Rattle.cnf.specs.declared.Dim.{Dim}
use Rattle.refute_check.specs.Accepted.{clause_at}
use Rattle.sat_state.specs.declared.trail.Assigned.{Assigned}
use Rattle.sat_search.specs.Learn.{seen_at, no_assigned, HasVariable, ExplainsOver, IsTraced}
use Rattle.sat_search.proofs.Steps.{explained_front, place_is, front_is, reason_known}
use Rattle.sat_search.proofs.Rows.{dim_near}
use Rattle.sat_search.proofs.Shorter.{dropped, skipped}
use Rattle.std.proofs.lemmas.Result.{IfOk-from_err}
use Rattle.sat_search.proofs.learn.drop_implied.Goals as goal

pub bounds-seen-e : goal.bounds-seen-e
bounds-seen-e c =
    subst (λ (n : ℕ). (get_or c.entries.result.now c.args.i no_assigned).dim.var < n) (sym c.requires.seen)
    (dim_near (length c.args.trail.now.values) c.args.i c.args.trail.now.entries c.entries.result.now no_assigned c.entries.ensures c.requires.sound.tracks.apart (omega (arith, c.requires.place, c.requires.range)))

pub clause-requires : goal.clause-requires
clause-requires c =
    let db = c.args.store.now in
    let entries = c.args.trail.now.entries in
    let k = c.args.i in
    let lt : k < length entries = omega (arith, c.requires.place, c.requires.range) in
    let x : Assigned = get_or entries k no_assigned in
    let why : x.reason ≡ Some c.in-Some.r = subst (λ (t : List Assigned). (get_or t k no_assigned).reason ≡ Some c.in-Some.r) c.entries.ensures c.in-Some.is in
    reason_known db (take (k + 1) entries) (take k entries) x c.in-Some.r (explained_front db entries (take (k + 1) entries) (drop (k + 1) entries) (front_is entries (k + 1)) c.requires.sound.explained) (place_is entries k no_assigned lt) why

pub returns-in_err-note : goal.returns-in_err-note
returns-in_err-note c =
    let e = c.from_residual.ensures.0 in
    record {
      enough = IfOk-from_err _ _ e;
      traced = IfOk-from_err _ _ e;
    }

pub returns-then-not-seen-e-clause-enough : goal.returns-then-not-seen-e-clause-enough
returns-then-not-seen-e-clause-enough c =
    skipped c.args.store.now (length c.args.trail.now.values) c.args.i (reverse (take c.args.left c.args.trail.now.entries)) c.args.trail.now.entries c.args.seen.now c.args.hints.now.items
    c.requires.sound.tracks.apart (omega (arith, c.requires.place, c.requires.range)) c.requires.enough

pub returns-then-not-branch-clause-enough : goal.returns-then-not-branch-clause-enough
returns-then-not-branch-clause-enough c =
    skipped c.args.store.now (length c.args.trail.now.values) c.args.i (reverse (take c.args.left c.args.trail.now.entries)) c.args.trail.now.entries c.args.seen.now c.args.hints.now.items
    c.requires.sound.tracks.apart (omega (arith, c.requires.place, c.requires.range)) c.requires.enough

pub returns-in-None-clause-enough : goal.returns-in-None-clause-enough
returns-in-None-clause-enough c =
    skipped c.args.store.now (length c.args.trail.now.values) c.args.i (reverse (take c.args.left c.args.trail.now.entries)) c.args.trail.now.entries c.args.seen.now c.args.hints.now.items
    c.requires.sound.tracks.apart (omega (arith, c.requires.place, c.requires.range)) c.requires.enough

pub returns-in_ok-push-in-Some-clause-enough : goal.returns-in_ok-push-in-Some-clause-enough
returns-in_ok-push-in-Some-clause-enough c =
    let db = c.args.store.now in
    let entries = c.args.trail.now.entries in
    let k = c.args.i in
    let r = c.in-Some.r in
    let same : get_or c.entries.result.now k no_assigned ≡ get_or entries k no_assigned = ap (λ (t : List Assigned). get_or t k no_assigned) c.entries.ensures in
    let both = dropped db (length c.args.trail.now.values) entries c.args.left k c.args.seen.now c.mark_all.new.seen c.args.hints.now.items r c.requires.sound.tracks.apart c.requires.sound.explained c.requires.place c.requires.range
    (c.mark_all.auto.seen ∙ c.requires.seen) (subst (λ (y : Assigned). y.reason ≡ Some r) same c.in-Some.is) (subst (λ (y : Assigned). seen_at c.args.seen.now y.dim.var ≡ true) same c.if-not-seen-e.false)
    c.mark_all.ensures.more (subst (λ (cl : List Dim). All (λ d. seen_at c.mark_all.new.seen d.var ≡ true) cl) c.clause.ensures c.mark_all.ensures.marked)
    (subst (λ (cl : List Dim). (v : ℕ) → seen_at c.mark_all.new.seen v ≡ true → (seen_at c.args.seen.now v ≡ true) ⊎ HasVariable cl v) c.clause.ensures c.mark_all.ensures.only) c.requires.enough c.requires.traced in
    subst (λ (hs : List ℕ). ExplainsOver db (reverse (take c.args.left entries)) (reverse (take k entries)) (set c.mark_all.new.seen (get_or c.entries.result.now k no_assigned).dim.var false) hs) (sym c.in_ok-push-in-Some.ensures.items)
    (subst (λ (y : Assigned). ExplainsOver db (reverse (take c.args.left entries)) (reverse (take k entries)) (set c.mark_all.new.seen y.dim.var false) (c.args.hints.now.items ++ r ∷ [])) (sym same) both.0)

pub returns-in_ok-push-in-Some-clause-traced : goal.returns-in_ok-push-in-Some-clause-traced
returns-in_ok-push-in-Some-clause-traced c =
    let db = c.args.store.now in
    let entries = c.args.trail.now.entries in
    let k = c.args.i in
    let r = c.in-Some.r in
    let same : get_or c.entries.result.now k no_assigned ≡ get_or entries k no_assigned = ap (λ (t : List Assigned). get_or t k no_assigned) c.entries.ensures in
    let both = dropped db (length c.args.trail.now.values) entries c.args.left k c.args.seen.now c.mark_all.new.seen c.args.hints.now.items r c.requires.sound.tracks.apart c.requires.sound.explained c.requires.place c.requires.range
    (c.mark_all.auto.seen ∙ c.requires.seen) (subst (λ (y : Assigned). y.reason ≡ Some r) same c.in-Some.is) (subst (λ (y : Assigned). seen_at c.args.seen.now y.dim.var ≡ true) same c.if-not-seen-e.false)
    c.mark_all.ensures.more (subst (λ (cl : List Dim). All (λ d. seen_at c.mark_all.new.seen d.var ≡ true) cl) c.clause.ensures c.mark_all.ensures.marked)
    (subst (λ (cl : List Dim). (v : ℕ) → seen_at c.mark_all.new.seen v ≡ true → (seen_at c.args.seen.now v ≡ true) ⊎ HasVariable cl v) c.clause.ensures c.mark_all.ensures.only) c.requires.enough c.requires.traced in
    subst (λ (y : Assigned). IsTraced (set c.mark_all.new.seen y.dim.var false) (reverse (take c.args.left entries))) (sym same) both.1
