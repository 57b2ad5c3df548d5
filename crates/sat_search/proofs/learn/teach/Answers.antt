use Rattle.std.proofs.Common.{◌≡◌, ◌<◌, ◌∙◌, [], ℕ, length, List, sym, subst, take, reverse}
use Rattle.std.specs.List.{All, filter}
use Rattle.std.proofs.lemmas.List.Elements.{All-take}
use Rattle.sat_state.specs.declared.trail.Assigned.{Assigned}
use Rattle.sat_state.specs.Trail.{falses}
use Rattle.sat_search.specs.Learn.{seen_at, Suffices}
use Rattle.sat_search.proofs.Steps.{trail_range}
use Rattle.sat_search.proofs.Learned.{taught}
use Rattle.sat_search.proofs.Shorter.{nothing_left}
use Rattle.std.proofs.lemmas.Result.{IfOk-from_err}
use Rattle.sat_search.proofs.learn.teach.Goals as goal

pub collect-requires : goal.collect-requires
collect-requires c =
    let vars = length c.args.trail.now.values in
    let wide : length c.shorten.new.seen ≡ vars = c.shorten.auto.seen ∙ c.trace.auto.seen ∙ c.requires.seen in
    subst (λ (n : ℕ). All (λ e. e.dim.var < n) (take c.in_ok-left.left c.entries.result.now)) (sym wide)
    (subst (λ (t : List Assigned). All (λ e. e.dim.var < vars) (take c.in_ok-left.left t)) (sym c.entries.ensures)
    (All-take (λ e. e.dim.var < vars) c.in_ok-left.left c.args.trail.now.entries (trail_range vars c.args.trail.now.entries c.requires.sound.tracks.apart)))

pub returns-clause-last : goal.returns-clause-last
returns-clause-last c = λ none.
    let db = c.args.store.now in
    let empty : c.in_ok-clause.clause.items ≡ [] = subst (λ (n : ℕ). c.in_ok-clause.clause.items ≡ filter (λ d. seen_at c.shorten.new.seen d.var) (falses (take n c.entries.result.now))) none c.in_ok-clause.ensures in
    let enough : Suffices db [] c.shorten.new.seen c.shorten.new.hints.items =
    subst (λ (n : ℕ). Suffices db (reverse (take n c.args.trail.now.entries)) c.shorten.new.seen c.shorten.new.hints.items) none c.in_ok-shorten.ensures.enough in
    (empty, nothing_left db (length c.args.trail.now.values) c.shorten.new.seen c.shorten.new.hints.items c.in_ok-kept.kept.items c.in_ok-clause.clause.items enough empty (c.in_ok-kept.ensures.items ∙ c.as_slice.ensures.value ∙ c.reverse.ensures.items))

pub returns-clause-taught : goal.returns-clause-taught
returns-clause-taught c = λ some.
    taught c.args.store.now (length c.args.trail.now.values) c.args.trail.now.entries c.shorten.new.seen c.shorten.new.hints.items c.in_ok-kept.kept.items c.in_ok-clause.clause.items c.in_ok-left.left
    c.requires.sound.tracks.apart c.requires.sound.explained some c.in_ok-left.ensures.range c.in_ok-shorten.ensures.traced c.in_ok-shorten.ensures.enough
    (subst (λ (t : List Assigned). c.in_ok-clause.clause.items ≡ filter (λ d. seen_at c.shorten.new.seen d.var) (falses (take c.in_ok-left.left t))) c.entries.ensures c.in_ok-clause.ensures)
    (c.in_ok-kept.ensures.items ∙ c.as_slice.ensures.value ∙ c.reverse.ensures.items)

pub returns-in_err-left : goal.returns-in_err-left
returns-in_err-left c =
    let e = c.from_residual.ensures.0 in
    record {
      range = IfOk-from_err _ _ e;
      last = IfOk-from_err _ _ e;
      taught = IfOk-from_err _ _ e;
    }

pub returns-in_err-shorten : goal.returns-in_err-shorten
returns-in_err-shorten c =
    let e = c.from_residual-in_err-shorten.ensures.0 in
    record {
      range = IfOk-from_err _ _ e;
      last = IfOk-from_err _ _ e;
      taught = IfOk-from_err _ _ e;
    }

pub returns-in_err-clause : goal.returns-in_err-clause
returns-in_err-clause c =
    let e = c.from_residual-in_err-clause.ensures.0 in
    record {
      range = IfOk-from_err _ _ e;
      last = IfOk-from_err _ _ e;
      taught = IfOk-from_err _ _ e;
    }

pub returns-in_err-kept : goal.returns-in_err-kept
returns-in_err-kept c =
    let e = c.from_residual-in_err-kept.ensures.0 in
    record {
      range = IfOk-from_err _ _ e;
      last = IfOk-from_err _ _ e;
      taught = IfOk-from_err _ _ e;
    }
