use Rattle.std.specs.Prelude.{IfOk}
use Rattle.std.proofs.Common.{ℕ, length, List, sym, ◌∙◌, subst, None}
use Rattle.cnf.specs.Formula.{formula_of}
use Rattle.sat_state.specs.declared.watch.Pair.{Pair}
use Rattle.sat_state.specs.Watch.{rows}
use Rattle.sat_core.specs.Stop.{IsRightStop}
use Rattle.sat_search.specs.Start.{IsStarted}
use Rattle.sat_search.specs.Lesson.{IsReady}
use Rattle.sat_search.proofs.Starts.{started_none, started_all}
use Rattle.std.proofs.lemmas.Result.{IfOk-from_err}
use Rattle.sat_core.proofs.whole.run_on.Goals as goal

pub start-requires-clause-started : goal.start-requires-clause-started
start-requires-clause-started c =
    subst (λ (p : List Pair). IsStarted (length c.args.trail.now.values) c.args.store.now 0 p (rows c.args.lists.now) c.args.trail.now None) (sym c.in_ok-pairs.ensures.items)
    (started_none c.args.store.now (rows c.args.lists.now) c.args.trail.now c.requires.open c.requires.empty c.requires.count c.requires.lists)

pub learn_all-requires : goal.learn_all-requires
learn_all-requires c =
    let both = started_all (length c.args.trail.now.values) c.args.store.now c.start.new.pairs.items (rows c.start.new.lists) c.start.new.trail c.in_ok-found.found c.requires.clauses c.in_ok-found.ensures.started in
    let wide = both.0.width in
    record {
      budget = c.requires.budget;
      seen = c.requires.seen ∙ sym wide;
      steps = c.requires.steps;
      ready = subst (λ (n : ℕ). IsReady n c.args.store.now c.start.new.pairs.items (rows c.start.new.lists) c.start.new.trail) (sym wide) both.0;
      found = both.1;
    }

pub returns : goal.returns
returns c =
    let both = started_all (length c.args.trail.now.values) c.args.store.now c.start.new.pairs.items (rows c.start.new.lists) c.start.new.trail c.in_ok-found.found c.requires.clauses c.in_ok-found.ensures.started in
    subst (λ (n : ℕ). IfOk c.learn_all.result (IsRightStop (formula_of n c.args.store.now) c.args.budget c.learn_all.new.steps.items)) both.0.width c.learn_all.ensures

pub returns-in_err-pairs : goal.returns-in_err-pairs
returns-in_err-pairs c = IfOk-from_err _ _ c.from_residual.ensures.0

pub returns-in_err-found : goal.returns-in_err-found
returns-in_err-found c = IfOk-from_err _ _ c.from_residual-in_err-found.ensures.0
