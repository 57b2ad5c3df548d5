use Rattle.std.proofs.Common.{◌≡◌, ℕ, ◌+◌, length, map, refl, sym, subst, ◌∙◌, arith}
use Rattle.std.proofs.lemmas.Result.{IfOk-from_err}
use Rattle.cnf.specs.Clauses.{AllBelow}
use Rattle.sat_state.specs.Watch.{rows}
use Rattle.sat_search.specs.Start.{IsStarted}
use Rattle.sat_search.proofs.start.start.Goals as goal

pub loop-k-init : goal.loop-k-init
loop-k-init c = record { width = refl; started = c.requires.started }

pub start_one-requires-clause-width : goal.start_one-requires-clause-width
start_one-requires-clause-width c = subst (λ (n : ℕ). AllBelow n c.args.store.now) (sym c.loop-k.invariant.width) c.requires.width

pub start_one-requires-clause-started : goal.start_one-requires-clause-started
start_one-requires-clause-started c = subst (λ (n : ℕ). IsStarted n c.args.store.now c.loop-k.k c.loop-k.pairs.items (rows c.loop-k.lists) c.loop-k.trail c.loop-k.found) (sym c.loop-k.invariant.width) c.loop-k.invariant.started

pub loop-k-preserved : goal.loop-k-preserved
loop-k-preserved c = record {
  width = c.in_ok-found.ensures.width ∙ c.loop-k.invariant.width;
  started = subst (λ (n : ℕ). IsStarted n c.args.store.now (c.loop-k.k + 1) c.start_one.new.pairs.items (rows c.start_one.new.lists) c.start_one.new.trail c.in_ok-found.found) c.loop-k.invariant.width c.in_ok-found.ensures.started;
}

pub returns : goal.returns
returns c =
    let end : c.loop-k.k ≡ length c.args.store.now = omega arith in
    record { started = subst (λ (n : ℕ). IsStarted (length c.args.trail.now.values) c.args.store.now n c.loop-k.pairs.items (rows c.loop-k.lists) c.loop-k.trail c.loop-k.found) end c.loop-k.invariant.started }

pub returns-in_err-found : goal.returns-in_err-found
returns-in_err-found c =
    let e = c.from_residual.ensures.0 in
    record {
      started = IfOk-from_err _ _ e;
    }
