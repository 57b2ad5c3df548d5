use Rattle.std.proofs.Common.{◌≡◌, ◌<◌, length}
use Rattle.std.specs.Prelude.{IfSome}
use Rattle.cnf.specs.Formula.{formula_of}
use Rattle.cnf.specs.Clauses.{all_open, valuation}
use Rattle.refute_check.specs.Fresh.{IsFresh}
use Rattle.refute_check.specs.Count.{free_count}
use Rattle.sat_state.specs.Trail.{all_of}
use Rattle.sat_state.specs.Watch.{rows}
use Rattle.sat_search.specs.Found.{IsFound}
use Rattle.sat_search.specs.Lesson.{IsReady, IsHalfway}
use Rattle.sat_core.proofs.whole.learn_all.Given as goal

abbrev pub invariant-conflicts : goal.invariant-conflicts
invariant-conflicts l = let vars = length l.fn.trail.values in record {
  store : l.store ≡ all_of l.fn.store l.steps.items;
  ready : IsReady vars l.store l.pairs.items (rows l.lists) l.trail;
  state : IsFound l.store (valuation l.trail.values) l.found (IsHalfway l.store l.pairs.items l.trail l.from);
  fresh : IsFresh (formula_of vars l.fn.store) l.steps.items (length l.steps.items);
  within : IfSome l.budget (λ n. length l.steps.items < n);
}

-- how many sets of literals contain no clause so far
abbrev pub decreases-conflicts : goal.decreases-conflicts
decreases-conflicts l = free_count (length l.fn.trail.values) l.store all_open
