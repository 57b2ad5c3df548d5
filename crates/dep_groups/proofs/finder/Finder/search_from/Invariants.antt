use Rattle.std.proofs.Common.{◌≢◌, ℕ}
use Rattle.dep_groups.specs.declared.finder.Stage.TheVariants.{Unseen}
use Rattle.dep_groups.specs.Searches.{IsSearch, state_of, stage_at, work_left}
use Rattle.dep_groups.proofs.finder.Finder.search_from.Given as goal

abbrev pub invariant-steps : goal.invariant-steps
invariant-steps l = record {
  search : IsSearch l.all (state_of l.self);
  seen : stage_at (state_of l.self) l.place ≢ Unseen;
  kept : (k : ℕ) → stage_at (state_of l.fn.self) k ≢ Unseen → stage_at (state_of l.self) k ≢ Unseen;
}

abbrev pub decreases-steps : goal.decreases-steps
decreases-steps l = work_left (state_of l.self)
