use Rattle.std.proofs.Common.{◌≡◌, ◌≢◌, ◌<◌, ℕ, []}
use Rattle.dep_groups.specs.declared.finder.Stage.TheVariants.{Unseen}
use Rattle.dep_groups.specs.Searches.{IsSearch, state_of, stage_at}
use Rattle.dep_groups.proofs.finder.grouping.Given as goal

abbrev pub invariant-places : goal.invariant-places
invariant-places l = record {
  search : IsSearch l.all (state_of l.finder);
  none : l.finder.waiting.items ≡ [];
  seen : (k : ℕ) → k < l.place → stage_at (state_of l.finder) k ≢ Unseen;
}
