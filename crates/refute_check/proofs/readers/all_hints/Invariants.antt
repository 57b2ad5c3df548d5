use Rattle.std.proofs.Common.{◌≡◌, ◌++◌, length}
use Rattle.refute_check.proofs.readers.all_hints.Given as goal

abbrev pub decreases-loop-hint : goal.decreases-loop-hint
decreases-loop-hint l = length l.hints

abbrev pub invariant-loop-hint : goal.invariant-loop-hint
invariant-loop-hint l = l.all.items ++ l.hints ≡ l.fn.hints
