use Rattle.std.proofs.Common.{◌≡◌, ◌++◌, length}
use Rattle.vcd_text.proofs.signal.changes_of.Given as goal

abbrev pub invariant-changes : goal.invariant-changes
invariant-changes l = l.told.items ++ l.left ≡ l.initial.left

abbrev pub decreases-changes : goal.decreases-changes
decreases-changes l = length l.left
