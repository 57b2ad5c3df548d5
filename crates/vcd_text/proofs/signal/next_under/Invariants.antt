use Rattle.std.proofs.Common.{◌≡◌, ℕ, length}
use Rattle.vcd_text.specs.Waves.{changes_under}
use Rattle.vcd_text.proofs.signal.next_under.Given as goal

abbrev pub invariant-changes : goal.invariant-changes
invariant-changes l = (width : ℕ) → changes_under l.code width l.changes ≡ changes_under l.code width l.initial.changes

abbrev pub decreases-changes : goal.decreases-changes
decreases-changes l = length l.changes
