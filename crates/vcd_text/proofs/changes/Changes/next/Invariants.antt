use Rattle.std.proofs.Common.{◌≡◌, length}
use Rattle.vcd_text.specs.Left.{changes_left}
use Rattle.vcd_text.proofs.changes.Changes.next.Given as goal

-- the changes that are left are the same
abbrev pub invariant-words : goal.invariant-words
invariant-words l = changes_left l.self-inside ≡ changes_left l.initial.self-inside

abbrev pub decreases-words : goal.decreases-words
decreases-words l = length l.self-inside.cursor.rest.now
