use Rattle.std.proofs.Common.{◌≡◌, length, map}
use Rattle.sv_cursor.specs.Sorts.{entry}
use Rattle.sv_cursor.proofs.sorts.mark_in.Given as goal

abbrev pub invariant-loop-table : goal.invariant-loop-table
invariant-loop-table l = entry (map (λ k. (k.0.now, k.1)) l.table) l.text ≡ entry (map (λ k. (k.0.now, k.1)) l.initial.table) l.text

abbrev pub decreases-loop-table : goal.decreases-loop-table
decreases-loop-table l = length l.table
