use Rattle.std.proofs.Common.{◌≡◌, take}
use Rattle.flat_print.proofs.copies.copy_joins.Given as goal

abbrev pub invariant-loop-join : goal.invariant-loop-join
invariant-loop-join l = l.copies ≡ take l.join-index l.joins
