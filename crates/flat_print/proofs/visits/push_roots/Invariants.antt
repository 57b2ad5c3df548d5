use Rattle.std.proofs.Common.{◌≡◌, ◌++◌, ◌≤◌, drop, length, map, reverse}
use Rattle.flat_print.specs.declared.visits.Visit.TheVariants.{Enter}
use Rattle.flat_print.proofs.visits.push_roots.Given as goal

abbrev pub invariant-roots : goal.invariant-roots
invariant-roots l = record {
  inside : l.left ≤ length l.drivers;
  so_far : l.stack.items ≡ l.fn.stack.items ++ map Enter (reverse (map (λ d. d.value) (drop l.left l.drivers)));
}

abbrev pub decreases-roots : goal.decreases-roots
decreases-roots l = l.left
