use Rattle.std.proofs.Common.{◌≡◌, ◌+◌, sum, map, drop, length}
use Rattle.lhs_alias.specs.Segs.{lhs_bits}
use Rattle.flat_read.proofs.tests.are_wide.Given as goal

abbrev pub invariant-segs : goal.invariant-segs
invariant-segs l = l.width + sum (map (λ seg. seg.width) (drop l.seg-index l.segs)) ≡ l.left + length (lhs_bits l.segs)
