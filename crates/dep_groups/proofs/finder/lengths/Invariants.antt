use Rattle.std.proofs.Common.{◌≡◌, length, map, take}
use Rattle.dep_groups.proofs.finder.lengths.Given as goal

abbrev pub invariant-lists : goal.invariant-lists
invariant-lists l = l.lengths.items ≡ map length (take l.list-index l.all)
