use Rattle.std.proofs.Common.{◌≡◌, ℕ, ◌<◌, ◌≤◌, length, take, get_or}
use Rattle.dep_groups.proofs.finder.unite.Given as goal

abbrev pub invariant-starts : goal.invariant-starts
invariant-starts l = record {
  front : l.starts.items ≡ take (length l.starts.items) l.initial.starts.items;
  some : 0 < length l.starts.items;
  fewer : length l.starts.items ≤ length l.initial.starts.items;
  dropped : (c : ℕ) → length l.starts.items ≤ c → c < length l.initial.starts.items → l.at < get_or l.initial.starts.items c 0;
}

abbrev pub decreases-starts : goal.decreases-starts
decreases-starts l = length l.starts.items
