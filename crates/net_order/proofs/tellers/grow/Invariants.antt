use Rattle.std.proofs.Common.{◌≡◌, ℕ, ◌+◌, ◌-◌, [], length, get_or}
use Rattle.net_order.proofs.tellers.grow.Given as goal

abbrev pub invariant-room : goal.invariant-room
invariant-room l = (w : ℕ) → get_or l.lists.items w [] ≡ get_or l.initial.lists.items w []

abbrev pub decreases-room : goal.decreases-room
decreases-room l = l.wire + 1 - length l.lists.items
