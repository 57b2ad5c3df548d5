use Rattle.std.proofs.Common.{◌≡◌, ◌++◌, take}
use Rattle.event_nets.specs.Gifts.{gifts_at}
use Rattle.event_nets.proofs.lay.put_gifts.Given as goal

abbrev pub invariant-loop-at : goal.invariant-loop-at
invariant-loop-at l = l.gifts.items ≡ l.initial.gifts.items ++ gifts_at l.from 0 (take l.at l.places)
