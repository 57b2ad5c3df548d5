use Rattle.std.proofs.Common.{◌+◌, ◌-◌, length}
use Rattle.compose_rounds.specs.Sources.{ReadsAs}
use Rattle.compose_rounds.proofs.segments.make_room.Given as goal

abbrev pub invariant-room : goal.invariant-room
invariant-room l = ReadsAs l.initial.newest.items l.newest.items

abbrev pub decreases-room : goal.decreases-room
decreases-room l = l.wire + 1 - length l.newest.items
