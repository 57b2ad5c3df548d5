use Rattle.std.proofs.Common.{◌<◌, length, take, All}
use Rattle.lhs_alias.specs.Segs.{lhs_bits}
use Rattle.svex_arena.specs.Marks.{IsMarked}
use Rattle.compose_rounds.proofs.wires.are_settled.Given as goal

abbrev pub invariant-pieces : goal.invariant-pieces
invariant-pieces l = All (λ b. b.wire < length l.settled → IsMarked l.settled b.wire) (lhs_bits (take l.at l.pieces))
