use Rattle.compose_rounds.proofs.Placing.{pieces-more}
use Rattle.compose_rounds.proofs.wires.are_settled.Goals as goal

pub pieces-preserved : goal.pieces-preserved
pieces-preserved c = pieces-more c.args.pieces.now c.args.settled.now c.pieces.at c.pieces-test.true (c.is_settled.ensures c.if-not-is_settled.false) c.pieces.invariant
