use Rattle.sv_blocks.proofs.Parting.{known_places}
use Rattle.sv_blocks.proofs.parts.known_place.Goals as goal

pub returns-then-is_bool : goal.returns-then-is_bool
returns-then-is_bool c = known_places c.args.index.now c.args.spot.now _ _ _ _ c.if-not-is_nameless.false c.is_nameless.ensures c.own-value.ensures.is c.is_bool.ensures c.if-is_bool.true c.place.ensures.near
