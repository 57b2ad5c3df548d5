use Rattle.std.proofs.Common.{ap}
use Rattle.wire_places.specs.Laying.{laid}
use Rattle.wire_places.proofs.places.WirePlaces.new.Goals as goal

pub returns : goal.returns
unfolding laid
returns c = ap laid c.new.ensures.empty
