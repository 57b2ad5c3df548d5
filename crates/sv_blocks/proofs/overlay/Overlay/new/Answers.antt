use Rattle.std.proofs.Common.{ap}
use Rattle.wire_places.specs.Laying.{laid}
use Rattle.sv_blocks.proofs.overlay.Overlay.new.Goals as goal

pub returns : goal.returns
unfolding laid
returns c = ap laid c.new.ensures.empty
