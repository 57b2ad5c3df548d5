use Rattle.svtv_machine.proofs.Growing.{designs_grow}
use Rattle.svtv_machine.proofs.laws.designs_grow.Goals as goal

-- src/laws.rt:10:1
pub returns : goal.returns
returns c = designs_grow
