use Rattle.sv_write.proofs.Loops.{left_next, left_last}
use Rattle.sv_write.proofs.modules.parts.Goals as goal

pub parts-preserved : goal.parts-preserved
parts-preserved c = left_next c.parts-test.true c.part-item.is c.parts.invariant c.source_part.ensures

pub returns : goal.returns
returns c = left_last c.parts-test.false c.parts.invariant
