use Rattle.sv_write.proofs.Loops.{left_next, left_last}
use Rattle.sv_write.proofs.part.each.Goals as goal

pub parts-preserved : goal.parts-preserved
parts-preserved g c = left_next c.parts-test.true c.part-item.is c.parts.invariant c.put.ensures

pub returns : goal.returns
returns g c = left_last c.parts-test.false c.parts.invariant
