use Rattle.sv_write.proofs.Loops.{left_next, left_last, commas_first}
use Rattle.sv_write.proofs.part.commas.Goals as goal

pub parts-init : goal.parts-init
parts-init g c = commas_first g.T.Part.text c.args.all.now c.first-item.result c.in-len1-up.len_at_least c.first-item.is c.put.ensures

pub parts-preserved : goal.parts-preserved
parts-preserved g c = left_next c.parts-test.true c.part-item.is c.parts.invariant c.behind_comma.ensures

pub returns-after-parts : goal.returns-after-parts
returns-after-parts g c = left_last c.parts-test.false c.parts.invariant
