use Rattle.sv_write.proofs.Whole.{spelt}
use Rattle.sv_write.proofs.spelling.spell.Goals as goal

pub returns : goal.returns
returns c = spelt c.args.text.now c.end.result c.new-writer.ensures c.source.ensures c.end.ensures
