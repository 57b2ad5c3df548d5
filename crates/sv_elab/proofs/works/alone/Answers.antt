use Rattle.sv_elab.proofs.Working.{named_alone}
use Rattle.sv_elab.proofs.works.alone.Goals as goal

pub returns : goal.returns
returns c = named_alone c.args.word.now c.in_ok-text.text c.new.result c.in_ok-text.ensures c.new.ensures
