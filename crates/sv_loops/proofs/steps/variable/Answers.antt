use Rattle.sv_loops.proofs.Moves.{variable_ok}
use Rattle.sv_loops.proofs.steps.variable.Goals as goal

pub returns : goal.returns
returns c = λ word. variable_ok word c.args.bits.now c.named.result c.new.result c.requires c.new.ensures c.named.ensures.stands c.named.ensures.sound
