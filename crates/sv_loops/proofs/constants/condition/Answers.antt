use Rattle.sv_meaning.specs.Values.{mean}
use Rattle.sv_names.specs.Names.{constants_are}
use Rattle.sv_loops.proofs.constants.condition.Goals as goal

pub returns : goal.returns
returns c = c.truth_of.ensures (mean (constants_are c.args.names.now) c.args.expr.now) (c.start.ensures (constants_are c.args.names.now)) c.typed.ensures
