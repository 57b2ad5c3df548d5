use Rattle.sv_meaning.specs.Values.{mean}
use Rattle.sv_names.specs.Names.{constants_are}
use Rattle.sv_loops.proofs.constants.index_value.Goals as goal

pub returns-clause-is : goal.returns-clause-is
returns-clause-is c = c.low_bits.ensures.is (mean (constants_are c.args.names.now) c.args.expr.now) (c.start.ensures (constants_are c.args.names.now)) c.typed.ensures
