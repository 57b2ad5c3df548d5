use Rattle.sv_meaning.specs.Values.{mean}
use Rattle.sv_names.specs.Names.{constants_are}
use Rattle.sv_types.proofs.ranges.bound.Goals as goal

pub returns : goal.returns
returns c = c.bound_of.ensures (mean (constants_are c.args.names.now) c.args.expr.now) c.eval_fixed.ensures
