use Rattle.sv_meaning.specs.Values.{mean}
use Rattle.sv_names.specs.Names.{names_are}
use Rattle.sv_const.proofs.evaluate.sized.Goals as goal

pub returns : goal.returns
returns c = c.size_of.ensures (mean (names_are c.args.names.now) c.args.expr.now) c.typed.ensures
