use Rattle.sv_meaning.specs.Values.{mean}
use Rattle.sv_names.specs.Names.{constants_are}
use Rattle.sv_types.proofs.params.converted_expr.Goals as goal

pub returns : goal.returns
returns c = c.converted.ensures (mean (constants_are c.args.names.now) c.args.value.now) (c.start.ensures (constants_are c.args.names.now)) c.typed.ensures
