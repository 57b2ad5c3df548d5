use Rattle.sv_names.specs.Names.{constants_are}
use Rattle.sv_types.specs.Values.{kind_is}
use Rattle.sv_levels.proofs.Giving.{value_alone}
use Rattle.sv_levels.proofs.params.value_named.Goals as goal

pub returns : goal.returns
returns c = value_alone (constants_are c.args.names.now) (kind_is c.args.kind) c.args.word.now c.in_ok-text.text c.new.result c.param_value.result c.in_ok-text.ensures c.new.ensures c.param_value.ensures
