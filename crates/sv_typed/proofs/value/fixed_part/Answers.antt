use Rattle.std.proofs.Common.{rules, ◌∙◌}
use Rattle.sv_typed.proofs.Worth.{fixed_is}
use Rattle.sv_typed.proofs.value.fixed_part.Goals as goal

pub returns-clause-is : goal.returns-clause-is
returns-clause-is c = c.dyn_slice.ensures ∙ fixed_is c.args.bits.now c.new.result _ c.args.place c.args.width (search rules) c.new.ensures
