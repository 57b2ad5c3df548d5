use Rattle.sv_levels.specs.Tasks.{child_is}
use Rattle.sv_levels.proofs.ByNumber.{module_told}
use Rattle.sv_levels.proofs.library.Library.module_of.Goals as goal

pub returns-in-Some : goal.returns-in-Some
returns-in-Some c = λ all h. module_told all (child_is c.args.child.now) c.bytes.result.now c.in-Some.known c.bytes.ensures (c.in-Some.ensures all h)
