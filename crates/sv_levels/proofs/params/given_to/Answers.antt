use Rattle.std.proofs.Common.{map, sym}
use Rattle.sv_levels.specs.Tasks.{given_is}
use Rattle.sv_levels.proofs.Giving.{given_local}
use Rattle.sv_levels.proofs.params.given_to.Goals as goal

pub returns-in-Localparam : goal.returns-in-Localparam
returns-in-Localparam c = sym (given_local c.args.own.name.now.text c.args.word (map given_is c.args.given.now.list.items) (given_is c.args.own) c.in-Localparam.is)
