use Rattle.std.proofs.lemmas.Result.{IfOk-from_err}
use Rattle.std.proofs.Common.{map, sym}
use Rattle.sv_modules.specs.Connections.{joined_is}
use Rattle.sv_levels.specs.Levels.{front_is}
use Rattle.sv_levels.specs.Tasks.{given_is}
use Rattle.sv_levels.proofs.PortsLists.{given_none, given_push}
use Rattle.sv_levels.proofs.ports.add_given.Goals as goal

pub returns-in_ok-push-in-Some : goal.returns-in_ok-push-in-Some
returns-in_ok-push-in-Some c =
    given_push c.args.at c.args.connection.now c.in-Some.value c.args.given.now.items c.push.new.self.items c.in-Some.ensures c.in_ok-push-in-Some.ensures.items

pub returns-in-None : goal.returns-in-None
returns-in-None c =
    given_none (front_is c.args.at) c.args.connection.now.name.now.text (joined_is c.args.connection.now.name.now c.args.connection.now.joined) (map given_is c.args.given.now.items) (sym c.in-None.ensures)

pub returns-in_err-push-in-Some : goal.returns-in_err-push-in-Some
returns-in_err-push-in-Some c = IfOk-from_err _ _ c.from_residual.ensures.0
