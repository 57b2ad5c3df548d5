use Rattle.sv_parser.proofs.Wholes.{syntax_is}
use Rattle.sv_parser.proofs.whole.stopped.Goals as goal

pub returns-in-Ok : goal.returns-in-Ok
returns-in-Ok c =
    syntax_is c.args.tokens.now c.args.end c.args.left c.in-Ok.number c.place_before.result c.refusal.result c.requires c.in-Ok.ensures c.place_before.ensures c.refusal.ensures
