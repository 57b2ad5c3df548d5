use Rattle.std.specs.Option.{option_copied}
use Rattle.svtv_commands.proofs.Inductions.{wide_turn}
use Rattle.svtv_commands.proofs.inducting.induct.Goals as goal

pub returns-clause-stop : goal.returns-clause-stop
returns-clause-stop g c =
    wide_turn (g.F.Files.contents c.args.files.now) c.args.design.now c.args.reset.now c.args.period.now c.args.invariants.now (option_copied c.args.top) c.in-Ok.induction c.in-Ok.ensures.posed.asked c.decided.result c.in-Ok.ensures.posed.no_hyps c.decided.ensures.stop
