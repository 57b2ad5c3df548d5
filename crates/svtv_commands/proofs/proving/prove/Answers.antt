use Rattle.std.specs.Option.{option_copied}
use Rattle.svtv_commands.proofs.Judgements.{proves_of}
use Rattle.svtv_commands.proofs.proving.prove.Goals as goal

pub reported-requires-clause-verdicts : goal.reported-requires-clause-verdicts
reported-requires-clause-verdicts g c = c.in-Ok.ensures.long.verdicts

pub reported-requires-clause-shown : goal.reported-requires-clause-shown
reported-requires-clause-shown g c = c.in-Ok.ensures.long.shown

pub returns-in-Ok-reported-clause-proves : goal.returns-in-Ok-reported-clause-proves
returns-in-Ok-reported-clause-proves g c =
    proves_of (g.F.Files.contents c.args.files.now) c.args.design.now c.args.table.now c.args.goals.now (option_copied c.args.top) c.args.budget c.in-Ok.judgement _ _ c.in-Ok.ensures.judges
    c.in-Ok-reported.ensures.printed c.in-Ok-reported.ensures.whole
