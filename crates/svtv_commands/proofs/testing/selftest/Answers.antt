use Rattle.std.proofs.Common.{ap, map, ◌∙◌}
use Rattle.svtv_report.specs.Seen.{verdict_is}
use Rattle.svtv_selftest.specs.Line.{line_text}
use Rattle.svtv_commands.proofs.Judgements.{self_tests}
use Rattle.svtv_commands.proofs.testing.selftest.Goals as goal

pub returns-in-Ok-line_text-clause-tests : goal.returns-in-Ok-line_text-clause-tests
returns-in-Ok-line_text-clause-tests c =
    self_tests c.args.count c.in-Ok.judgement _ c.in-Ok.ensures.judges (c.in-Ok-line_text.ensures ∙ ap (λ verdicts. line_text c.args.count (map verdict_is verdicts)) c.verdicts_of.ensures)
