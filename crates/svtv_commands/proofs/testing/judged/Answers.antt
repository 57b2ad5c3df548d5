use Rattle.svtv_commands.proofs.Judgements.{test_judged, test_stops}
use Rattle.svtv_commands.proofs.testing.judged.Goals as goal

pub returns-clause-judges : goal.returns-clause-judges
returns-clause-judges c = test_judged c.args.count _ _ _ c.judge.result c.in_ok-design.ensures c.in_ok-table.ensures c.in_ok-goals.ensures c.judge.ensures.judges

pub returns-clause-stop : goal.returns-clause-stop
returns-clause-stop c = test_stops c.args.count _ _ _ _ c.judge.result c.in_ok-design.ensures c.in_ok-table.ensures c.in_ok-goals.ensures c.judge.ensures.stop c.judge.ensures.rose
