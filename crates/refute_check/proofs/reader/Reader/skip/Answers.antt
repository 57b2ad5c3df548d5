use Rattle.refute_check.proofs.Rows.{skip_more, skip_end, skip_none}
use Rattle.refute_check.proofs.reader.Reader.skip.Goals as goal

pub loop-preserved : goal.loop-preserved
loop-preserved c = skip_more c.loop.self _ _ _ c.args.count c.loop.counter c.loop-test.true c.in-Some.ensures.some c.loop.invariant

pub returns : goal.returns
returns c = skip_end c.loop.self _ c.args.count c.loop.counter c.loop-test.false c.loop.invariant

pub returns-in-None : goal.returns-in-None
returns-in-None c = skip_none c.loop.self _ _ _ c.in-None.ensures.none c.in-None.ensures.end c.loop.invariant
