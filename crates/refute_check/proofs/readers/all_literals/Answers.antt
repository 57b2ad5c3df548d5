use Rattle.std.proofs.Common.{List, ap, ◌++◌}
use Rattle.refute_check.proofs.Reading.{shorter, moved, moved_all}
use Rattle.refute_check.proofs.readers.all_literals.Goals as goal

pub loop-d-smaller : goal.loop-d-smaller
loop-d-smaller c = shorter _ _ _ c.in-Some.ensures.some

pub loop-d-preserved : goal.loop-d-preserved
loop-d-preserved c = moved _ _ _ _ _ _ c.in-Some.ensures.some c.in_ok-push.ensures.items c.loop-d.invariant

pub returns : goal.returns
returns c = moved_all _ _ _ c.in_default.ensures.none c.loop-d.invariant
