use Rattle.std.proofs.Common.{List, ap, ◌++◌}
use Rattle.refute_check.proofs.Reading.{shorter, moved, moved_all}
use Rattle.refute_check.proofs.readers.all_hints.Goals as goal

pub loop-hint-smaller : goal.loop-hint-smaller
loop-hint-smaller c = shorter _ _ _ c.in-Some.ensures.some

pub loop-hint-preserved : goal.loop-hint-preserved
loop-hint-preserved c = moved _ _ _ _ _ _ c.in-Some.ensures.some c.in_ok-push.ensures.items c.loop-hint.invariant

pub returns : goal.returns
returns c = moved_all _ _ _ c.in_default.ensures.none c.loop-hint.invariant
