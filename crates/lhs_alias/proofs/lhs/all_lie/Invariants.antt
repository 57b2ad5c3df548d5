use Rattle.std.proofs.Common.{take}
use Rattle.lhs_alias.specs.Lies.{LieIn}
use Rattle.lhs_alias.proofs.lhs.all_lie.Given as goal

abbrev pub invariant-loop-seg : goal.invariant-loop-seg
invariant-loop-seg l = LieIn l.widths (take l.seg-index l.segs)
