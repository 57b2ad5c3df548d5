use Rattle.std.proofs.Common.{◌∙◌, arith, length-set}
use Rattle.refute_check.proofs.Trails.{tracked_last, tracked_pop, tracked_clear, none_left}
use Rattle.refute_check.proofs.marks.clear_trail.Goals as goal

pub bounds-values-var : goal.bounds-values-var
bounds-values-var c = tracked_last _ _ _ _ _ c.loop-var.invariant.tracked c.in-Some.ensures.items

pub loop-var-preserved : goal.loop-var-preserved
loop-var-preserved c = record {
  width = length-set _ _ _ ∙ c.loop-var.invariant.width;
  tracked = tracked_pop _ _ _ _ _ _ c.loop-var.invariant.tracked (omega (arith, c.pop.ensures.capacity)) c.in-Some.ensures.items;
}

pub returns-clause-values : goal.returns-clause-values
returns-clause-values c = tracked_clear c.loop-var.values c.loop-var.trail.items _ _ c.loop-var.invariant.tracked (none_left _ (omega (arith, c.in_default.ensures.cases.0, c.loop-var.trail.ok.0))) c.loop-var.invariant.width
