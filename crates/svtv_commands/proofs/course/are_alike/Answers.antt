use Rattle.std.proofs.Common.{refl, arith}
use Rattle.svtv_commands.proofs.Courses.{alike_more, alike_whole, not_alike}
use Rattle.svtv_commands.proofs.course.are_alike.Goals as goal

pub returns-then-not-is_alike : goal.returns-then-not-is_alike
returns-then-not-is_alike c = (
  λ t. cc,
  λ h. absurd (not_alike c.args.ones.now c.args.others.now c.samples.at c.index-ones-at.result c.index-others-at.result c.is_alike.result c.samples-test.true c.index-ones-at.is c.index-others-at.is
      c.if-not-is_alike.true c.is_alike.ensures.1 h),
)

pub samples-preserved : goal.samples-preserved
samples-preserved c =
    alike_more c.args.ones.now c.args.others.now c.samples.at c.index-ones-at.result c.index-others-at.result c.samples-test.true (omega (arith, c.samples-test.true, c.if-ones-others.false)) c.index-ones-at.is c.index-others-at.is
    (c.is_alike.ensures.0 c.if-not-is_alike.false) c.samples.invariant

pub returns : goal.returns
returns c = (λ t. alike_whole c.args.ones.now c.args.others.now c.samples.at c.samples-test.false (omega (arith, c.samples-test.false, c.if-ones-others.false)) c.samples.invariant, λ h. refl)
