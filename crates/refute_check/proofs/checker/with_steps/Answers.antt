use Rattle.std.proofs.Common.{◌≡◌, arith, take}
use Rattle.std.proofs.lemmas.List.{take_all}
use Rattle.refute_check.proofs.Widths.{step_room, rooms_more}
use Rattle.refute_check.proofs.checker.with_steps.Goals as goal

pub loop-step-preserved : goal.loop-step-preserved
loop-step-preserved c = record {
  over = omega arith;
  least = λ bound le all.
      c.widened-wide.ensures.least bound (c.loop-step.invariant.least bound le all) (step_room bound c.args.vars c.args.steps.now c.loop-step.step-index c.step-item.result _ all c.loop-step-test.true c.step-item.is c.literals.ensures);
  room = rooms_more c.loop-step.wide c.widened-wide.result c.args.vars c.args.steps.now c.loop-step.step-index c.step-item.result _ c.widened-wide.ensures.over c.loop-step.invariant.room c.loop-step-test.true c.step-item.is c.literals.ensures c.widened-wide.ensures.room;
}

pub returns-clause-room : goal.returns-clause-room
returns-clause-room c =
    let all : take c.loop-step.step-index c.args.steps.now ≡ c.args.steps.now = take_all _ _ c.loop-step-test.false in
    rw all at c.loop-step.invariant.room
