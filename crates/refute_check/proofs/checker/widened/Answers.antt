use Rattle.std.proofs.Common.{◌+◌, ◌<◌, ◌≤◌, arith}
use Rattle.refute_check.specs.Accepted.{HasRoom}
use Rattle.refute_check.proofs.Reading.{walk_more}
use Rattle.refute_check.proofs.Widths.{room_push, room_at}
use Rattle.refute_check.proofs.checker.widened.Goals as goal
use Rattle.refute_check.proofs.checker.widened.Goals.{else-d-vars-via-then-d-vars+else-d-wide, else-d-vars-via-else-d-vars}

pub loop-d-preserved-then-d-wide : goal.loop-d-preserved-then-d-wide
loop-d-preserved-then-d-wide c =
    let d = c.in-Some.d in
    let up : c.loop-d.wide ≤ d.var + 1 = omega arith in
    record {
      over = omega arith;
      least = λ bound le h. room_at bound c.args.vars d _ _ c.args.literals.now (HasRoom c.loop-d.wide c.args.vars) c.in-Some.ensures.some c.loop-d.invariant.room h c.if-d-vars.true;
      room = walk_more (HasRoom c.loop-d.wide c.args.vars) (HasRoom (d.var + 1) c.args.vars) _ _ c.args.literals.now d c.in-Some.ensures.some c.loop-d.invariant.room
          (room_push c.loop-d.wide (d.var + 1) c.args.vars c.loop-d.invariant.room.0 d up c.loop-d.invariant.room.2 (λ h. omega arith));
    }

pub loop-d-preserved : goal.loop-d-preserved
loop-d-preserved c =
    let d = c.in-Some.d in
    let here : d.var < c.args.vars → d.var < c.loop-d.wide =
    λ h. elim c.else-d-vars.branch [ else-d-vars-via-then-d-vars+else-d-wide w ↦ omega arith | else-d-vars-via-else-d-vars w ↦ omega arith ] in
    record {
      over = c.loop-d.invariant.over;
      least = c.loop-d.invariant.least;
      room = walk_more (HasRoom c.loop-d.wide c.args.vars) (HasRoom c.loop-d.wide c.args.vars) _ _ c.args.literals.now d c.in-Some.ensures.some c.loop-d.invariant.room
          (room_push c.loop-d.wide c.loop-d.wide c.args.vars c.loop-d.invariant.room.0 d (omega arith) c.loop-d.invariant.room.2 here);
    }
