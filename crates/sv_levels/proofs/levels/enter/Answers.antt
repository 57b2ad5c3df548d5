use Rattle.std.proofs.lemmas.Result.{IfOk-from_err}
use Rattle.std.proofs.Common.{◌≡◌, ◌++◌, take, refl}
use Rattle.sv_names.specs.Names.{above_of, frames_of}
use Rattle.sv_levels.proofs.LevelsHeld.{got, not_got, done_as}
use Rattle.sv_levels.proofs.LevelsSeen.{entered, not_entered}
use Rattle.sv_levels.proofs.levels.enter.Goals as goal

pub returns-in_ok-push_scope-in-Some-clause-frames : goal.returns-in_ok-push_scope-in-Some-clause-frames
returns-in_ok-push_scope-in-Some-clause-frames c =
    done_as c.push_scope-in-Some.result (frames_of c.push_scope-in-Some.new.self ≡ frames_of c.push_scope.new.self ++ take c.args.front.consts c.in-Some.level.now.consts) _
    (λ e. entered c.args.levels.now c.args.front.level c.args.nets c.args.front.consts c.in-Some.level.now (frames_of c.args.names.now) (frames_of c.push_scope.new.self) (frames_of c.push_scope-in-Some.new.self)
    (got c.args.levels.now c.args.levels.now c.args.front.level c.in-Some.level.now refl c.in-Some.ensures.lookup.3.0 c.in-Some.ensures.lookup.1) c.in_ok-push_scope-in-Some.ensures.frames e)
    c.push_scope-in-Some.ensures.frames

pub returns-in_ok-push_scope-in-Some-clause-above : goal.returns-in_ok-push_scope-in-Some-clause-above
returns-in_ok-push_scope-in-Some-clause-above c =
    done_as c.push_scope-in-Some.result (above_of c.push_scope-in-Some.new.self ≡ above_of c.push_scope.new.self ++ take c.args.front.consts c.in-Some.level.now.consts) _
    (λ e. entered c.args.levels.now c.args.front.level c.args.front.nets c.args.front.consts c.in-Some.level.now (above_of c.args.names.now) (above_of c.push_scope.new.self) (above_of c.push_scope-in-Some.new.self)
    (got c.args.levels.now c.args.levels.now c.args.front.level c.in-Some.level.now refl c.in-Some.ensures.lookup.3.0 c.in-Some.ensures.lookup.1) c.in_ok-push_scope-in-Some.ensures.above e)
    c.push_scope-in-Some.ensures.above

pub returns-in-None-clause-frames : goal.returns-in-None-clause-frames
returns-in-None-clause-frames c = not_entered c.args.levels.now c.args.front.level c.args.nets c.args.front.consts (frames_of c.args.names.now) (not_got c.args.levels.now c.args.levels.now c.args.front.level refl c.in-None.ensures.lookup.3)

pub returns-in-None-clause-above : goal.returns-in-None-clause-above
returns-in-None-clause-above c = not_entered c.args.levels.now c.args.front.level c.args.front.nets c.args.front.consts (above_of c.args.names.now) (not_got c.args.levels.now c.args.levels.now c.args.front.level refl c.in-None.ensures.lookup.3)

pub returns-in_err-push_scope-in-Some-clause-above : goal.returns-in_err-push_scope-in-Some-clause-above
returns-in_err-push_scope-in-Some-clause-above c = IfOk-from_err _ _ c.from_residual.ensures.0

pub returns-in_err-push_scope-in-Some-clause-frames : goal.returns-in_err-push_scope-in-Some-clause-frames
returns-in_err-push_scope-in-Some-clause-frames c = IfOk-from_err _ _ c.from_residual.ensures.0

pub returns-in_err-push_scope-in-Some-clause-loops : goal.returns-in_err-push_scope-in-Some-clause-loops
returns-in_err-push_scope-in-Some-clause-loops c = IfOk-from_err _ _ c.from_residual.ensures.0
