use Rattle.std.proofs.lemmas.Result.{IfOk-from_err}
use Rattle.std.proofs.Common.{◌∙◌, map, get_or, arith}
use Rattle.sv_names.specs.Kinds.{entries_are}
use Rattle.sv_names.specs.Names.{above_of, frames_of, stack_of}
use Rattle.sv_levels.specs.declared.levels.Front.{Front}
use Rattle.sv_levels.specs.Levels.{level_is}
use Rattle.sv_levels.proofs.LevelsHeld.{same_front}
use Rattle.sv_levels.proofs.LevelsSeen.{live_next, seen_next, none_live, none_above, all_live}
use Rattle.sv_levels.proofs.levels.live_along.Goals as goal

pub fronts-init : goal.fronts-init
fronts-init c = record {
  names = none_live (map level_is c.args.levels.now) (stack_of c.new-names.result) c.new-names.ensures.frames;
  above = none_above (map level_is c.args.levels.now) (stack_of c.new-names.result) c.new-names.ensures.frames;
  loops = c.new-names.ensures.loops;
}

pub fronts-preserved : goal.fronts-preserved
fronts-preserved c =
    let i = c.fronts.front-index in
    let d : Front = record { level = 0; nets = 0; consts = 0 } in
    let f = get_or c.args.fronts.now i d in
    record {
      names = live_next (map level_is c.args.levels.now) c.args.fronts.now i c.nets_of.result f (entries_are (frames_of c.fronts.names)) (entries_are (frames_of c.enter.new.names)) c.fronts-test.true (same_front c.args.fronts.now i d f c.fronts-test.true) c.nets_of.ensures c.fronts.invariant.names c.in_ok-enter.ensures.frames;
      above = seen_next (map level_is c.args.levels.now) c.args.fronts.now i f (entries_are (above_of c.fronts.names)) (entries_are (above_of c.enter.new.names)) c.fronts-test.true (same_front c.args.fronts.now i d f c.fronts-test.true) c.fronts.invariant.above c.in_ok-enter.ensures.above;
      loops = c.in_ok-enter.ensures.loops ∙ c.fronts.invariant.loops;
    }

pub returns-clause-names : goal.returns-clause-names
returns-clause-names c = all_live c.fronts.names (map level_is c.args.levels.now) c.args.fronts.now c.fronts.front-index (omega (arith, c.fronts-test.false)) c.fronts.invariant.names c.fronts.invariant.above c.fronts.invariant.loops

pub returns-in_err-enter-clause-loops : goal.returns-in_err-enter-clause-loops
returns-in_err-enter-clause-loops c = IfOk-from_err _ _ c.from_residual.ensures.0

pub returns-in_err-enter-clause-names : goal.returns-in_err-enter-clause-names
returns-in_err-enter-clause-names c = IfOk-from_err _ _ c.from_residual.ensures.0
