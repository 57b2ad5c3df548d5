use Rattle.std.proofs.Common.{◌≡◌, List, length, map, take}
use Rattle.std.specs.List.{AllZip}
use Rattle.fourvec.specs.declared.Bit.{Bit}
use Rattle.goal_text.specs.Nodes.{IsGoal}
use Rattle.goal_tree.specs.declared.tree.GoalTree.{GoalTree}
use Rattle.sv_meaning.specs.Designs.{Design}
use Rattle.svtv_decide.specs.Posing.{Poses, bench}
use Rattle.svtv_decide.specs.Passed.{AreLeastNodes}
use Rattle.svtv_report.specs.Seen.{verdict_is}
use Rattle.svtv_runs.specs.Runs.{Asked}
use Rattle.svtv_texts.specs.Rights.{AreRight, names_of}
use Rattle.svtv_texts.proofs.judging.decide_all.Given as goal

abbrev pub invariant-goals : goal.invariant-goals
invariant-goals l = record {
  same : l.arena ≡ l.fn.arena;
  names : l.found.names ≡ names_of (take l.goal-index l.goals);
  verdicts : length l.found.verdicts ≡ length l.found.names;
  shown : length l.found.shown ≡ length l.found.names;
  right : (d : Design) (asked : List (List Bit) → Asked) (trees : List GoalTree) → Poses d asked l.problem.flat.now l.problem.bound.now → AreLeastNodes d l.problem.bound.now l.fn.arena l.problem.samples.now
      → AllZip (IsGoal l.problem.bound.now.vars l.problem.bound.now.samples l.fn.arena) trees l.goals
      → AreRight (bench d asked l.problem.bound.now) (take l.goal-index trees) l.problem.budget (map verdict_is l.found.verdicts) l.found.shown;
}
