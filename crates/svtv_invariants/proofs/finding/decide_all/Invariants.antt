use Rattle.std.proofs.Common.{◌≡◌, List, [], map, take}
use Rattle.std.specs.List.{AllZip}
use Rattle.fourvec.specs.declared.Bit.{Bit}
use Rattle.goal_text.specs.Nodes.{IsGoal}
use Rattle.goal_text.specs.declared.goal.Goal.{Goal}
use Rattle.goal_tree.specs.declared.tree.GoalTree.{GoalTree}
use Rattle.sv_meaning.specs.Designs.{Design}
use Rattle.svtv_least.specs.Passed.{IsElaborated}
use Rattle.svtv_runs.specs.Runs.{Asked}
use Rattle.svtv_invariants.specs.Deciding.{IsAskedBy, course_over}
use Rattle.svtv_invariants.specs.Finding.{AreAsLong, AreDecided}
use Rattle.svtv_invariants.proofs.finding.decide_all.Given as goal

abbrev pub invariant-invariants : goal.invariant-invariants
invariant-invariants l = record {
  base : l.base ≡ l.fn.base;
  step : l.step ≡ l.fn.step;
  names : l.found.names ≡ map (λ (g : Goal). g.name) (take l.at l.goals);
  long : AreAsLong l.found;
  right : (d : Design) (reset period : List (List Bit) → Asked) (trees : List GoalTree) → IsElaborated d l.flat → IsAskedBy reset l.fn.base.bound → IsAskedBy period l.fn.step.bound
      → AllZip (IsGoal [] l.fn.step.bound.samples l.flat.arena) trees l.goals → AreDecided (course_over d reset period l.fn.base.bound l.fn.step.bound) (take l.at trees) l.budget l.found;
}
