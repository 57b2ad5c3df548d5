-- What a walk of the program finds, and what it stands for.
use Rattle.std.specs.Prelude.{Option, Some, None}
use Rattle.std.specs.Borrow.{Bor}
use Rattle.sv_tree.specs.declared.exprs.Expr.{Expr}
use Rattle.sv_meaning.specs.Params.{name_alone}
use Rattle.sv_names.specs.Kinds.{layout_is}
use Rattle.sv_hierarchy.specs.Scopes as m
use Rattle.sv_levels.specs.declared.tasks.Actual.{Actual}
use Rattle.sv_levels.specs.declared.tasks.Actual.TheVariants.{Named, Written}
use Rattle.sv_levels.specs.declared.tasks.Task.{Task}
use Rattle.sv_levels.specs.declared.tasks.Task.TheVariants.{Assigning, Running, Connecting}
use Rattle.sv_levels.specs.declared.tasks.Work.{Work}
use Rattle.sv_levels.specs.declared.tasks.Given.{Given}
use Rattle.sv_levels.specs.declared.tasks.Child.{Child}
use Rattle.sv_levels.specs.Levels.{front_is}

abbrev pub actual_is : Actual → Expr
actual_is (Named w) = name_alone w.now
actual_is (Written x) = x.now

abbrev pub task_is : Task → m.Task
task_is (Assigning to x) = m.assigning to.now x.now
task_is (Running b) = m.running b.now
task_is (Connecting way wire layout actual) = m.connecting way wire (layout_is layout) (actual_is actual)

abbrev pub work_is : Work → m.Standing
work_is w = record { at = front_is w.at; task = task_is w.task }

abbrev pub given_is : Given → m.Given
given_is g = record { name = g.name.now.text; at = front_is g.at; value = actual_is g.value }

abbrev pub lent : {A : Type 0} → Option (Bor A) → Option A
lent None = None
lent (Some x) = Some x.now

abbrev pub child_is : Child → m.Child
child_is c = record { at = front_is c.at; of_module = c.of_module.now; name = c.name.now; path = c.path; params = lent c.params; pins = lent c.pins }
