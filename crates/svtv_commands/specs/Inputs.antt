-- Words of the inner functions: what was loaded.
use Rattle.std.specs.Prelude.{◌≡◌, ◌⊎◌, List, Option}
use Rattle.std.specs.List.{AllZip}
use Rattle.goal_text.specs.declared.goal.Goal.{Goal}
use Rattle.goal_text.specs.Nodes.{IsGoal}
use Rattle.goal_tree.specs.declared.tree.GoalTree.{GoalTree}
use Rattle.sv_elab.specs.Elaborated.{IsElaborated}
use Rattle.sv_meaning.specs.Designs.{Design}
use Rattle.sv_outside.specs.declared.refusal.Refusal.{Refusal}
use Rattle.svex_shape.specs.declared.shape.Shape.{Shape}
use Rattle.svtv_files.specs.Files.{Text, Told, AreGoalsFile, samples_in, vars_of}
use Rattle.svtv_files.specs.Refusals.{BehindSetup, IsSetup, RefusesGoals, RefusesSetup}
use Rattle.svtv_table.specs.Binding.{bound_of}
use Rattle.svtv_table.specs.declared.bound.Sample.{Sample}
use Rattle.svtv_table.specs.declared.bound.VarDecl.{VarDecl}
use Rattle.svtv_commands.specs.declared.posing.Posed.{Posed}
use Rattle.svtv_commands.specs.declared.setup.Setup.{Setup}

-- The file of that name is the text of goals, each of which has its nodes.
pub record AreGoalsIn (told : Told) (name : Text) (vars : List VarDecl) (samples : List Sample) (shapes : List Shape) (goals : List Goal) : Type 0 where
  pub trees : List GoalTree
  pub file : AreGoalsFile told name vars samples trees
  pub each : AllZip (IsGoal vars samples shapes) trees goals

-- ---- a design and a table

-- what was loaded stands for a legal design and a legal table
pub record Stands (told : Told) (d t : Text) (top : Option Text) (x : Setup) : Type 0 where
  pub design : Design
  pub setup : IsSetup told d t top design x.table
  pub elaborated : IsElaborated design x.flat
  pub bound : x.bound ≡ bound_of design.wires x.table

-- ---- with goals

-- What was loaded stands for a legal design, a legal table and legal goals, each of which has its nodes in the graph of the flat design.
pub record IsPosed (told : Told) (d t g : Text) (top : Option Text) (x : Posed) : Type 0 where
  pub design : Design
  pub setup : IsSetup told d t top design x.table
  pub elaborated : IsElaborated design x.flat
  pub bound : x.bound ≡ bound_of design.wires x.table
  pub goals : AreGoalsIn told g (vars_of design x.table) (samples_in design x.table) x.flat.arena x.goals

-- which of the three is refused in its turn, and for what
abbrev pub RefusesPosed : Told → Text → Text → Text → Option Text → Text → Refusal → Type 0
RefusesPosed told d t g top file r = RefusesSetup told d t top file r ⊎ BehindSetup told d t top (λ design table. (file ≡ g) × RefusesGoals told g (vars_of design table) (samples_in design table) r)
