-- Words of the inner functions: a design under the tables of its reset and of its periods, and invariants over what these sample.
use Rattle.std.specs.Prelude.{◌≡◌, [], Option, Some, None}
use Rattle.std.specs.List.{All}
use Rattle.goal_text.specs.declared.goal.Goal.{Goal}
use Rattle.goal_tree.specs.declared.tree.GoalTree.{GoalTree}
use Rattle.sv_elab.specs.Elaborated.{IsElaborated}
use Rattle.sv_meaning.specs.Designs.{Design}
use Rattle.svtv_files.specs.Files.{Text, Told, samples_in}
use Rattle.svtv_files.specs.Refusals.{IsCourseFiles}
use Rattle.svtv_periods.specs.Periods.{AreAlike, AreLast, stretch_of}
use Rattle.svtv_table.specs.Binding.{bound_of}
use Rattle.svtv_table.specs.declared.bound.Bound.{Bound}
use Rattle.svtv_commands.specs.Inputs.{AreGoalsIn}
use Rattle.svtv_commands.specs.declared.course.Course as loaded
use Rattle.svtv_commands.specs.declared.course.Side.{Side}
use Rattle.svtv_commands.specs.declared.course.Side.TheVariants as side
use Rattle.svtv_commands.specs.declared.inducting.Induction.{Induction}

-- ---- what two tables sample

abbrev pub AreLastIn : Bound → Type 0
AreLastIn bound = AreLast (stretch_of bound)

-- Which of two tables is refused for what it samples, if one is: that of the reset, where it samples in a phase that is not its last, and else that
-- of the period, where it does or where the two sample unlike.
abbrev pub IsUnlike : Bound → Bound → Option Side → Type 0
IsUnlike reset period None = AreLastIn reset × (AreLastIn period × AreAlike reset.samples period.samples)
IsUnlike reset period (Some side.Reset) = AreLastIn reset → ⊥
IsUnlike reset period (Some side.Period) = AreLastIn reset × ((AreLastIn period × AreAlike reset.samples period.samples) → ⊥)

-- ---- what was loaded

-- What was loaded stands for a legal design and two legal tables.
pub record AreTables (told : Told) (d a b : Text) (top : Option Text) (x : loaded.Course) : Type 0 where
  pub design : Design
  pub files : IsCourseFiles told d a b top design x.reset.table x.period.table
  pub elaborated : IsElaborated design x.flat
  pub reset : x.reset.bound ≡ bound_of design.wires x.reset.table
  pub period : x.period.bound ≡ bound_of design.wires x.period.table

-- It stands for a legal design, two legal tables that sample alike, and legal goals, each of which has its nodes in the graph of the flat design.
pub record AreAsked (told : Told) (d a b g : Text) (top : Option Text) (x : Induction) : Type 0 where
  pub design : Design
  pub files : IsCourseFiles told d a b top design x.reset.table x.period.table
  pub elaborated : IsElaborated design x.flat
  pub reset : x.reset.bound ≡ bound_of design.wires x.reset.table
  pub period : x.period.bound ≡ bound_of design.wires x.period.table
  pub alike : IsUnlike x.reset.bound x.period.bound None
  pub goals : AreGoalsIn told g [] (samples_in design x.period.table) x.flat.arena x.goals

-- And none of these has a hypothesis.
pub record IsInduction (told : Told) (d a b g : Text) (top : Option Text) (x : Induction) : Type 0 where
  pub asked : AreAsked told d a b g top x
  pub no_hyps : All (λ (tree : GoalTree). tree.hyps ≡ []) asked.goals.trees

-- so it does of some files
abbrev pub IsOfFiles : Induction → Type 0
IsOfFiles x = (told : Told) × (d : Text) × (a : Text) × (b : Text) × (g : Text) × (top : Option Text) × IsInduction told d a b g top x

abbrev pub HasNoHyps : Goal → Type 0
HasNoHyps goal = goal.hyps ≡ []
