-- A design under a table, and what choices and runs are to a goal (this project's definition of what is claimed of a design).
use Rattle.std.specs.Prelude.{◌≡◌, ℕ, List, map}
use Rattle.std.specs.List.{range_with_len}
use Rattle.fourvec.specs.declared.Bit.{Bit}
use Rattle.goal_tree.specs.declared.tree.GoalTree.{GoalTree}
use Rattle.sv_meaning.specs.Designs.{Design}
use Rattle.svtv_runs.specs.Runs.{Asked, Run, IsRun, IsLeastRun}
use Rattle.svtv_runs.specs.Truths.{Meets, Holds, valuation}
use Rattle.svtv_table.specs.Stimuli.{IsChoice}
use Rattle.svtv_table.specs.declared.bound.Sample.{Sample}
use Rattle.svtv_table.specs.declared.bound.VarDecl.{VarDecl}

-- A design under a table: what the table asks under each choice of its variables, in so many phases, and what it samples.
pub record Bench : Type 0 where
  pub design : Design
  pub asked : List (List Bit) → Asked
  pub phases : ℕ
  pub vars : List VarDecl
  pub samples : List Sample

-- ---- runs

abbrev pub IsRunUnder : Bench → List (List Bit) → Run → Type 0
IsRunUnder b choice r = IsRun b.design (b.asked choice) b.phases r

abbrev pub IsLeastUnder : Bench → List (List Bit) → Run → Type 0
IsLeastUnder b choice r = IsLeastRun b.design (b.asked choice) b.phases r

-- there is a run below every run, and no other such run
abbrev pub HasOneLeast : Bench → List (List Bit) → Type 0
HasOneLeast b choice = (r : Run) × IsLeastUnder b choice r × ((s : Run) → IsLeastUnder b choice s → s ≡ r)

-- the values of samples in a run, in their order
abbrev pub sampled_in : List Sample → Run → List (List Bit)
sampled_in samples r = map (λ s. map (valuation r s.phase s.wire) (range_with_len 0 s.width)) samples

-- ---- goals

-- each variable has a vector of 0 and 1, under which each hypothesis of the goal is true
pub record IsMeeting (b : Bench) (goal : GoalTree) (choice : List (List Bit)) : Type 0 where
  pub is : IsChoice b.vars choice
  pub meets : Meets b.vars goal choice

-- each claim of the goal is true in the run
abbrev pub HoldsIn : Bench → GoalTree → List (List Bit) → Run → Type 0
HoldsIn b goal choice r = Holds b.vars b.samples goal choice r

-- the choice meets the hypotheses, and in its least run some claim is not true
pub record IsBreaking (b : Bench) (goal : GoalTree) (choice : List (List Bit)) : Type 0 where
  pub meets : IsMeeting b goal choice
  pub run : Run
  pub least : IsLeastUnder b choice run
  pub breaks : HoldsIn b goal choice run → ⊥
