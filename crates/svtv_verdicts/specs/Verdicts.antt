-- Which verdicts are right (this project's definition of what is claimed of a design).
use Rattle.std.specs.Prelude.{◌≡◌, ℕ, List, Option}
use Rattle.fourvec.specs.declared.Bit.{Bit}
use Rattle.goal_tree.specs.declared.tree.GoalTree.{GoalTree}
use Rattle.svtv_runs.specs.Runs.{Run}
use Rattle.svtv_verdicts.specs.Benches.{Bench, HoldsIn, IsBreaking, IsMeeting, IsRunUnder, sampled_in}
use Rattle.svtv_verdicts.specs.Questions.{IsUndecided}

-- What is said of a goal: a failure names a choice, and what is undecided so many steps.
pub data Verdict : Type 0 where
  proved : Verdict
  vacuous : Verdict
  failed : (choice : List (List Bit)) → Verdict
  undecided : (n : ℕ) → Verdict

-- some choice meets the hypotheses, and in every run under every choice that meets them the claims are true
pub record IsProved (b : Bench) (goal : GoalTree) : Type 0 where
  pub some : (choice : List (List Bit)) × IsMeeting b goal choice
  pub every : (choice : List (List Bit)) → IsMeeting b goal choice → (r : Run) → IsRunUnder b choice r → HoldsIn b goal choice r

-- no choice meets the hypotheses
abbrev pub IsVacuous : Bench → GoalTree → Type 0
IsVacuous b goal = (choice : List (List Bit)) → IsMeeting b goal choice → ⊥

-- this choice meets the hypotheses, and in its least run some claim is not true; these are its samples
pub record IsFailed (b : Bench) (goal : GoalTree) (choice shown : List (List Bit)) : Type 0 where
  pub is : IsBreaking b goal choice
  pub samples : shown ≡ sampled_in b.samples is.run

-- the verdict is right where this budget is given, or none, with these samples to show
abbrev pub IsRight : Bench → GoalTree → Option ℕ → Verdict → List (List Bit) → Type 0
IsRight b goal budget proved shown = IsProved b goal
IsRight b goal budget vacuous shown = IsVacuous b goal
IsRight b goal budget (failed choice) shown = IsFailed b goal choice shown
IsRight b goal budget (undecided n) shown = IsUndecided b goal budget n
