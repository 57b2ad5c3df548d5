-- Laws over verdicts.
use Rattle.std.specs.Prelude.{◌≡◌, ◌<◌, ◌^◌, ℕ, List, length, Option, Some}
use Rattle.fourvec.specs.declared.Bit.{Bit}
use Rattle.goal_tree.specs.declared.tree.GoalTree.{GoalTree}
use Rattle.svtv_choices.specs.Choices.{bits_of}
use Rattle.svtv_verdicts.specs.Benches.{Bench}
use Rattle.svtv_verdicts.specs.Questions.{IsUndecided}
use Rattle.svtv_verdicts.specs.Verdicts.{Verdict, proved, vacuous, failed, IsRight}

-- not both are right of one goal
abbrev pub Exclude : Verdict → Verdict → Type 0
Exclude v w = (b : Bench) (goal : GoalTree) (budget : Option ℕ) (s t : List (List Bit)) → IsRight b goal budget v s → IsRight b goal budget w t → ⊥

abbrev pub ProvedIsNotVacuous : Type 0
ProvedIsNotVacuous = Exclude proved vacuous

abbrev pub FailedIsNotProved : Type 0
FailedIsNotProved = (choice : List (List Bit)) → Exclude (failed choice) proved

abbrev pub FailedIsNotVacuous : Type 0
FailedIsNotVacuous = (choice : List (List Bit)) → Exclude (failed choice) vacuous

-- a choice that fails has one list of samples
abbrev pub SamplesAreOne : Type 0
SamplesAreOne = (b : Bench) (goal : GoalTree) (budget : Option ℕ) (choice s t : List (List Bit)) → IsRight b goal budget (failed choice) s → IsRight b goal budget (failed choice) t → s ≡ t

-- What is undecided has used up a budget that was given. Over v gates, it has fewer than 3 ^ v steps.
abbrev pub BudgetIsUsedUp : Type 0
BudgetIsUsedUp = (b : Bench) (goal : GoalTree) (budget : Option ℕ) (n : ℕ) → (u : IsUndecided b goal budget n) → (budget ≡ Some n) × (12 < bits_of b.vars) × (n < 3 ^ length u.gates)
