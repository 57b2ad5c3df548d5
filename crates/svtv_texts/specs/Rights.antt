-- Right verdicts of goals, one for each.
use Rattle.std.specs.Prelude.{⊤, ℕ, Bool, true, false, List, [], ◌∷◌, map, Option}
use Rattle.fourvec.specs.declared.Bit.{Bit}
use Rattle.goal_text.specs.declared.goal.Goal.{Goal}
use Rattle.goal_tree.specs.declared.tree.GoalTree.{GoalTree}
use Rattle.svtv_verdicts.specs.Benches.{Bench}
use Rattle.svtv_verdicts.specs.Verdicts.{Verdict, proved, vacuous, failed, undecided, IsRight}

-- ---- verdicts

abbrev pub is_proved : Verdict → Bool
is_proved proved = true
is_proved vacuous = false
is_proved (failed choice) = false
is_proved (undecided n) = false

-- for each goal, in order, a verdict that is right where this budget is given, or none
abbrev pub AreRight : Bench → List GoalTree → Option ℕ → List Verdict → List (List (List Bit)) → Type 0
AreRight b [] budget [] [] = ⊤
AreRight b (goal ∷ goals) budget (verdict ∷ verdicts) (values ∷ shown) = IsRight b goal budget verdict values × AreRight b goals budget verdicts shown
AreRight b goals budget verdicts shown = ⊥

-- ---- names

abbrev pub goal_names : List GoalTree → List (List ℕ)
goal_names goals = map (λ g. g.name.text) goals

abbrev pub names_of : List Goal → List (List ℕ)
names_of goals = map (λ g. g.name) goals
