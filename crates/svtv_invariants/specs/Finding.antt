-- What is found of invariants, one after the other.
use Rattle.std.specs.Prelude.{◌≡◌, ℕ, List, [], ◌∷◌, ◌++◌, length, map, Option}
use Rattle.std.specs.List.{AllZip}
use Rattle.goal_tree.specs.declared.tree.GoalTree.{GoalTree}
use Rattle.svtv_periods.specs.Periods.{Course}
use Rattle.svtv_report.specs.Invariants.{Names}
use Rattle.svtv_report.specs.Shown.{sample_texts, var_texts}
use Rattle.svtv_table.specs.declared.bound.Bound.{Bound}
use Rattle.svtv_invariants.specs.Deciding.{IsDecided}
use Rattle.svtv_invariants.specs.declared.deciding.Decided.{Decided}
use Rattle.svtv_invariants.specs.declared.finding.Findings.{Findings}

-- For each goal, in order, what is found of it is right where this budget is given, or none.
pub record AreDecided (c : Course) (goals : List GoalTree) (budget : Option ℕ) (x : Findings) : Type 0 where
  pub found : List Decided
  pub each : AllZip (λ goal y. IsDecided c goal budget y) goals found
  pub verdicts : x.verdicts ≡ map (λ y. y.verdict) found
  pub before : x.before ≡ map (λ y. y.before) found
  pub shown : x.shown ≡ map (λ y. y.shown) found

-- as many of each as there are names
pub record AreAsLong (x : Findings) : Type 0 where
  pub verdicts : length x.verdicts ≡ length x.names
  pub before : length x.before ≡ length x.names
  pub shown : length x.shown ≡ length x.names

-- the names of what is printed, by the bound tables
abbrev pub names_over : Bound → Bound → Names
names_over reset period = record { resets = var_texts reset.vars; periods = var_texts period.vars; samples = sample_texts period.samples }

-- ---- words of the inner functions

-- one more is found, of the goal of that name
pub record IsOneMore (x : Findings) (name : List ℕ) (y : Decided) (z : Findings) : Type 0 where
  pub names : z.names ≡ x.names ++ name ∷ []
  pub verdicts : z.verdicts ≡ x.verdicts ++ y.verdict ∷ []
  pub before : z.before ≡ x.before ++ y.before ∷ []
  pub shown : z.shown ≡ x.shown ++ y.shown ∷ []
