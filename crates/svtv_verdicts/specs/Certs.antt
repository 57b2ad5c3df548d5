-- What certifies a verdict (this project's rules). Take a goal with the hypothesis `en` and the claim `q == d`. Where it is `proved`, the claim is
-- true in every run under each choice with en = 1. What would break it is a choice with en = 1 in whose least run the claim is not true, and
-- `some_breaks` asks for one. So `proved` closes `some_breaks`: the clauses have a solution exactly where there is such a choice, and the log that
-- refutes them shows that there is none. `vacuous` closes `some_meets`, which asks for any choice with en = 1. That there is one, which `proved` says
-- too, no log shows.
use Rattle.std.specs.Prelude.{⊤, ℕ, ◌↔◌, Bool, List, Option, Some, None}
use Rattle.cnf.specs.Clauses.{AllBelow, Solves}
use Rattle.cnf.specs.Formula.{Formula}
use Rattle.fourvec.specs.declared.Bit.{Bit}
use Rattle.goal_tree.specs.declared.tree.GoalTree.{GoalTree}
use Rattle.refute_check.specs.Accepted.{IsAccepted}
use Rattle.refute_check.specs.Certs.{Certificate}
use Rattle.svtv_verdicts.specs.Benches.{Bench}
use Rattle.svtv_verdicts.specs.Questions.{Question, some_breaks, some_meets, IsAnswer}
use Rattle.svtv_verdicts.specs.Verdicts.{Verdict, proved, vacuous, failed, undecided}

-- Clauses ask a question of a goal: each names only variables that the formula has, and they have a solution exactly where some choice answers.
pub record AsksOf (b : Bench) (goal : GoalTree) (question : Question) (f : Formula) : Type 0 where
  pub below : AllBelow f.vars f.clauses
  pub asked : ((v : ℕ → Bool) × Solves v f.clauses) ↔ ((choice : List (List Bit)) × IsAnswer b goal question choice)

-- What certifies a verdict: clauses that ask the question that the verdict closes, and a log that refutes them. A goal that failed or was left
-- undecided has nothing.
abbrev pub HasCert : Bench → GoalTree → Verdict → Option Certificate → Type 0
HasCert b goal proved (Some c) = AsksOf b goal some_breaks c.cnf × IsAccepted c.cnf c.log
HasCert b goal vacuous (Some c) = AsksOf b goal some_meets c.cnf × IsAccepted c.cnf c.log
HasCert b goal (failed choice) None = ⊤
HasCert b goal (undecided n) None = ⊤
HasCert b goal verdict cert = ⊥
