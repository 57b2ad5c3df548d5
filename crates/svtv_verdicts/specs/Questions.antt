-- The two questions of a goal, gates that tell them, and a search that gives up (this project's rules).
use Rattle.std.specs.Prelude.{◌≡◌, ◌<◌, ◌↔◌, ℕ, Bool, true, List, length, map, Option, Some}
use Rattle.std.specs.List.{flat_map}
use Rattle.aig.specs.Graph.{IsGraph, IsIn, count_inputs, value}
use Rattle.aig.specs.declared.gate.Gate.{Gate}
use Rattle.aig.specs.declared.gate.Lit.{Lit}
use Rattle.cnf.specs.Formula.{Formula, formula_of}
use Rattle.cnf.specs.Gates.{clauses_for}
use Rattle.fourvec.specs.declared.Bit.{Bit}
use Rattle.fourvec.specs.Bits.{is_one}
use Rattle.goal_tree.specs.declared.tree.GoalTree.{GoalTree}
use Rattle.refute_check.specs.Entry.{Entry}
use Rattle.refute_check.specs.Fresh.{IsFresh}
use Rattle.svtv_choices.specs.Choices.{bits_of}
use Rattle.svtv_table.specs.Stimuli.{IsChoice}
use Rattle.svtv_verdicts.specs.Benches.{Bench, IsBreaking, IsMeeting}

-- whether some choice that meets the hypotheses breaks the goal in its least run; and whether some choice meets them
pub data Question : Type 0 where
  some_breaks : Question
  some_meets : Question

-- the choice answers the question
abbrev pub IsAnswer : Bench → GoalTree → Question → List (List Bit) → Type 0
IsAnswer b goal some_breaks choice = IsBreaking b goal choice
IsAnswer b goal some_meets choice = IsMeeting b goal choice

-- ---- gates

-- the bits of a choice, by variable and then from the least significant on
abbrev pub inputs_of : List (List Bit) → List Bool
inputs_of choice = flat_map (λ v. map is_one v) choice

-- The graph has an input for each bit of the variables, and under each choice the literal is true exactly where the choice answers the question.
pub record Tells (b : Bench) (goal : GoalTree) (question : Question) (gates : List Gate) (root : Lit) : Type 0 where
  pub graph : IsGraph gates
  pub within : IsIn gates root
  pub inputs : count_inputs gates ≡ bits_of b.vars
  pub told : (choice : List (List Bit)) → IsChoice b.vars choice → (value (inputs_of choice) gates root ≡ true) ↔ IsAnswer b goal question choice

-- that each gate is what it says, and that the literal is true
abbrev pub asking : List Gate → Lit → Formula
asking gates root = formula_of (length gates) (clauses_for gates root)

-- ---- giving up

-- The budget is n, the variables have over 12 bits, and n new clauses, one after the other, follow from those of gates that tell one of the two questions.
pub record IsUndecided (b : Bench) (goal : GoalTree) (budget : Option ℕ) (n : ℕ) : Type 0 where
  pub given : budget ≡ Some n
  pub many : 12 < bits_of b.vars
  pub question : Question
  pub gates : List Gate
  pub root : Lit
  pub tells : Tells b goal question gates root
  pub log : List Entry
  pub fresh : IsFresh (asking gates root) log n
