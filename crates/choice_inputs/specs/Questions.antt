-- Gates that tell for which choices something holds, and clauses that ask whether it holds for some choice.
use Rattle.std.specs.Prelude.{◌≡◌, ℕ, ◌↔◌, Bool, true, List, length, map}
use Rattle.std.specs.List.{flat_map}
use Rattle.aig.specs.Graph.{IsGraph, IsIn, count_inputs, value}
use Rattle.aig.specs.declared.gate.Gate.{Gate}
use Rattle.aig.specs.declared.gate.Lit.{Lit}
use Rattle.cnf.specs.Clauses.{AllBelow, Solves}
use Rattle.cnf.specs.Formula.{Formula, formula_of}
use Rattle.cnf.specs.Gates.{clauses_for}
use Rattle.fourvec.specs.declared.Bit.{Bit}
use Rattle.fourvec.specs.Bits.{is_one}
use Rattle.svtv_choices.specs.Choices.{bits_of}
use Rattle.svtv_table.specs.Stimuli.{IsChoice}
use Rattle.svtv_table.specs.declared.bound.VarDecl.{VarDecl}

-- the bits of a choice, by variable and then from the least significant on
abbrev pub inputs_of : List (List Bit) → List Bool
inputs_of choice = flat_map (λ v. map is_one v) choice

-- the literal is true where the inputs are the bits of the choice
abbrev pub IsTold : List Gate → Lit → List (List Bit) → Type 0
IsTold gates root choice = value (inputs_of choice) gates root ≡ true

-- The graph has an input for each bit of the variables, and under each choice the literal is true exactly where `Answers` holds of the choice.
pub record Tells (vars : List VarDecl) (Answers : List (List Bit) → Type 0) (gates : List Gate) (root : Lit) : Type 0 where
  pub graph : IsGraph gates
  pub within : IsIn gates root
  pub inputs : count_inputs gates ≡ bits_of vars
  pub told : (choice : List (List Bit)) → IsChoice vars choice → IsTold gates root choice ↔ Answers choice

-- that each gate is what it says, and that the literal is true
abbrev pub asking : List Gate → Lit → Formula
asking gates root = formula_of (length gates) (clauses_for gates root)

-- Clauses over their variables alone have a solution exactly where some choice answers.
pub record Asks (vars : List VarDecl) (Answers : List (List Bit) → Type 0) (formula : Formula) : Type 0 where
  pub below : AllBelow formula.vars formula.clauses
  pub asked : ((v : ℕ → Bool) × Solves v formula.clauses) ↔ ((choice : List (List Bit)) × IsChoice vars choice × Answers choice)

-- no choice answers
abbrev pub NoneAnswers : List VarDecl → (List (List Bit) → Type 0) → Type 0
NoneAnswers vars Answers = (choice : List (List Bit)) → IsChoice vars choice → Answers choice → ⊥
