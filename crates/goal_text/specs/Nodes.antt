-- Nodes that have the truths of expressions.
use Rattle.std.specs.Prelude.{◌≡◌, ℕ, ◌<◌, Bool, List, [], ◌∷◌, length, IsTrue}
use Rattle.std.specs.List.{AllZip}
use Rattle.fourvec.specs.declared.Bit.{Bit}
use Rattle.fourvec.specs.Bits.{truth_of}
use Rattle.goal_tree.specs.declared.tree.GoalTree.{GoalTree}
use Rattle.sv_meaning.specs.Layouts.{Scope}
use Rattle.sv_meaning.specs.Meanings.{truth}
use Rattle.sv_meaning.specs.Values.{mean}
use Rattle.sv_lower.specs.Lowering.{look_read, look_test, each_signal, HoldsOfDeclared}
use Rattle.sv_lower.specs.Nodes.{bits_at_node}
use Rattle.sv_lower.specs.declared.look.Look.TheVariants.{Present}
use Rattle.sv_tree.specs.declared.exprs.Expr.{Expr}
use Rattle.sv_typed.specs.declared.tree.Typed.{Typed}
use Rattle.sv_typed.specs.Typed.{own}
use Rattle.svex_shape.specs.declared.shape.Shape.{Shape}
use Rattle.svex_shape.specs.declared.shape.VarName.{VarName}
use Rattle.svex_shape.specs.Shapes.{width_at}
use Rattle.svex_shape.specs.Values.{each_variable}
use Rattle.svtv_table.specs.declared.bound.Sample.{Sample}
use Rattle.svtv_table.specs.declared.bound.VarDecl.{VarDecl}
use Rattle.goal_text.specs.declared.goal.Goal.{Goal}
use Rattle.goal_text.specs.Scopes.{variables_of, claims_scope, table_read, is_of_vars, is_of_table}

-- A node of one bit has the truth of an expression over the names of a scope, whatever bits variables have, and mentions only
-- variables that pass a test.
pub record IsTruth (at : Scope) (allowed : VarName → ℕ → Bool) (shapes : List Shape) (x : Expr) (node : ℕ) : Type 0 where
  pub within : node < length shapes
  pub width : width_at shapes node ≡ 1
  pub value : (bits : VarName → ℕ → Bit) → bits_at_node bits shapes node ≡ truth (mean at x) (table_read bits) ∷ []
  pub mentions : IsTrue (each_variable allowed shapes node)

-- A goal has the name of a tree, and in order a node for each hypothesis, over the variables, and for each claim, over the variables and samples.
pub record IsGoal (vars : List VarDecl) (samples : List Sample) (shapes : List Shape) (tree : GoalTree) (goal : Goal) : Type 0 where
  pub name : goal.name ≡ tree.name.text
  pub hyps : AllZip (IsTruth (variables_of vars) (is_of_vars vars) shapes) tree.hyps goal.hyps
  pub claims : AllZip (IsTruth (claims_scope vars samples) (is_of_table vars samples) shapes) tree.claims goal.claims

-- ---- words of the inner functions

-- a node has the truth of a typed expression, evaluated by itself, in the present of an older arena
pub record IsTruthOf (old new : List Shape) (t : Typed) (node : ℕ) : Type 0 where
  pub within : node < length new
  pub width : width_at new node ≡ 1
  pub value : (bits : VarName → ℕ → Bit) → bits_at_node bits new node ≡ truth_of (own t (look_read Present old bits))
  pub mentions : (p : VarName → ℕ → Bool) → IsTrue (each_signal (look_test Present old p) t) → IsTrue (each_variable p new node)

-- the same of an expression over the names of a scope: it mentions only signals that the scope declares
pub record HasTruth (at : Scope) (shapes : List Shape) (x : Expr) (node : ℕ) : Type 0 where
  pub within : node < length shapes
  pub width : width_at shapes node ≡ 1
  pub value : (bits : VarName → ℕ → Bit) → bits_at_node bits shapes node ≡ truth (mean at x) (table_read bits) ∷ []
  pub mentions : (p : VarName → ℕ → Bool) → HoldsOfDeclared at p → IsTrue (each_variable p shapes node)

-- a goal of a tree, whose hypotheses read the first scope and whose claims the second
pub record IsLowered (hyps claims : Scope) (shapes : List Shape) (tree : GoalTree) (goal : Goal) : Type 0 where
  pub name : goal.name ≡ tree.name.text
  pub over_hyps : AllZip (HasTruth hyps shapes) tree.hyps goal.hyps
  pub over_claims : AllZip (HasTruth claims shapes) tree.claims goal.claims
