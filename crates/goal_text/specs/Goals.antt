-- The goals of a text, and why it has none.
use Rattle.std.specs.Prelude.{◌≡◌, ◌⊎◌, ℕ, List, [], Result, Ok, Err}
use Rattle.std.specs.List.{AllZip, Contains}
use Rattle.goal_tree.specs.declared.tree.GoalTree.{GoalTree}
use Rattle.goal_tree.specs.Goals.{IsGoals}
use Rattle.goal_tree.specs.Parsed.{IsSyntax, IsDeep}
use Rattle.sv_outside.specs.declared.refusal.Refusal.{Refusal}
use Rattle.sv_outside.specs.declared.refusal.TextErr.{TextErr}
use Rattle.sv_outside.specs.declared.refusal.TextErr.TheVariants.{No, Memory}
use Rattle.sv_outside.specs.declared.text.Token.{Token}
use Rattle.sv_token.specs.Cut.{IsRefused, IsWithin, Lexes, past, start}
use Rattle.svex_shape.specs.declared.shape.Shape.{Shape}
use Rattle.svtv_table.specs.declared.bound.Sample.{Sample}
use Rattle.svtv_table.specs.declared.bound.VarDecl.{VarDecl}
use Rattle.goal_text.specs.declared.goal.Goal.{Goal}
use Rattle.goal_text.specs.Faults.{goal_faults}
use Rattle.goal_text.specs.Nodes.{IsGoal}

-- the text is cut into these tokens
pub record IsCut (file : ℕ) (text : List ℕ) (tokens : List Token) : Type 0 where
  pub lexes : Lexes file text tokens
  pub within : IsWithin text tokens

-- the tokens of the text spell these trees
pub record Spell (file : ℕ) (text : List ℕ) (trees : List GoalTree) : Type 0 where
  pub tokens : List Token
  pub cut : IsCut file text tokens
  pub spelled : IsGoals trees tokens

-- The goals of a text: its tokens spell trees against which nothing stands, and each tree has its goal, in order.
pub record AreGoalsOf (file : ℕ) (text : List ℕ) (vars : List VarDecl) (samples : List Sample) (shapes : List Shape) (goals : List Goal) : Type 0 where
  pub trees : List GoalTree
  pub spell : Spell file text trees
  pub clear : goal_faults vars samples trees ≡ []
  pub each : AllZip (IsGoal vars samples shapes) trees goals

-- ---- refusals

-- The tokens spell no goals: why and where.
pub record IsUnread (file : ℕ) (text : List ℕ) (r : Refusal) : Type 0 where
  pub tokens : List Token
  pub cut : IsCut file text tokens
  pub why : IsSyntax tokens (past (start file) text) (No r) ⊎ IsDeep tokens (past (start file) text) (No r)

-- The tokens spell goals, against which this stands.
pub record IsFaulty (file : ℕ) (text : List ℕ) (vars : List VarDecl) (samples : List Sample) (r : Refusal) : Type 0 where
  pub trees : List GoalTree
  pub spell : Spell file text trees
  pub stands : Contains (goal_faults vars samples trees) r

-- The text is not cut into tokens, or they spell no goals, or something stands against these.
abbrev pub HasCause : ℕ → List ℕ → List VarDecl → List Sample → Refusal → Type 0
HasCause file text vars samples r = IsRefused file text r ⊎ (IsUnread file text r ⊎ IsFaulty file text vars samples r)

-- the trees of a text, or why there are none
abbrev pub AreTrees : ℕ → List ℕ → Result (List GoalTree) TextErr → Type 0
AreTrees file text (Ok trees) = Spell file text trees
AreTrees file text (Err (No r)) = IsRefused file text r ⊎ IsUnread file text r
AreTrees file text (Err Memory) = Unit {0}
