-- The grammar of a file of goals, over that of expressions (IEEE 1800-2017, A.8) and identifiers (A.9.3).
use Rattle.std.specs.Prelude.{List, [], ◌∷◌, ◌++◌, codes}
use Rattle.sv_outside.specs.declared.text.Token.{Token}
use Rattle.sv_tree.specs.declared.exprs.Expr.{Expr}
use Rattle.sv_tree.specs.Spelling.{Text, Spelled, never, ◌⨟◌, mark, key, name, each}
use Rattle.sv_tree.specs.GrammarExprs.{Spells}
use Rattle.sv_tree.specs.Nesting.{Depths, one, three, each_depths, expr_depths}
use Rattle.goal_tree.specs.declared.tree.GoalTree.{GoalTree}

-- at least one, one after the other
abbrev pub some : {A : Type 0} → (A → Spelled) → List A → Spelled
some P [] = never
some P (x ∷ more) = P x ⨟ each P more

-- a word, an expression and a semicolon
abbrev pub statement : Text → Expr → Spelled
statement word x = key word ⨟ Spells 0 x ⨟ mark (codes ";")

abbrev pub SpellsGoal : GoalTree → Spelled
SpellsGoal g = key (codes "goal") ⨟ name g.name ⨟ mark (codes "{") ⨟ each (statement (codes "hyp")) g.hyps ⨟ some (statement (codes "claim")) g.claims ⨟ mark (codes "}")

-- all of the tokens spell the goals, one at least
abbrev pub IsGoals : List GoalTree → List Token → Type 0
IsGoals goals tokens = some SpellsGoal goals tokens []

-- ---- how many parts hold each token

abbrev pub statement_depths : Expr → Depths
statement_depths x = one ++ expr_depths x ++ one

abbrev pub goal_depths : GoalTree → Depths
goal_depths g = three ++ each_depths statement_depths g.hyps ++ each_depths statement_depths g.claims ++ one

abbrev pub goals_depths : List GoalTree → Depths
goals_depths goals = each_depths goal_depths goals
