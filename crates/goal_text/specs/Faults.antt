-- What stands against goals.
use Rattle.std.specs.Prelude.{ℕ, Bool, List, [], ◌∷◌, ◌++◌}
use Rattle.goal_tree.specs.declared.tree.GoalTree.{GoalTree}
use Rattle.sv_meaning.specs.Faults.{Faults, fault_if}
use Rattle.sv_meaning.specs.Layouts.{Name, Scope}
use Rattle.sv_meaning.specs.Meanings.{free_faults}
use Rattle.sv_meaning.specs.Names.{has_name}
use Rattle.sv_meaning.specs.Values.{mean}
use Rattle.sv_tree.specs.declared.exprs.Expr.{Expr}
use Rattle.svtv_table.specs.declared.bound.Sample.{Sample}
use Rattle.svtv_table.specs.declared.bound.VarDecl.{VarDecl}
use Rattle.goal_text.specs.Scopes.{variables_of, claims_scope}

-- a second goal of a name
abbrev pub twice_goal : ℕ
twice_goal = 34

-- against expressions over the names of a scope
unfoldable pub exprs_faults : Scope → List Expr → Faults
exprs_faults at [] = []
exprs_faults at (x ∷ more) = free_faults (mean at x) ++ exprs_faults at more

-- against a goal, whose name a goal before it may have; hypotheses read the first scope, claims the second
abbrev pub tree_faults : Bool → Scope → Scope → GoalTree → Faults
tree_faults taken hyps claims g = fault_if taken twice_goal g.name.place ++ (exprs_faults hyps g.hyps ++ exprs_faults claims g.claims)

-- against goals behind those of these names
unfoldable pub goals_faults : List Name → Scope → Scope → List GoalTree → Faults
goals_faults before hyps claims [] = []
goals_faults before hyps claims (g ∷ more) = tree_faults (has_name g.name.text before) hyps claims g ++ goals_faults (before ++ g.name.text ∷ []) hyps claims more

-- against all goals of a file, in the order of the text
abbrev pub goal_faults : List VarDecl → List Sample → List GoalTree → Faults
goal_faults vars samples trees = goals_faults [] (variables_of vars) (claims_scope vars samples) trees
