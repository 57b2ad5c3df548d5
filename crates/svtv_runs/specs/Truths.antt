-- What goals say of choices and runs (this project's definition).
use Rattle.std.specs.Prelude.{◌≡◌, ℕ, List, [], slice_get, slice_index_or, Option, Some, None}
use Rattle.std.specs.List.{All}
use Rattle.fourvec.specs.declared.Bit.{Bit}
use Rattle.fourvec.specs.declared.Bit.TheVariants.{One, Unknown}
use Rattle.settling.specs.Settling.{Store}
use Rattle.sv_meaning.specs.Layouts.{Read, of_wires, of_choice, of_samples}
use Rattle.sv_meaning.specs.Meanings.{truth}
use Rattle.sv_meaning.specs.Values.{mean}
use Rattle.sv_tree.specs.declared.exprs.Expr.{Expr}
use Rattle.svtv_table.specs.declared.bound.Sample.{Sample}
use Rattle.svtv_table.specs.declared.bound.VarDecl.{VarDecl}
use Rattle.goal_tree.specs.declared.tree.GoalTree.{GoalTree}
use Rattle.goal_text.specs.Scopes.{variables_of, claims_scope}
use Rattle.svtv_runs.specs.Runs.{Run}

-- ---- what variables and samples have

abbrev pub no_store : Store
no_store n k = Unknown

-- the valuation of a phase
abbrev pub valuation : Run → ℕ → Store
valuation r phase = slice_index_or r.later phase no_store

-- a bit of the signal of a sample, in its phase
abbrev pub sampled : Run → Option Sample → ℕ → Bit
sampled r None k = Unknown
sampled r (Some s) k = valuation r s.phase s.wire k

abbrev pub table_values : List Sample → List (List Bit) → Run → Read
table_values samples choice r of_wires n k = Unknown
table_values samples choice r of_choice n k = slice_index_or (slice_index_or choice n []) k Unknown
table_values samples choice r of_samples n k = sampled r (slice_get samples n) k

-- ---- goals

abbrev pub no_run : Run
no_run = record { first = no_store; later = [] }

-- a hypothesis is true of a choice
abbrev pub IsMet : List VarDecl → List (List Bit) → Expr → Type 0
IsMet vars choice x = truth (mean (variables_of vars) x) (table_values [] choice no_run) ≡ One

-- a claim is true in a run
abbrev pub IsTrueIn : List VarDecl → List Sample → List (List Bit) → Run → Expr → Type 0
IsTrueIn vars samples choice r x = truth (mean (claims_scope vars samples) x) (table_values samples choice r) ≡ One

-- the choice meets each hypothesis of the goal
abbrev pub Meets : List VarDecl → GoalTree → List (List Bit) → Type 0
Meets vars goal choice = All (IsMet vars choice) goal.hyps

-- each claim of the goal is true in the run
abbrev pub Holds : List VarDecl → List Sample → GoalTree → List (List Bit) → Run → Type 0
Holds vars samples goal choice r = All (IsTrueIn vars samples choice r) goal.claims
