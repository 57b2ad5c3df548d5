-- The laws over runs.
use Rattle.std.specs.Prelude.{◌≡◌, ℕ, List}
use Rattle.fourvec.specs.declared.Bit.{Bit}
use Rattle.settling.specs.Settling.{Store, Even}
use Rattle.sv_meaning.specs.Designs.{Design, links_of}
use Rattle.sv_tree.specs.declared.exprs.Expr.{Expr}
use Rattle.svtv_table.specs.declared.bound.Sample.{Sample}
use Rattle.svtv_table.specs.declared.bound.VarDecl.{VarDecl}
use Rattle.svtv_runs.specs.Runs.{Asked, AreApart, Run, IsUnder, IsLeastRun, IsLeastRunFrom}
use Rattle.svtv_runs.specs.Truths.{IsTrueIn}

-- there is a run below every run
abbrev pub LeastRunStands : Type 0
LeastRunStands = (d : Design) (rows : Asked) (phases : ℕ) → AreApart rows → (r : Run) × IsLeastRun d rows phases r

-- and no other
abbrev pub LeastRunIsOne : Type 0
LeastRunIsOne = (d : Design) (rows : Asked) (phases : ℕ) (r s : Run) → IsLeastRun d rows phases r → IsLeastRun d rows phases s → r ≡ s

-- From each valuation in which joined bits are equal there is a run below every run from there.
abbrev pub LeastRunStandsFrom : Type 0
LeastRunStandsFrom = (d : Design) (rows : Asked) (phases : ℕ) (first : Store) → AreApart rows → Even (links_of d.works) first → (r : Run) × IsLeastRunFrom d rows phases first r

-- and no other
abbrev pub LeastRunIsOneFrom : Type 0
LeastRunIsOneFrom = (d : Design) (rows : Asked) (phases : ℕ) (first : Store) (r s : Run) → IsLeastRunFrom d rows phases first r → IsLeastRunFrom d rows phases first s → r ≡ s

-- What is true in a run is true in each run above it.
abbrev pub TruthsLast : Type 0
TruthsLast = (vars : List VarDecl) (samples : List Sample) (choice : List (List Bit)) (r s : Run) (x : Expr) → IsUnder r s → IsTrueIn vars samples choice r x → IsTrueIn vars samples choice s x
