-- The modules of a text (IEEE 1800-2017, 3.13 and 23.2).
use Rattle.std.specs.Prelude.{ℕ, suc, List, [], ◌∷◌, ◌++◌, length, map, Ok, Err, if◌then◌else◌}
use Rattle.std.specs.Borrow.{Bor}
use Rattle.sv_tree.specs.declared.design.Module.{Module}
use Rattle.sv_tree.specs.declared.design.SourcePart.{SourcePart}
use Rattle.sv_meaning.specs.Faults.{Judged, provided}
use Rattle.sv_meaning.specs.Layouts.{Name}
use Rattle.sv_meaning.specs.Names.{has_name}
use Rattle.sv_hierarchy.specs.Libraries.{modules_in, repeated}
use Rattle.sv_hierarchy.specs.Scopes.{instantiated_by, unclear}

abbrev pub module_name : Module → Name
module_name m = m.name.text

-- the modules of a text, of which each name comes once
abbrev pub modules_once : List SourcePart → Judged (List Module)
modules_once parts = provided (repeated [] (modules_in parts)) (modules_in parts)

abbrev pub trees_of : List (Bor Module) → List Module
trees_of all = map (λ (m : Bor Module). m.now) all

-- ---- the top

-- the names of the modules that these instantiate
unfoldable pub used_in : List Module → List Name
used_in [] = []
used_in (m ∷ more) = instantiated_by m.items ++ used_in more

-- the numbers, from one on, of the modules whose names are not among these
unfoldable pub unused_from : ℕ → List Name → List Module → List ℕ
unused_from n used [] = []
unused_from n used (m ∷ more) = (if has_name m.name.text used then [] else n ∷ []) ++ unused_from (suc n) used more

-- the only number, or a refusal with how many there are
abbrev pub only_one : List ℕ → Judged ℕ
only_one [] = Err (unclear 0)
only_one (n ∷ []) = Ok n
only_one (m ∷ n ∷ more) = Err (unclear (length (m ∷ n ∷ more)))
