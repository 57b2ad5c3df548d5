-- Variables as the inner functions hold them.
use Rattle.std.specs.Prelude.{◌≡◌, ℕ, List, map}
use Rattle.name_index.specs.Indexing.{place_of}
use Rattle.name_index.specs.Under.{under}
use Rattle.name_index.specs.declared.map.NameMap.{NameMap}
use Rattle.svtv_table.specs.Names.{name_of}
use Rattle.svtv_table.specs.declared.bound.VarDecl.{VarDecl}
use Rattle.svtv_table.specs.declared.variables.Variable.{Variable}

-- a variable, with its name where a row has it
abbrev pub declaration : Variable → VarDecl
declaration variable = record { name = variable.name.now; width = variable.width }

-- each name has the place that it has among the variables
abbrev pub AreNumbered : NameMap → List Variable → Type 0
AreNumbered numbers list = (name : List ℕ) → under numbers name ≡ place_of (map name_of (map declaration list)) name
