-- The file level, part by part.
use Rattle.std.specs.Prelude.{◌≡◌, ℕ, [], ◌∷◌, ◌++◌, length, map, Ok}
use Rattle.sv_tree.specs.declared.design.Module.{Module}
use Rattle.sv_tree.specs.declared.design.SourcePart.{SourcePart}
use Rattle.sv_tree.specs.declared.design.SourcePart.TheVariants as part
use Rattle.sv_meaning.specs.Faults.{Judged, provided, fault_if, twice, ◌>>=◌}
use Rattle.sv_hierarchy.specs.Scopes as m
use Rattle.sv_modules.specs.Naming.{Holds}
use Rattle.sv_scope.specs.declared.file.Listed.{Listed}

-- a library with these names of modules, and with this many names of the file level above each
pub record Lists (listed : Listed) (all : m.Library) : Type 0 where
  pub names : Holds listed.names (map (λ (k : m.Known). k.tree.name.text) all)
  pub above : map (λ (k : m.Known). k.above) all ≡ listed.above

-- a module that sees so many names
abbrev pub one_module : Module → ℕ → m.Library → Judged m.Known
one_module t n all = provided (fault_if (m.is_there (m.module_named t.name.text all)) twice t.name.place) (record { tree = t; number = length all; above = n })

abbrev pub listed_with : m.Library → m.State → m.Known → Judged (m.Library × m.State)
listed_with all st k = Ok (all ++ k ∷ [], st)

abbrev pub listed_at : m.Library → m.State → Judged (m.Library × m.State)
listed_at all st = Ok (all, st)

-- a part of a text
abbrev pub one_part : SourcePart → m.Library → m.State → Judged (m.Library × m.State)
one_part (part.Module t) all st = one_module t (m.here st).consts all >>= listed_with all st
one_part (part.Typedef d) all st = m.add_typedef d st >>= listed_at all
one_part (part.Param p) all st = m.add_params p st >>= listed_at all
