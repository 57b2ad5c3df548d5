-- The modules of a text (IEEE 1800-2017, 3.13 and 23.2).
use Rattle.std.specs.Prelude.{◌≡◌, List, [], ◌∷◌, ◌++◌, length, map}
use Rattle.std.specs.List.{range_with_len}
use Rattle.sv_tree.specs.declared.design.Module.{Module}
use Rattle.sv_tree.specs.declared.design.SourcePart.{SourcePart}
use Rattle.sv_tree.specs.declared.design.SourcePart.TheVariants as part
use Rattle.sv_meaning.specs.Faults.{Faults, fault_if, or_then, twice}
use Rattle.sv_meaning.specs.Layouts.{Name}
use Rattle.sv_meaning.specs.Names.{has_name}
use Rattle.sv_hierarchy.specs.Scopes.{Library}

-- in the order of the text
unfoldable pub modules_in : List SourcePart → List Module
modules_in [] = []
modules_in (part.Module m ∷ more) = m ∷ modules_in more
modules_in (part.Typedef d ∷ more) = modules_in more
modules_in (part.Param p ∷ more) = modules_in more

-- a module whose name stands before it
unfoldable pub repeated : List Name → List Module → Faults
repeated before [] = []
repeated before (m ∷ more) = or_then (fault_if (has_name m.name.text before) twice m.name.place) (repeated (before ++ m.name.text ∷ []) more)

-- A library has these modules, numbered by their places in the text.
pub record IsLibraryOf (modules : List Module) (all : Library) : Type 0 where
  pub trees : map (λ m. m.tree) all ≡ modules
  pub numbers : map (λ m. m.number) all ≡ range_with_len 0 (length modules)
