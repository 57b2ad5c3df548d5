-- Modules and their numbers by name, as code holds them.
use Rattle.std.specs.Prelude.{◌≡◌, true, List, [], ◌∷◌, ◌++◌, map, is_some, None, Result, Ok, Err}
use Rattle.name_index.specs.Indexing.{number_under, Indexes}
use Rattle.name_index.specs.declared.index.NameIndex.{NameIndex}
use Rattle.sv_outside.specs.declared.refusal.TextErr.{TextErr}
use Rattle.sv_outside.specs.declared.refusal.TextErr.TheVariants.{No, Memory}
use Rattle.sv_tree.specs.declared.design.Module.{Module}
use Rattle.sv_meaning.specs.Faults.{twice}
use Rattle.sv_hierarchy.specs.Libraries.{repeated}
use Rattle.sv_modules.specs.Libraries.{module_name}

-- each has its number under its own name
abbrev pub AreNamed : NameIndex → List Module → Type 0
AreNamed numbers trees = Indexes numbers (map module_name trees)

-- the trees are these modules, of which no two have one name
pub record Lists (numbers : NameIndex) (trees modules : List Module) : Type 0 where
  pub trees_are : trees ≡ modules
  pub named : AreNamed numbers trees
  pub once : repeated [] modules ≡ []

-- a module is put behind the others: its name is new
pub record IsPut (old : NameIndex) (before : List Module) (tree : Module) (new : NameIndex) (after : List Module) : Type 0 where
  pub is_new : number_under old tree.name.text ≡ None
  pub named : AreNamed old before → AreNamed new after
  pub trees : after ≡ before ++ tree ∷ []

-- or it is refused, since one of them has the name
abbrev pub PutsModule : NameIndex → List Module → Module → NameIndex → List Module → Result Unit TextErr → Type 0
PutsModule old before tree new after (Ok u) = IsPut old before tree new after
PutsModule old before tree new after (Err (No r)) = (is_some (number_under old tree.name.text) ≡ true) × (r ≡ record { number = twice; place = tree.name.place; count = 0 })
PutsModule old before tree new after (Err Memory) = Unit {0}
