-- Sets of names.
use Rattle.std.specs.Prelude.{◌≡◌, Bool, ◌||◌, List, map, is_some}
use Rattle.std.specs.Borrow.{Bor}
use Rattle.name_index.specs.Under.{under}
use Rattle.sv_tree.specs.declared.word.Word.{Word}
use Rattle.sv_meaning.specs.Layouts.{Name}
use Rattle.sv_meaning.specs.Names.{has_name}
use Rattle.sv_modules.specs.declared.name_set.NameSet.{NameSet}

-- ---- sets

unfoldable pub holds : NameSet → Name → Bool
holds s name = is_some (under s.names name)

-- the set has what it had, and these names
abbrev pub Adds : NameSet → List Name → NameSet → Type 0
Adds old names new = (name : Name) → holds new name ≡ (has_name name names || holds old name)

abbrev pub Holds : NameSet → List Name → Type 0
Holds s names = (name : Name) → holds s name ≡ has_name name names

-- ---- words

abbrev pub texts_of : List (Bor Word) → List Name
texts_of words = map (λ (w : Bor Word). w.now.text) words
