-- Words of the inner functions alone.
use Rattle.std.specs.Prelude.{ℕ, List, [], ◌∷◌, ◌++◌, map, fold, is_some, if◌then◌else◌}
use Rattle.svtv_table.specs.Holding.{declaration}
use Rattle.svtv_table.specs.Names.{number_of}
use Rattle.svtv_table.specs.declared.bound.VarDecl.{VarDecl}
use Rattle.svtv_table.specs.declared.variables.Variables.{Variables}
pub use Rattle.name_index.specs.Indexing.{number_under, Indexes}

-- variables with one more, unless its name is there
abbrev pub with_var : List VarDecl → VarDecl → List VarDecl
with_var vars var = if is_some (number_of vars var.name) then vars else vars ++ var ∷ []

-- variables with more of them
abbrev pub with_vars : List VarDecl → List VarDecl → List VarDecl
with_vars vars more = fold with_var vars more

-- the variables of names, of one width
abbrev pub wide : ℕ → List (List ℕ) → List VarDecl
wide width names = map (λ name. record { name = name; width = width }) names

-- the variables, in their order
unfoldable pub listed : Variables → List VarDecl
listed variables = map declaration variables.list.items
