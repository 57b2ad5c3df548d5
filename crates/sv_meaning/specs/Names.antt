-- Lists of names.
use Rattle.std.specs.Prelude.{Bool, false, ◌||◌, List, [], ◌∷◌, bytes_eq}
use Rattle.sv_meaning.specs.Layouts.{Name}

unfoldable pub has_name : Name → List Name → Bool
has_name n [] = false
has_name n (m ∷ more) = bytes_eq m n || has_name n more
