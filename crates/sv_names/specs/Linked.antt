-- Names in a list, found from its end: the last place of each name, and for each entry the place of its name before it.
use Rattle.std.specs.Prelude.{◌≡◌, ℕ, zero, suc, ◌<◌, List, [], length, get_or, Option, Some, None, if◌then◌else◌}
use Rattle.std.specs.Str.{bytes_eq}
use Rattle.name_index.specs.Under.{under}
use Rattle.sv_meaning.specs.Layouts.{Name}
use Rattle.sv_names.specs.declared.links.Links.{Links}

-- the last place of a name among the first so many
unfoldable pub last_among : List Name → Name → ℕ → Option ℕ
last_among names name zero = None
last_among names name (suc k) = if bytes_eq (get_or names k []) name then Some k else last_among names name k

unfoldable pub latest_of : Links → Name → Option ℕ
latest_of links name = under links.latest name

-- The links are those of these names.
pub record IsLinked (links : Links) (names : List Name) : Type 0 where
  pub latest : (name : Name) → latest_of links name ≡ last_among names name (length names)
  pub count : length links.earlier.items ≡ length names
  pub earlier : (i : ℕ) → i < length names → get_or links.earlier.items i None ≡ last_among names (get_or names i []) i
