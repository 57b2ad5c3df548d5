-- Values under names, as a map holds them.
use Rattle.std.specs.Prelude.{◌≡◌, ℕ, List, Option, cond}
use Rattle.std.specs.Str.{bytes_eq}
use Rattle.indexmap.specs.IndexMap.{get_by}
use Rattle.name_index.specs.declared.map.NameMap.{NameMap}

-- the value under a name
unfoldable pub under : NameMap → List ℕ → Option ℕ
under m name = get_by (λ key. bytes_eq name key.items) m.values

-- a name has this value from here on, and each other one what it had
abbrev pub Puts : NameMap → List ℕ → Option ℕ → NameMap → Type 0
Puts old name w new = (other : List ℕ) → under new other ≡ cond (bytes_eq name other) w (under old other)

-- each name has what it had
abbrev pub Keeps : NameMap → NameMap → Type 0
Keeps old new = (name : List ℕ) → under new name ≡ under old name
