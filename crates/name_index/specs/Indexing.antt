-- Places of names in a list, and what an index tells of them.
use Rattle.std.specs.Prelude.{◌≡◌, ℕ, List, Option}
use Rattle.std.specs.List.{position_from}
use Rattle.std.specs.Str.{bytes_eq}
use Rattle.name_index.specs.Under.{under}
use Rattle.name_index.specs.declared.index.NameIndex.{NameIndex}

-- the number of the first of the names that is this one, from 0
unfoldable pub place_of : List (List ℕ) → List ℕ → Option ℕ
place_of names name = position_from (bytes_eq name) 0 names

-- the number under a name
unfoldable pub number_under : NameIndex → List ℕ → Option ℕ
number_under index name = under index.numbers name

-- the numbers are the places in a list of names, of which the first counts
abbrev pub Indexes : NameIndex → List (List ℕ) → Type 0
Indexes index names = (name : List ℕ) → number_under index name ≡ place_of names name
