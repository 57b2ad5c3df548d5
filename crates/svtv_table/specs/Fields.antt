-- The records of a text of comma-separated fields.
use Rattle.std.specs.Prelude.{◌≡◌, ℕ, Bool, ◌==◌, ◌||◌, List, [], ◌∷◌, map, slice_index_or, if◌then◌else◌}
use Rattle.csv.specs.Reading.{AreRecords, default_config, strip_bom}
use Rattle.csv.specs.Records.{Row, fields_of}
use Rattle.csv.specs.declared.parser.State.TheVariants as st

-- spaces and tabs
abbrev pub is_edge : ℕ → Bool
is_edge b = (b == 32) || (b == 9)

abbrev pub without_front : List ℕ → List ℕ
without_front [] = []
without_front (b ∷ bs) = if is_edge b then without_front bs else b ∷ bs

abbrev pub before_edges : ℕ → List ℕ → List ℕ
before_edges b [] = if is_edge b then [] else b ∷ []
before_edges b (c ∷ cs) = b ∷ c ∷ cs

abbrev pub without_end : List ℕ → List ℕ
without_end [] = []
without_end (b ∷ bs) = before_edges b (without_end bs)

-- a field without the spaces and tabs at its ends (this project's rule)
unfoldable pub trimmed : List ℕ → List ℕ
trimmed field = without_end (without_front field)

-- the fields that count, of a record that was read
abbrev pub fields_in : Row → List (List ℕ)
fields_in csv_record = map trimmed (fields_of csv_record)

-- the field at a place, from 0, and nothing past the last
abbrev pub field_at : List (List ℕ) → ℕ → List ℕ
field_at fields at = slice_index_or fields at []

-- The records of a text, each as its fields: those that `csv` reads with its defaults and no header row, a byte order mark
-- dropped. A blank line is none.
abbrev pub IsRecords : List ℕ → List (List (List ℕ)) → Type 0
IsRecords text rows = (records : List (List (List ℕ))) × AreRecords default_config st.StartRecord (strip_bom text) records × (rows ≡ map (map trimmed) records)
