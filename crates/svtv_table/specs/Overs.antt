-- The wires that are overridden in a phase.
use Rattle.std.specs.Prelude.{ℕ, ◌==◌, ◌&&◌, ◌<◌, Bool, List, [], ◌∷◌, length, slice_index_or, Option, None, is_some, if◌then◌else◌}
use Rattle.std.specs.List.{flat_map, list_any}
use Rattle.svtv_table.specs.declared.bound.Drive.{Drive}

-- a row has something in the phase that its wire is set to
abbrev pub sets_in : List (Option Drive) → ℕ → Bool
sets_in cells phase = is_some (slice_index_or cells phase None)

-- a row of the wire sets it in the phase
abbrev pub is_overridden_at : List (ℕ × List (Option Drive)) → ℕ → ℕ → Bool
is_overridden_at overs phase n = list_any (λ row. (row.0 == n) && sets_in row.1 phase) overs

-- the wire of a row, where it is set in the phase
abbrev pub set_wire : ℕ → ℕ × List (Option Drive) → List ℕ
set_wire phase row = if sets_in row.1 phase then row.0 ∷ [] else []

-- the wires that are set in the phase, in the order of the rows
abbrev pub set_wires : List (ℕ × List (Option Drive)) → ℕ → List ℕ
set_wires overs phase = flat_map (set_wire phase) overs

-- each number is below all that stand behind it
abbrev pub IsAscending : List ℕ → Type 0
IsAscending numbers = (i j : ℕ) → i < j → j < length numbers → slice_index_or numbers i 0 < slice_index_or numbers j 0
