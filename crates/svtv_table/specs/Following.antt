-- Words of the inner functions alone: the state of their work.
use Rattle.std.specs.Prelude.{◌≡◌, ℕ, Bool, List, map, false, is_some, length, slice_index_or, slice_set, Option, Some, None}
use Rattle.fourvec.specs.declared.Bit.{Bit}
use Rattle.sv_outside.specs.declared.text.Signal.{Signal}
use Rattle.svtv_table.specs.Binding.{drives_of, is_driven, is_overridden, overs_of, sample_name, samples_of}
use Rattle.svtv_table.specs.Indexing.{Indexes}
use Rattle.svtv_table.specs.Names.{wire_of}
use Rattle.svtv_table.specs.declared.binding.Marked.{Marked}
use Rattle.svtv_table.specs.declared.binding.Work.{Work}
use Rattle.svtv_table.specs.declared.bound.VarDecl.{VarDecl}
use Rattle.svtv_table.specs.declared.samples.Samples.{Samples}
use Rattle.table_cells.specs.declared.table.Row.{Row}

-- the index is that of the samples' names
abbrev pub AreNamed : Samples → Type 0
AreNamed samples = Indexes samples.taken (map sample_name samples.list)

-- these rows are put in, and a wire is marked where a test of its path says so
pub record Gathers {T : Type 0} (wires : List Signal) (list : List (ℕ × List T)) (is_marked : List ℕ → Bool) (gathered : Marked T) : Type 0 where
  pub rows : gathered.rows ≡ list
  pub room : length gathered.marks.items ≡ length wires
  pub marks : (path : List ℕ) (wire : ℕ) → wire_of wires path ≡ Some wire → slice_index_or gathered.marks.items wire false ≡ is_marked path

-- the work after rows without faults
pub record Follows (wires : List Signal) (vars : List VarDecl) (rows : List Row) (work : Work) : Type 0 where
  pub drives : Gathers wires (drives_of wires vars rows) (is_driven rows) work.drives
  pub overs : Gathers wires (overs_of wires vars rows) (is_overridden rows) work.overs
  pub samples : work.samples.list ≡ samples_of wires rows
  pub named : AreNamed work.samples

-- the variable has a value
abbrev pub is_valued : List (Option (List Bit)) → Option ℕ → Bool
is_valued values None = false
is_valued values (Some number) = is_some (slice_index_or values number None)

-- the values with one more
abbrev pub with_value : List (Option (List Bit)) → Option ℕ → List Bit → List (Option (List Bit))
with_value values None value = values
with_value values (Some number) value = slice_set values number (Some value)
