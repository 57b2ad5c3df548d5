-- A table that is bound to the wires of a design asks of it what its cells say.
use Rattle.std.proofs.Common.{◌≡◌, ℕ, zero, suc, ◌+◌, List, [], ◌∷◌, ◌++◌, refl, arith, Option, Some, None}
use Rattle.std.specs.List.{All, AllByRecursion}
use Rattle.std.proofs.lemmas.List.Elements.{All-from_recursion}
use Rattle.fourvec.specs.declared.Bit.{Bit}
use Rattle.flat_net.specs.declared.flat.Flat.{Flat}
use Rattle.sv_elab.specs.Elaborated.{IsElaborated}
use Rattle.sv_meaning.specs.Designs.{Design}
use Rattle.sv_outside.specs.declared.text.Signal.{Signal}
use Rattle.svtv_table.proofs.Apart.{drives_apart, overs_apart}
use Rattle.svtv_texts.proofs.Passed.{still_apart}
use Rattle.svtv_texts.specs.Passed.{Poses, bench}
use Rattle.svtv_runs.specs.Runs.{AreApart, asks_of}
use Rattle.svtv_table.specs.Binding.{HasWidth, bind_faults, bound_of, cell_sample, sampled_by, sampled_in, samples_of}
use Rattle.svtv_table.specs.Faults.{at_each}
use Rattle.svtv_table.specs.Names.{signal_at, wire_of, width_of, wire_number}
use Rattle.svtv_table.specs.Stimuli.{IsChoice, drive_value, setting_value}
use Rattle.svtv_table.specs.declared.bound.Sample.{Sample}
use Rattle.table_cells.specs.declared.table.Cell.{Cell}
use Rattle.table_cells.specs.declared.table.Cell.TheVariants as cell
use Rattle.table_cells.specs.declared.table.Row.{Row}
use Rattle.table_cells.specs.declared.table.RowKind.{RowKind}
use Rattle.table_cells.specs.declared.table.RowKind.TheVariants.{In, Over, Out}
use Rattle.table_cells.specs.declared.table.Table.{Table}
use Rattle.svtv_table.proofs.Meaning.{means, sets}
use Rattle.svtv_files.specs.Files.{bench_of}

-- ---- what the bound table asks

-- no wire has two rows of one kind
pub apart : (wires : List Signal) (table : Table) → bind_faults wires table ≡ [] → (choice : List (List Bit)) → AreApart (asks_of choice (bound_of wires table))
apart wires table h choice = record {
  stimuli = still_apart (drive_value choice) (bound_of wires table).drives (λ i j l k e. drives_apart wires table h i j (0, []) l k e);
  settings = still_apart (setting_value choice) (bound_of wires table).overs (λ i j l k e. overs_apart wires table h i j (0, []) l k e);
}

pub asks_are : (design : Design) (table : Table) → bind_faults design.wires table ≡ [] → (choice : List (List Bit)) → IsChoice (bound_of design.wires table).vars choice → asks_of choice (bound_of design.wires table) ≡ (bench_of design table).asked choice
unfolding bound_of
asks_are design table h choice is = λ i. record { stimuli = means design.wires table h choice is i; settings = sets design.wires table h choice is i }

-- the flat design and the bound table pose what the design and the table do
pub poses : (design : Design) (flat : Flat) (table : Table) → IsElaborated design flat → bind_faults design.wires table ≡ [] → Poses design (bench_of design table).asked flat (bound_of design.wires table)
unfolding bound_of
poses design flat table e h = record {
  elaborated = e;
  asked = λ choice is. asks_are design table h choice is;
  apart = λ choice. apart design.wires table h choice;
}

pub bench_is : (design : Design) (table : Table) → bench design (bench_of design table).asked (bound_of design.wires table) ≡ bench_of design table
unfolding bound_of
bench_is design table = refl

-- ---- the widths of samples

wire_wide : (wires : List Signal) (o : Option ℕ) → All (λ w. HasWidth w.width) wires → HasWidth (signal_at wires o).width
wire_wide wires None h = (omega arith, omega arith)
wire_wide [] (Some n) h = (omega arith, omega arith)
wire_wide (w ∷ wires) (Some zero) h = h 0 w (omega arith)
wire_wide (w ∷ wires) (Some (suc n)) h = wire_wide wires (Some n) (λ i d l. h (suc i) d (omega (arith, l)))

module _ (wires : List Signal) (wide : All (λ w. HasWidth w.width) wires) where
  abbrev IsWide : Sample → Type 0
  IsWide s = HasWidth s.width

  both : (xs ys : List Sample) → AllByRecursion IsWide xs → AllByRecursion IsWide ys → AllByRecursion IsWide (xs ++ ys)
  both [] ys h k = k
  both (x ∷ xs) ys h k = (h.0, both xs ys h.1 k)

  cell_wide : (wire width n : ℕ) (c : Cell) → HasWidth width → AllByRecursion IsWide (cell_sample wire width n c)
  cell_wide wire width n cell.Empty w = tt
  cell_wide wire width n (cell.Literal a) w = tt
  cell_wide wire width n cell.Zed w = tt
  cell_wide wire width n (cell.Named name) w = (w, tt)
  cell_wide wire width n cell.Flip w = tt
  cell_wide wire width n cell.Free w = tt

  cells_wide : (wire width n : ℕ) (cells : List Cell) → HasWidth width → AllByRecursion IsWide (at_each (cell_sample wire width) n cells)
  cells_wide wire width n [] w = tt
  cells_wide wire width n (c ∷ cs) w = both (cell_sample wire width n c) (at_each (cell_sample wire width) (n + 1) cs) (cell_wide wire width n c w) (cells_wide wire width (n + 1) cs w)

  row_wide : (kind : RowKind) (row : Row) → AllByRecursion IsWide (sampled_by wires kind row)
  row_wide In row = tt
  row_wide Over row = tt
  row_wide Out row = cells_wide (wire_number wires row.path) (width_of wires row.path) 0 row.cells (wire_wide wires (wire_of wires row.path) wide)

  rows_wide : (rows : List Row) → AllByRecursion IsWide (samples_of wires rows)
  rows_wide [] = tt
  rows_wide (row ∷ rows) = both (sampled_in wires row) (samples_of wires rows) (row_wide row.kind row) (rows_wide rows)

  pub samples_wide : (rows : List Row) → All (λ s. HasWidth s.width) (samples_of wires rows)
  samples_wide rows = All-from_recursion IsWide (samples_of wires rows) (rows_wide rows)
