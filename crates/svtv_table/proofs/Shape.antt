-- The numbers in what is bound, for a table without faults.
use Rattle.std.proofs.Common.{◌≡◌, ◌<◌, ◌≤◌, ◌+◌, ℕ, suc, List, [], ◌∷◌, ◌++◌, map, length, take, Bool, true, false, ◌||◌, Option, Some, None, refl, ◌∙◌, ap, subst, arith}
use Rattle.std.specs.Prelude.{All, is_none, not, unwrap_or}
use Rattle.std.specs.List.{AllByRecursion}
use Rattle.std.proofs.lemmas.List.{length-map}
use Rattle.std.proofs.lemmas.List.Elements.{All-from_recursion, recursion_from_All}
use Rattle.sv_outside.specs.declared.refusal.Refusal.{Refusal}
use Rattle.sv_outside.specs.declared.text.Signal.{Signal}
use Rattle.svtv_table.specs.Binding.{IsAsWide, IsBound, IsDriven, IsOverridden, IsSampled, IsSetAsWide, wire_width, bind_faults, bound_of, cell_sample, drives_of, driven_by, driven_in, faults_after, faults_by, lacks_signal, overridden_by, overridden_in, overs_of, phase_over, row_faults, sampled_by, sampled_in, samples_of, variables_of, wire_faults}
use Rattle.svtv_table.specs.Drives.{phase_drive}
use Rattle.svtv_table.specs.Faults.{at_each, fault, fault_if}
use Rattle.svtv_table.specs.Names.{path_of, signal_at, signal_of, width_of, wire_number, wire_of}
use Rattle.svtv_table.specs.Reading.{IsWellFormed}
use Rattle.svtv_table.specs.declared.bound.VarDecl.{VarDecl}
use Rattle.table_cells.specs.declared.table.Cell.{Cell}
use Rattle.table_cells.specs.declared.table.Cell.TheVariants as cell
use Rattle.table_cells.specs.declared.table.Row.{Row}
use Rattle.table_cells.specs.declared.table.RowKind.{RowKind}
use Rattle.table_cells.specs.declared.table.RowKind.TheVariants.{In, Over, Out}
use Rattle.table_cells.specs.declared.table.Table.{Table}
use Rattle.svtv_table.proofs.Apart.{drives_apart, overs_apart}
use Rattle.svtv_table.proofs.Formed.{both_none}
use Rattle.svtv_table.proofs.Places.{within_from}
use Rattle.svtv_table.proofs.Widths.{Declares, declares, drives_wide, overs_wide}

all_append : {A : Type 0} (P : A → Type 0) (xs ys : List A) → AllByRecursion P xs → AllByRecursion P ys → AllByRecursion P (xs ++ ys)
all_append P [] ys h k = k
all_append P (x ∷ xs) ys h k = (h.0, all_append P xs ys h.1 k)

number_of_some : (o : Option ℕ) (n : ℕ) → ((i : ℕ) → o ≡ Some i → i < n) → is_none o ≡ false → unwrap_or o 0 < n
number_of_some None n f h = cc
number_of_some (Some i) n f h = f i refl

wire_below : (wires : List Signal) (path : List ℕ) → is_none (wire_of wires path) ≡ false → wire_number wires path < length wires
wire_below wires path h =
    number_of_some (wire_of wires path) (length wires) (λ i e. omega (arith, within_from (map path_of wires) path i e, length-map wires path_of)) h

no_fault : (b : Bool) (r : Refusal) → fault_if b r ≡ [] → b ≡ false
no_fault true r h = cc
no_fault false r h = refl

left_false : (a b : Bool) → (a || b) ≡ false → a ≡ false
left_false true b h = cc
left_false false b h = refl

has_wire : (wires : List Signal) (kind : RowKind) (path : List ℕ) → lacks_signal wires kind path ≡ false → is_none (wire_of wires path) ≡ false
has_wire wires In path h = left_false (is_none (wire_of wires path)) (not (signal_of wires path).input) h
has_wire wires Over path h = h
has_wire wires Out path h = h

length-at_each : {A B : Type 0} (u : ℕ → B) (n : ℕ) (xs : List A) → length (at_each (λ k x. u k ∷ []) n xs) ≡ length xs
length-at_each u n [] = refl
length-at_each u n (x ∷ xs) = ap (λ m. suc m) (length-at_each u (n + 1) xs)

length-overs : (width : ℕ) (vars : List VarDecl) (n : ℕ) (cells : List Cell) → length (at_each (phase_over width vars) n cells) ≡ length cells
length-overs width vars n [] = refl
length-overs width vars n (c ∷ cells) = ap (λ m. suc m) (length-overs width vars (n + 1) cells)

row_there : (wires : List Signal) (vars : List VarDecl) (before : List Row) (line : ℕ) (row : Row) → faults_after wires vars before line row ≡ [] → is_none (wire_of wires row.path) ≡ false
unfolding faults_after wire_faults
row_there wires vars before line row h =
    let fine : fault_if (lacks_signal wires row.kind row.path) (fault 29 line 2) ≡ [] = (both_none (wire_faults wires line row) (faults_by wires vars before line row.kind row) h).0 in
    has_wire wires row.kind row.path (no_fault (lacks_signal wires row.kind row.path) (fault 29 line 2) fine)

row_by_kind : (wires : List Signal) (vars : List VarDecl) (before : List Row) (line : ℕ) (row : Row) → faults_after wires vars before line row ≡ [] → faults_by wires vars before line row.kind row ≡ []
unfolding faults_after
row_by_kind wires vars before line row h = (both_none (wire_faults wires line row) (faults_by wires vars before line row.kind row) h).1

-- the width under a path is that of the wire of its number
number_width : (wires : List Signal) (o : Option ℕ) → is_none o ≡ false → (signal_at wires o).width ≡ wire_width wires (unwrap_or o 0)
number_width wires None h = cc
number_width wires (Some n) h = refl

path_width : (wires : List Signal) (path : List ℕ) → is_none (wire_of wires path) ≡ false → width_of wires path ≡ wire_width wires (wire_number wires path)
path_width wires path h = number_width wires (wire_of wires path) h

module _ (wires : List Signal) (phases : ℕ) where
  one_sample : (wire width n : ℕ) (c : Cell) → wire < length wires → width ≡ wire_width wires wire → n < phases → AllByRecursion (IsSampled wires phases) (cell_sample wire width n c)
  one_sample wire width n cell.Empty w e l = tt
  one_sample wire width n (cell.Literal a) w e l = tt
  one_sample wire width n cell.Zed w e l = tt
  one_sample wire width n (cell.Named name) w e l = (record { wire = w; phase = l; width = e }, tt)
  one_sample wire width n cell.Flip w e l = tt
  one_sample wire width n cell.Free w e l = tt

  all_samples : (wire width n : ℕ) (cells : List Cell) → wire < length wires → width ≡ wire_width wires wire → n + length cells ≤ phases → AllByRecursion (IsSampled wires phases) (at_each (cell_sample wire width) n cells)
  all_samples wire width n [] w e l = tt
  all_samples wire width n (c ∷ cs) w e l =
      all_append (IsSampled wires phases) (cell_sample wire width n c) (at_each (cell_sample wire width) (n + 1) cs) (one_sample wire width n c w e (omega (arith, l))) (all_samples wire width (n + 1) cs w e (omega (arith, l)))

  row_driven : (vars : List VarDecl) (before : List Row) (line : ℕ) (kind : RowKind) (row : Row) → is_none (wire_of wires row.path) ≡ false → length row.cells ≡ phases → faults_by wires vars before line kind row ≡ []
      → ((kind ≡ Out → ⊥) → Declares vars row.cells) → AllByRecursion (IsDriven wires vars phases) (driven_by wires vars kind row)
  row_driven vars before line In row t l f d = (
    record {
      wire = wire_below wires row.path t;
      long = length-at_each _ 0 row.cells ∙ l;
      widths = subst (λ w. All (IsAsWide vars w) (at_each (phase_drive (width_of wires row.path) vars row.cells) 0 row.cells)) (path_width wires row.path t) (drives_wide _ (width_of wires row.path) vars line row.cells f (d (λ e. cc)));
    },
    tt,
  )
  row_driven vars before line Over row t l f d = tt
  row_driven vars before line Out row t l f d = tt

  row_overridden : (vars : List VarDecl) (before : List Row) (line : ℕ) (kind : RowKind) (row : Row) → is_none (wire_of wires row.path) ≡ false → length row.cells ≡ phases → faults_by wires vars before line kind row ≡ []
      → ((kind ≡ Out → ⊥) → Declares vars row.cells) → AllByRecursion (IsOverridden wires vars phases) (overridden_by wires vars kind row)
  row_overridden vars before line In row t l f d = tt
  row_overridden vars before line Over row t l f d = (
    record {
      wire = wire_below wires row.path t;
      long = length-overs (width_of wires row.path) vars 0 row.cells ∙ l;
      widths = subst (λ w. All (IsSetAsWide vars w) (at_each (phase_over (width_of wires row.path) vars) 0 row.cells)) (path_width wires row.path t) (overs_wide _ (width_of wires row.path) vars line row.cells f (d (λ e. cc)));
    },
    tt,
  )
  row_overridden vars before line Out row t l f d = tt

  row_sampled : (kind : RowKind) (row : Row) → is_none (wire_of wires row.path) ≡ false → length row.cells ≡ phases → AllByRecursion (IsSampled wires phases) (sampled_by wires kind row)
  row_sampled In row t l = tt
  row_sampled Over row t l = tt
  row_sampled Out row t l = all_samples (wire_number wires row.path) (width_of wires row.path) 0 row.cells (wire_below wires row.path t) (path_width wires row.path t) (omega (arith, l))

  -- each row but those of samples names variables that there are
  abbrev AllDeclare : List VarDecl → List Row → Type 0
  AllDeclare vars rows = AllByRecursion (λ row. (row.kind ≡ Out → ⊥) → Declares vars row.cells) rows

  all_driven : (vars : List VarDecl) (all : List Row) (n : ℕ) (rows : List Row) → at_each (row_faults wires vars all) n rows ≡ [] → AllByRecursion (λ row. length row.cells ≡ phases) rows
      → AllDeclare vars rows → AllByRecursion (IsDriven wires vars phases) (drives_of wires vars rows)
  all_driven vars all n [] h l d = tt
  all_driven vars all n (row ∷ rows) h l d =
      let parts = both_none (row_faults wires vars all n row) (at_each (row_faults wires vars all) (n + 1) rows) h in
      all_append (IsDriven wires vars phases) (driven_in wires vars row) (drives_of wires vars rows)
      (row_driven vars (take n all) (n + 1) row.kind row (row_there wires vars (take n all) (n + 1) row parts.0) l.0 (row_by_kind wires vars (take n all) (n + 1) row parts.0) d.0)
      (all_driven vars all (n + 1) rows parts.1 l.1 d.1)

  all_overridden : (vars : List VarDecl) (all : List Row) (n : ℕ) (rows : List Row) → at_each (row_faults wires vars all) n rows ≡ [] → AllByRecursion (λ row. length row.cells ≡ phases) rows
      → AllDeclare vars rows → AllByRecursion (IsOverridden wires vars phases) (overs_of wires vars rows)
  all_overridden vars all n [] h l d = tt
  all_overridden vars all n (row ∷ rows) h l d =
      let parts = both_none (row_faults wires vars all n row) (at_each (row_faults wires vars all) (n + 1) rows) h in
      all_append (IsOverridden wires vars phases) (overridden_in wires vars row) (overs_of wires vars rows)
      (row_overridden vars (take n all) (n + 1) row.kind row (row_there wires vars (take n all) (n + 1) row parts.0) l.0 (row_by_kind wires vars (take n all) (n + 1) row parts.0) d.0)
      (all_overridden vars all (n + 1) rows parts.1 l.1 d.1)

  all_sampled : (vars : List VarDecl) (all : List Row) (n : ℕ) (rows : List Row) → at_each (row_faults wires vars all) n rows ≡ [] → AllByRecursion (λ row. length row.cells ≡ phases) rows → AllByRecursion (IsSampled wires phases) (samples_of wires rows)
  all_sampled vars all n [] h l = tt
  all_sampled vars all n (row ∷ rows) h l =
      let parts = both_none (row_faults wires vars all n row) (at_each (row_faults wires vars all) (n + 1) rows) h in
      all_append (IsSampled wires phases) (sampled_in wires row) (samples_of wires rows) (row_sampled row.kind row (row_there wires vars (take n all) (n + 1) row parts.0) l.0) (all_sampled vars all (n + 1) rows parts.1 l.1)

pub is_bound : (wires : List Signal) (table : Table) → IsWellFormed table → bind_faults wires table ≡ [] → IsBound wires (bound_of wires table)
unfolding bind_faults bound_of
is_bound wires table formed h =
    let rows = table.rows in
    let vars = variables_of wires rows in
    let cells : AllByRecursion (λ row. length row.cells ≡ table.phases) rows = recursion_from_All (λ (row : Row). length row.cells ≡ table.phases) rows formed.cells in
    let named : AllDeclare wires table.phases vars rows = recursion_from_All (λ (row : Row). (row.kind ≡ Out → ⊥) → Declares vars row.cells) rows (λ i d l k. declares wires rows i d l k) in
    record {
      drives = All-from_recursion (IsDriven wires vars table.phases) (drives_of wires vars rows) (all_driven wires table.phases vars rows 0 rows h cells named);
      apart = λ i j l k e. drives_apart wires table h i j (0, []) l k e;
      overs = All-from_recursion (IsOverridden wires vars table.phases) (overs_of wires vars rows) (all_overridden wires table.phases vars rows 0 rows h cells named);
      overs_apart = λ i j l k e. overs_apart wires table h i j (0, []) l k e;
      samples = All-from_recursion (IsSampled wires table.phases) (samples_of wires rows) (all_sampled wires table.phases vars rows 0 rows h cells);
    }
