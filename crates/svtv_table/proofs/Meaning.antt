-- The drives of a table without faults give what its cells say, and its overridings set what they say.
use Rattle.std.proofs.Common.{◌≡◌, ◌<◌, ◌≤◌, ◌+◌, ℕ, zero, suc, List, [], ◌∷◌, ◌++◌, map, length, get_or, take, Bool, true, false, cond, Option, Some, None, refl, sym, ◌∙◌, ap, subst, arith, ⊎_elim}
use Rattle.std.specs.Prelude.{is_none, not, unwrap_or, option_map}
use Rattle.std.proofs.lemmas.Bool.{cases_lt}
use Rattle.std.proofs.lemmas.List.{map-append, get_or_past}
use Rattle.fourvec.specs.declared.Bit.{Bit}
use Rattle.fourvec.specs.declared.Bit.TheVariants.{Zero, One, Unknown, Floating}
use Rattle.fourvec.specs.Bits.{each, is_known, not_of}
use Rattle.sv_outside.specs.declared.refusal.Refusal.{Refusal}
use Rattle.sv_outside.specs.declared.text.Signal.{Signal}
use Rattle.svtv_table.specs.Binding.{cell_differs, drive_faults, drives_of, driven_by, driven_in, faults_after, faults_by, bind_faults, bound_of, in_faults, over_faults, overridden_by, overridden_in, overs_of, phase_faults, phase_over, row_faults, set_faults, variables_of, wire_faults}
use Rattle.svtv_table.specs.Drives.{drive_before, drive_in, drive_of, flipped_drive, held, is_over_cell, over_drive, phase_drive}
use Rattle.table_cells.specs.Constants.{constant, fits}
use Rattle.svtv_table.specs.Faults.{at_each, fault, fault_if}
use Rattle.svtv_table.specs.Names.{width_of, wire_number}
use Rattle.svtv_table.specs.Stimuli.{IsChoice, Means, Sets, drive_value, given, setting_of, setting_value, settings_by, settings_in, settings_of, stimuli_by, stimuli_of, stimulus, stimulus_before, stimulus_of, values_of}
use Rattle.svtv_table.specs.declared.bound.Drive.{Drive}
use Rattle.svtv_table.specs.declared.bound.Drive.TheVariants as drive
use Rattle.svtv_table.specs.declared.bound.VarDecl.{VarDecl}
use Rattle.table_cells.specs.declared.table.Cell.{Cell}
use Rattle.table_cells.specs.declared.table.Cell.TheVariants as cell
use Rattle.table_cells.specs.declared.table.Row.{Row}
use Rattle.table_cells.specs.declared.table.RowKind.{RowKind}
use Rattle.table_cells.specs.declared.table.RowKind.TheVariants.{In, Over, Out}
use Rattle.table_cells.specs.declared.table.Table.{Table}
use Rattle.svtv_table.proofs.Formed.{both_none, none_at}

-- ---- the complement of the complement

twice : (v : List Bit) → is_known v ≡ true → not_of (not_of v) ≡ v
unfolding each is_known
twice [] h = refl
twice (Zero ∷ bs) h = ap (λ cs. Zero ∷ cs) (twice bs h)
twice (One ∷ bs) h = ap (λ cs. One ∷ cs) (twice bs h)
twice (Unknown ∷ bs) h = cc
twice (Floating ∷ bs) h = cc

abbrev Flips : List (List Bit) → Type 0
Flips choice = (n : ℕ) → not_of (not_of (given choice n)) ≡ given choice n

flips : (vars : List VarDecl) (choice : List (List Bit)) → IsChoice vars choice → Flips choice
unfolding each
flips vars choice h n = ⊎_elim
    (λ (l : n < length choice). twice (get_or choice n []) (h.known n [] l))
    (λ (l : length choice ≤ n). ap (λ v. not_of (not_of v)) (get_or_past choice n [] l) ∙ sym (get_or_past choice n [] l))
    (cases_lt n (length choice))

-- ---- one phase

abbrev value_if : List (List Bit) → Option Drive → Option (List Bit)
value_if choice None = None
value_if choice (Some d) = drive_value choice d

literal_step : (choice : List (List Bit)) (b : Bool) (v : List Bit) → is_none (cond b (Some (drive.Fixed v)) None) ≡ false → value_if choice (cond b (Some (drive.Fixed v)) None) ≡ Some v
literal_step choice true v h = refl
literal_step choice false v h = cc

fixed_step : (choice : List (List Bit)) (b : Bool) (v : List Bit) → is_none (cond b (Some (drive.Fixed (not_of v))) None) ≡ false → value_if choice (cond b (Some (drive.Fixed (not_of v))) None) ≡ Some (not_of v)
fixed_step choice true v h = refl
fixed_step choice false v h = cc

flip_step : (choice : List (List Bit)) → Flips choice → (before : Option Drive) → is_none (flipped_drive before) ≡ false → value_if choice (flipped_drive before) ≡ option_map not_of (value_if choice before)
flip_step choice f None h = cc
flip_step choice f (Some (drive.Fixed v)) h = fixed_step choice (is_known v) v h
flip_step choice f (Some (drive.Chosen n true)) h = ap (λ v. Some v) (sym (f n))
flip_step choice f (Some (drive.Chosen n false)) h = refl
flip_step choice f (Some drive.Free) h = cc

step : (choice : List (List Bit)) → Flips choice → (width : ℕ) (vars : List VarDecl) (c : Cell) (before : Option Drive) → is_none (drive_of width vars c before) ≡ false
    → value_if choice (drive_of width vars c before) ≡ stimulus_of choice width vars c (value_if choice before)
step choice f width vars cell.Empty before h = refl
step choice f width vars (cell.Literal l) before h = literal_step choice (fits l width) (constant l width) h
step choice f width vars cell.Zed before h = refl
step choice f width vars (cell.Named name) before h = refl
step choice f width vars cell.Flip before h = flip_step choice f before h
step choice f width vars cell.Free before h = refl

before_means : (choice : List (List Bit)) → Flips choice → (width : ℕ) (vars : List VarDecl) (cells : List Cell) → ((k : ℕ) → k < length cells → is_none (drive_in width vars cells k) ≡ false)
    → (p : ℕ) → p ≤ length cells → value_if choice (drive_before width vars cells p) ≡ stimulus_before choice width vars cells p
unfolding drive_before stimulus_before
before_means choice f width vars cells g zero l = refl
before_means choice f width vars cells g (suc p) l =
    step choice f width vars (held cells p) (drive_before width vars cells p) (g p l)
    ∙ ap (λ s. stimulus_of choice width vars (held cells p) s) (before_means choice f width vars cells g p (omega (arith, l)))

unwrapped : (choice : List (List Bit)) (o : Option Drive) → drive_value choice (unwrap_or o drive.Free) ≡ value_if choice o
unwrapped choice None = refl
unwrapped choice (Some d) = refl

map_each : {A B C : Type 0} (f : B → C) (u : ℕ → B) (v : ℕ → C) (n : ℕ) (xs : List A) → ((k : ℕ) → n ≤ k → k < n + length xs → f (u k) ≡ v k)
    → map f (at_each (λ k x. u k ∷ []) n xs) ≡ at_each (λ k x. v k ∷ []) n xs
map_each f u v n [] h = refl
map_each f u v n (x ∷ xs) h =
    let here : f (u n) ≡ v n = h n (omega arith) (omega arith) in
    ap (λ y. y ∷ map f (at_each (λ k x. u k ∷ []) (n + 1) xs)) here ∙ ap (λ ys. v n ∷ ys) (map_each f u v (n + 1) xs (λ k l m. h k (omega arith) (omega arith)))

row_means : (choice : List (List Bit)) → Flips choice → (width : ℕ) (vars : List VarDecl) (cells : List Cell) → ((k : ℕ) → k < length cells → is_none (drive_in width vars cells k) ≡ false)
    → map (drive_value choice) (at_each (phase_drive width vars cells) 0 cells) ≡ at_each (stimulus choice width vars cells) 0 cells
row_means choice f width vars cells g =
    map_each (drive_value choice) (λ k. unwrap_or (drive_in width vars cells k) drive.Free) (λ k. stimulus_of choice width vars (held cells k) (stimulus_before choice width vars cells k)) 0 cells
    (λ k l m. unwrapped choice (drive_in width vars cells k) ∙ (step choice f width vars (held cells k) (drive_before width vars cells k) (g k (omega (arith, m)))
    ∙ ap (λ s. stimulus_of choice width vars (held cells k) s) (before_means choice f width vars cells g k (omega (arith, m)))))

-- ---- rows without faults

some_drive : (b : Bool) (r : Refusal) → fault_if b r ≡ [] → b ≡ false
some_drive true r h = cc
some_drive false r h = refl

phases_fine : (again : Bool) (width : ℕ) (vars : List VarDecl) (line : ℕ) (cells : List Cell) → in_faults again width vars line cells ≡ [] → (k : ℕ) → k < length cells → is_none (drive_in width vars cells k) ≡ false
unfolding in_faults drive_faults
phases_fine again width vars line cells h k l =
    let all : at_each (phase_faults width vars cells line) 0 cells ≡ [] = (both_none (fault_if again (fault 30 line 2)) (at_each (phase_faults width vars cells line) 0 cells) h).1 in
    let e : 0 + k ≡ k = omega arith in
    let here : phase_faults width vars cells line k (get_or cells k cell.Empty) ≡ [] =
    subst (λ m. phase_faults width vars cells line m (get_or cells k cell.Empty) ≡ []) e (none_at (phase_faults width vars cells line) cells 0 k cell.Empty all l) in
    some_drive (is_none (drive_in width vars cells k)) (fault 28 line (k + 3))
    (both_none (fault_if (is_none (drive_in width vars cells k)) (fault 28 line (k + 3))) (fault_if (cell_differs width vars (get_or cells k cell.Empty)) (fault 31 line (k + 3))) here).0

kind_means : (choice : List (List Bit)) → Flips choice → (wires : List Signal) (vars : List VarDecl) (before : List Row) (line : ℕ) (kind : RowKind) (row : Row) → faults_by wires vars before line kind row ≡ []
    → values_of choice (driven_by wires vars kind row) ≡ stimuli_by choice wires vars kind row
kind_means choice f wires vars before line In row h =
    ap (λ vs. (wire_number wires row.path, vs) ∷ []) (row_means choice f (width_of wires row.path) vars row.cells (phases_fine _ (width_of wires row.path) vars line row.cells h))
kind_means choice f wires vars before line Over row h = refl
kind_means choice f wires vars before line Out row h = refl

one_means : (choice : List (List Bit)) → Flips choice → (wires : List Signal) (vars : List VarDecl) (before : List Row) (line : ℕ) (row : Row) → faults_after wires vars before line row ≡ []
    → values_of choice (driven_in wires vars row) ≡ stimuli_by choice wires vars row.kind row
unfolding faults_after
one_means choice f wires vars before line row h = kind_means choice f wires vars before line row.kind row (both_none (wire_faults wires line row) (faults_by wires vars before line row.kind row) h).1

pub rows_mean : (choice : List (List Bit)) → Flips choice → (wires : List Signal) (vars : List VarDecl) (all : List Row) (n : ℕ) (rows : List Row) → at_each (row_faults wires vars all) n rows ≡ []
    → values_of choice (drives_of wires vars rows) ≡ stimuli_of choice wires vars rows
rows_mean choice f wires vars all n [] h = refl
rows_mean choice f wires vars all n (row ∷ rows) h =
    let parts = both_none (row_faults wires vars all n row) (at_each (row_faults wires vars all) (n + 1) rows) h in
    map-append (λ d. (d.0, map (drive_value choice) d.1)) (driven_in wires vars row) (drives_of wires vars rows)
    ∙ (ap (λ vs. vs ++ values_of choice (drives_of wires vars rows)) (one_means choice f wires vars (take n all) (n + 1) row parts.0)
    ∙ ap (λ vs. stimuli_by choice wires vars row.kind row ++ vs) (rows_mean choice f wires vars all (n + 1) rows parts.1))

-- what `bind` gives, under every choice
pub means : (wires : List Signal) (table : Table) → bind_faults wires table ≡ [] → Means wires table.rows (bound_of wires table)
unfolding bind_faults bound_of
means wires table h choice is = rows_mean choice (flips (variables_of wires table.rows) choice is) wires (variables_of wires table.rows) table.rows 0 table.rows h

-- ---- overridings

module _ (choice : List (List Bit)) (width : ℕ) (vars : List VarDecl) where
  literal_sets : (b : Bool) (v : List Bit) → b ≡ true → setting_value choice (cond b (Some (drive.Fixed v)) None) ≡ Some (Some v)
  literal_sets true v h = refl
  literal_sets false v h = cc

  cell_sets : (c : Cell) → is_over_cell width c ≡ true → setting_value choice (over_drive width vars c) ≡ setting_of choice width vars c
  cell_sets cell.Empty h = refl
  cell_sets (cell.Literal l) h = literal_sets (fits l width) (constant l width) h
  cell_sets cell.Zed h = refl
  cell_sets (cell.Named name) h = refl
  cell_sets cell.Flip h = cc
  cell_sets cell.Free h = refl

  is_fine : (b : Bool) (r : Refusal) → fault_if (not b) r ≡ [] → b ≡ true
  is_fine true r h = refl
  is_fine false r h = cc

  cells_set : (line n : ℕ) (cells : List Cell) → at_each (over_faults width vars line) n cells ≡ [] → map (setting_value choice) (at_each (phase_over width vars) n cells) ≡ map (setting_of choice width vars) cells
  unfolding over_faults
  cells_set line n [] h = refl
  cells_set line n (c ∷ cells) h =
      let parts = both_none (over_faults width vars line n c) (at_each (over_faults width vars line) (n + 1) cells) h in
      let fine : is_over_cell width c ≡ true =
      is_fine (is_over_cell width c) (fault 28 line (n + 3)) (both_none (fault_if (not (is_over_cell width c)) (fault 28 line (n + 3))) (fault_if (cell_differs width vars c) (fault 31 line (n + 3))) parts.0).0 in
      ap (λ s. s ∷ map (setting_value choice) (at_each (phase_over width vars) (n + 1) cells)) (cell_sets c fine) ∙ ap (λ more. setting_of choice width vars c ∷ more) (cells_set line (n + 1) cells parts.1)

  row_sets : (again : Bool) (line : ℕ) (cells : List Cell) → set_faults again width vars line cells ≡ [] → map (setting_value choice) (at_each (phase_over width vars) 0 cells) ≡ map (setting_of choice width vars) cells
  unfolding set_faults
  row_sets again line cells h = cells_set line 0 cells (both_none (fault_if again (fault 30 line 2)) (at_each (over_faults width vars line) 0 cells) h).1

module _ (choice : List (List Bit)) (wires : List Signal) (vars : List VarDecl) where
  kind_sets : (before : List Row) (line : ℕ) (kind : RowKind) (row : Row) → faults_by wires vars before line kind row ≡ [] → settings_in choice (overridden_by wires vars kind row) ≡ settings_by choice wires vars kind row
  kind_sets before line In row h = refl
  kind_sets before line Over row h = ap (λ vs. (wire_number wires row.path, vs) ∷ []) (row_sets choice (width_of wires row.path) vars _ line row.cells h)
  kind_sets before line Out row h = refl

  one_sets : (before : List Row) (line : ℕ) (row : Row) → faults_after wires vars before line row ≡ [] → settings_in choice (overridden_in wires vars row) ≡ settings_by choice wires vars row.kind row
  unfolding faults_after
  one_sets before line row h = kind_sets before line row.kind row (both_none (wire_faults wires line row) (faults_by wires vars before line row.kind row) h).1

  rows_set : (all : List Row) (n : ℕ) (rows : List Row) → at_each (row_faults wires vars all) n rows ≡ [] → settings_in choice (overs_of wires vars rows) ≡ settings_of choice wires vars rows
  rows_set all n [] h = refl
  rows_set all n (row ∷ rows) h =
      let parts = both_none (row_faults wires vars all n row) (at_each (row_faults wires vars all) (n + 1) rows) h in
      map-append (λ o. (o.0, map (setting_value choice) o.1)) (overridden_in wires vars row) (overs_of wires vars rows)
      ∙ (ap (λ vs. vs ++ settings_in choice (overs_of wires vars rows)) (one_sets (take n all) (n + 1) row parts.0)
      ∙ ap (λ vs. settings_by choice wires vars row.kind row ++ vs) (rows_set all (n + 1) rows parts.1))

-- what is set, under every choice
pub sets : (wires : List Signal) (table : Table) → bind_faults wires table ≡ [] → Sets wires table.rows (bound_of wires table)
unfolding bind_faults bound_of
sets wires table h choice is = rows_set choice wires (variables_of wires table.rows) table.rows 0 table.rows h
