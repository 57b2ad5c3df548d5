-- Drives, and what overrides, are as wide as their wires, for a table without faults.
use Rattle.std.proofs.Common.{◌≡◌, ◌<◌, ◌≤◌, ◌+◌, ℕ, zero, suc, List, [], ◌∷◌, ◌++◌, map, length, get_or, replicate, Bool, true, false, cond, eqb, ◌||◌, Option, Some, None, refl, sym, ◌∙◌, ap, subst, arith}
use Rattle.std.specs.Prelude.{All, is_none, is_some, not, unwrap_or}
use Rattle.std.specs.List.{AllByRecursion, flat_map}
use Rattle.std.specs.Str.{bytes_eq}
use Rattle.std.specs.Cmp.Lexicographic.{nat_list_eq_equiv}
use Rattle.std.proofs.lemmas.Bool.Decides.{nat_tests}
use Rattle.std.proofs.lemmas.List.{length-map, length-replicate}
use Rattle.std.proofs.lemmas.List.Elements.{All-from_recursion}
use Rattle.std.proofs.lemmas.List.Folds.{list_any-append}
use Rattle.fourvec.specs.declared.Bit.{Bit}
use Rattle.fourvec.specs.declared.Bit.TheVariants.{Zero, Floating}
use Rattle.fourvec.specs.Bits.{each, first, is_known, not_bit, not_of}
use Rattle.sv_literal.specs.Value.{fitted}
use Rattle.sv_literal.specs.declared.meaning.Literal.{Literal}
use Rattle.sv_literal.proofs.Vectors.{length-fitted}
use Rattle.sv_outside.specs.declared.refusal.Refusal.{Refusal}
use Rattle.sv_outside.specs.declared.text.Signal.{Signal}
use Rattle.svtv_table.specs.Binding.{IsAsWide, IsSetAsWide, cell_differs, declared_by, declared_in, differs, drive_faults, first_of_each, in_faults, over_faults, phase_faults, phase_over, set_faults, var_width, variables_of}
use Rattle.svtv_table.specs.Drives.{chosen, drive_before, drive_in, drive_of, flipped_drive, held, held_before, is_over_cell, over_drive, phase_drive, unless_empty}
use Rattle.table_cells.specs.Constants.{constant, fits}
use Rattle.svtv_table.specs.Faults.{at_each, fault, fault_if}
use Rattle.svtv_table.specs.Names.{name_in, name_of, names_in, number_of, width_at, width_of}
use Rattle.svtv_table.specs.declared.bound.Drive.{Drive}
use Rattle.svtv_table.specs.declared.bound.Drive.TheVariants as drive
use Rattle.svtv_table.specs.declared.bound.VarDecl.{VarDecl}
use Rattle.table_cells.specs.declared.table.Cell.{Cell}
use Rattle.table_cells.specs.declared.table.Cell.TheVariants as cell
use Rattle.table_cells.specs.declared.table.Row.{Row}
use Rattle.table_cells.specs.declared.table.RowKind.{RowKind}
use Rattle.table_cells.specs.declared.table.RowKind.TheVariants.{In, Over, Out}
use Rattle.svtv_table.proofs.Declared.{has, has-others, others}
use Rattle.svtv_table.proofs.Formed.{both_none, none_at}
use Rattle.svtv_table.proofs.Places.{is_placed, some_from, within_from}

-- ---- the variables that cells name

-- the cell names a variable that there is, of that width
abbrev pub NamesWide : ℕ → List VarDecl → Cell → Type 0
NamesWide width vars cell.Empty = Unit {0}
NamesWide width vars (cell.Literal literal) = Unit {0}
NamesWide width vars cell.Zed = Unit {0}
NamesWide width vars (cell.Named name) = (i : ℕ) × (number_of vars name ≡ Some i) × (var_width vars i ≡ width)
NamesWide width vars cell.Flip = Unit {0}
NamesWide width vars cell.Free = Unit {0}

-- each name in the cells is that of a variable
abbrev pub Declares : List VarDecl → List Cell → Type 0
Declares vars cells = (k : ℕ) (name : List ℕ) → k < length cells → get_or cells k cell.Empty ≡ cell.Named name → is_some (number_of vars name) ≡ true

same_width : (a b : ℕ) → not (eqb a b) ≡ false → a ≡ b
same_width a b h = go (eqb a b) refl h
  where
    go : (t : Bool) → eqb a b ≡ t → not t ≡ false → a ≡ b
    go true e h = grind (arith, nat_tests, e)
    go false e h = cc

names_wide : (width : ℕ) (vars : List VarDecl) (c : Cell) → cell_differs width vars c ≡ false → ((name : List ℕ) → c ≡ cell.Named name → is_some (number_of vars name) ≡ true) → NamesWide width vars c
names_wide width vars cell.Empty h f = tt
names_wide width vars (cell.Literal literal) h f = tt
names_wide width vars cell.Zed h f = tt
names_wide width vars (cell.Named name) h f =
    let s = some_from (number_of vars name) (f name refl) in
    (s.0, s.1, same_width (var_width vars s.0) width (ap (λ o. differs (width_at vars o) width) (sym s.1) ∙ h))
names_wide width vars cell.Flip h f = tt
names_wide width vars cell.Free h f = tt

-- ---- declared names

has_first : (name : List ℕ) (vars : List VarDecl) → has name (first_of_each vars) ≡ has name vars
has_first name [] = refl
has_first name (v ∷ vs) = go (bytes_eq v.name name) refl (has_first name vs)
  where
    go : (b : Bool) → bytes_eq v.name name ≡ b → has name (first_of_each vs) ≡ has name vs → has name (v ∷ others v.name (first_of_each vs)) ≡ has name (v ∷ vs)
    go true e h = let f : bytes_eq name v.name ≡ true = nat_list_eq_equiv.symm name v.name ∙ e in rw f refl
    go false e h = ap (λ b. bytes_eq name v.name || b) (has-others v.name name (first_of_each vs) e ∙ h)

right_true : (a b : Bool) → b ≡ true → (a || b) ≡ true
right_true true b h = refl
right_true false b h = h

left_true : (a b : Bool) → a ≡ true → (a || b) ≡ true
left_true true b h = refl
left_true false b h = cc

abbrev named : ℕ → List ℕ → VarDecl
named width name = record { name = name; width = width }

has_cell : (width : ℕ) (name : List ℕ) (cells : List Cell) (k : ℕ) → k < length cells → get_or cells k cell.Empty ≡ cell.Named name → has name (map (named width) (names_in cells)) ≡ true
has_cell width name [] k l e = absurd (omega (arith, l))
has_cell width name (c ∷ cs) zero l e = go c e
  where
    go : (x : Cell) → x ≡ cell.Named name → has name (map (named width) (name_in x ++ names_in cs)) ≡ true
    go cell.Empty e = cc
    go (cell.Literal literal) e = cc
    go cell.Zed e = cc
    go (cell.Named own) e = let s : own ≡ name = cc in left_true (bytes_eq name own) (has name (map (named width) (names_in cs))) (ap (λ n. bytes_eq name n) s ∙ nat_list_eq_equiv.refl name)
    go cell.Flip e = cc
    go cell.Free e = cc
has_cell width name (c ∷ cs) (suc k) l e = go c (has_cell width name cs k (omega (arith, l)) e)
  where
    go : (x : Cell) → has name (map (named width) (names_in cs)) ≡ true → has name (map (named width) (name_in x ++ names_in cs)) ≡ true
    go cell.Empty h = h
    go (cell.Literal literal) h = h
    go cell.Zed h = h
    go (cell.Named own) h = right_true (bytes_eq name own) (has name (map (named width) (names_in cs))) h
    go cell.Flip h = h
    go cell.Free h = h

has_row : (wires : List Signal) (name : List ℕ) (rows : List Row) (i : ℕ) (d : Row) → i < length rows → has name (declared_in wires (get_or rows i d)) ≡ true → has name (flat_map (declared_in wires) rows) ≡ true
has_row wires name [] i d l h = absurd (omega (arith, l))
has_row wires name (row ∷ rows) zero d l h = list_any-append (λ (v : VarDecl). bytes_eq name v.name) (declared_in wires row) (flat_map (declared_in wires) rows) ∙ left_true (has name (declared_in wires row)) (has name (flat_map (declared_in wires) rows)) h
has_row wires name (row ∷ rows) (suc i) d l h =
    list_any-append (λ (v : VarDecl). bytes_eq name v.name) (declared_in wires row) (flat_map (declared_in wires) rows)
    ∙ right_true (has name (declared_in wires row)) (has name (flat_map (declared_in wires) rows)) (has_row wires name rows i d (omega (arith, l)) h)

-- the names in an `in` or `over` row of a table are those of its variables
pub declares : (wires : List Signal) (rows : List Row) (i : ℕ) (d : Row) → i < length rows → ((get_or rows i d).kind ≡ Out → ⊥) → Declares (variables_of wires rows) (get_or rows i d).cells
unfolding variables_of
declares wires rows i d l e k name lk at =
    let row = get_or rows i d in
    let own : has name (declared_by wires In row) ≡ true = has_cell (width_of wires row.path) name row.cells k lk at in
    is_placed name_of (first_of_each (flat_map (declared_in wires) rows)) name ∙ has_first name (flat_map (declared_in wires) rows) ∙ has_row wires name rows i d l (by_kind row row.kind e own)
  where
    by_kind : (row : Row) (kind : RowKind) → (kind ≡ Out → ⊥) → has name (declared_by wires In row) ≡ true → has name (declared_by wires kind row) ≡ true
    by_kind row In e h = h
    by_kind row Over e h = h
    by_kind row Out e h = absurd (e refl)

-- ---- one phase

length_each : (f : Bit → Bit) (v : List Bit) → length (each f v) ≡ length v
unfolding each
length_each f [] = refl
length_each f (b ∷ bs) = ap suc (length_each f bs)

constant_long : (literal : Literal) (width : ℕ) → length (constant literal width) ≡ width
unfolding constant
constant_long literal width = go literal.fill
  where
    go : (b : Bool) → length (cond b (replicate width (first literal.value)) (fitted width Zero literal.value)) ≡ width
    go true = length-replicate width (first literal.value)
    go false = length-fitted width Zero literal.value

module _ (width : ℕ) (vars : List VarDecl) where
  abbrev WideIf : Option Drive → Type 0
  WideIf d = IsSetAsWide vars width d

  fixed_wide : (b : Bool) (v : List Bit) → length v ≡ width → WideIf (cond b (Some (drive.Fixed v)) None)
  fixed_wide true v h = h
  fixed_wide false v h = tt

  flipped_wide : (o : Option Drive) → WideIf o → WideIf (flipped_drive o)
  flipped_wide None h = tt
  flipped_wide (Some (drive.Fixed v)) h = fixed_wide (is_known v) (not_of v) (length_each not_bit v ∙ h)
  flipped_wide (Some (drive.Chosen n flips)) h = h
  flipped_wide (Some drive.Free) h = tt

  chosen_wide : (name : List ℕ) → NamesWide width vars (cell.Named name) → IsAsWide vars width (chosen vars name)
  chosen_wide name h =
      let e : h.0 ≡ unwrap_or (number_of vars name) 0 = sym (ap (λ o. unwrap_or o 0) h.1) in
      let l : h.0 < length vars = omega (arith, within_from (map name_of vars) name h.0 h.1, length-map vars name_of) in
      subst (λ n. (n < length vars) × (var_width vars n ≡ width)) e (l, h.2)

  step_wide : (c : Cell) (before : Option Drive) → NamesWide width vars c → WideIf before → WideIf (drive_of width vars c before)
  step_wide cell.Empty before n h = tt
  step_wide (cell.Literal literal) before n h = fixed_wide (fits literal width) (constant literal width) (constant_long literal width)
  step_wide cell.Zed before n h = length-replicate width Floating
  step_wide (cell.Named name) before n h = chosen_wide name n
  step_wide cell.Flip before n h = flipped_wide before h
  step_wide cell.Free before n h = tt

  unless_wide : (c before : Cell) → NamesWide width vars c → NamesWide width vars before → NamesWide width vars (unless_empty c before)
  unless_wide cell.Empty before n h = h
  unless_wide (cell.Literal literal) before n h = tt
  unless_wide cell.Zed before n h = tt
  unless_wide (cell.Named name) before n h = n
  unless_wide cell.Flip before n h = tt
  unless_wide cell.Free before n h = tt

  module _ (cells : List Cell) (each_wide : (k : ℕ) → k < length cells → NamesWide width vars (get_or cells k cell.Empty)) where
    before_held : (p : ℕ) → p ≤ length cells → NamesWide width vars (held_before cells p)
    unfolding held_before
    before_held zero l = tt
    before_held (suc p) l = unless_wide (get_or cells p cell.Empty) (held_before cells p) (each_wide p l) (before_held p (omega (arith, l)))

    held_wide : (p : ℕ) → p < length cells → NamesWide width vars (held cells p)
    held_wide p l = unless_wide (get_or cells p cell.Empty) (held_before cells p) (each_wide p l) (before_held p (omega (arith, l)))

    before_wide : (p : ℕ) → p ≤ length cells → WideIf (drive_before width vars cells p)
    unfolding drive_before
    before_wide zero l = tt
    before_wide (suc p) l = step_wide (held cells p) (drive_before width vars cells p) (held_wide p l) (before_wide p (omega (arith, l)))

    in_wide : (p : ℕ) → p < length cells → WideIf (drive_in width vars cells p)
    in_wide p l = step_wide (held cells p) (drive_before width vars cells p) (held_wide p l) (before_wide p (omega (arith, l)))

    unwrapped_wide : (o : Option Drive) → WideIf o → IsAsWide vars width (unwrap_or o drive.Free)
    unwrapped_wide None h = tt
    unwrapped_wide (Some d) h = h

    all_each : {A : Type 0} (u : ℕ → Drive) (n : ℕ) (xs : List A) → ((k : ℕ) → n ≤ k → k < n + length xs → IsAsWide vars width (u k)) → AllByRecursion (IsAsWide vars width) (at_each (λ k x. u k ∷ []) n xs)
    all_each u n [] f = tt
    all_each u n (x ∷ xs) f = (f n (omega arith) (omega arith), all_each u (n + 1) xs (λ k l m. f k (omega arith) (omega arith)))

    row_wide : All (IsAsWide vars width) (at_each (phase_drive width vars cells) 0 cells)
    row_wide =
        All-from_recursion (IsAsWide vars width) (at_each (phase_drive width vars cells) 0 cells)
        (all_each (λ k. unwrap_or (drive_in width vars cells k) drive.Free) 0 cells (λ k l m. unwrapped_wide (drive_in width vars cells k) (in_wide k (omega (arith, m)))))

  -- ---- what overrides

  over_wide : (c : Cell) → NamesWide width vars c → WideIf (over_drive width vars c)
  over_wide cell.Empty n = tt
  over_wide (cell.Literal literal) n = fixed_wide (fits literal width) (constant literal width) (constant_long literal width)
  over_wide cell.Zed n = length-replicate width Floating
  over_wide (cell.Named name) n = chosen_wide name n
  over_wide cell.Flip n = tt
  over_wide cell.Free n = tt

-- ---- a row without faults

none_differs : (b : Bool) (r : Refusal) → fault_if b r ≡ [] → b ≡ false
none_differs true r h = cc
none_differs false r h = refl

cells_wide : (again : Bool) (width : ℕ) (vars : List VarDecl) (line : ℕ) (cells : List Cell) → in_faults again width vars line cells ≡ [] → Declares vars cells → (k : ℕ) → k < length cells → NamesWide width vars (get_or cells k cell.Empty)
unfolding in_faults drive_faults
cells_wide again width vars line cells h d k l =
    let all : at_each (phase_faults width vars cells line) 0 cells ≡ [] = (both_none (fault_if again (fault 30 line 2)) (at_each (phase_faults width vars cells line) 0 cells) h).1 in
    let e : 0 + k ≡ k = omega arith in
    let here : phase_faults width vars cells line k (get_or cells k cell.Empty) ≡ [] =
    subst (λ m. phase_faults width vars cells line m (get_or cells k cell.Empty) ≡ []) e (none_at (phase_faults width vars cells line) cells 0 k cell.Empty all l) in
    names_wide width vars (get_or cells k cell.Empty)
    (none_differs (cell_differs width vars (get_or cells k cell.Empty)) (fault 31 line (k + 3))
    (both_none (fault_if (is_none (drive_in width vars cells k)) (fault 28 line (k + 3))) (fault_if (cell_differs width vars (get_or cells k cell.Empty)) (fault 31 line (k + 3))) here).1)
    (λ name at. d k name l at)

pub drives_wide : (again : Bool) (width : ℕ) (vars : List VarDecl) (line : ℕ) (cells : List Cell) → in_faults again width vars line cells ≡ [] → Declares vars cells → All (IsAsWide vars width) (at_each (phase_drive width vars cells) 0 cells)
drives_wide again width vars line cells h d = row_wide width vars cells (cells_wide again width vars line cells h d)

-- each cell of an `over` row without faults sets what is as wide
all_overs_wide : (width : ℕ) (vars : List VarDecl) (line n : ℕ) (cells : List Cell) → at_each (over_faults width vars line) n cells ≡ [] → Declares vars cells → AllByRecursion (IsSetAsWide vars width) (at_each (phase_over width vars) n cells)
unfolding over_faults
all_overs_wide width vars line n [] h d = tt
all_overs_wide width vars line n (c ∷ cells) h d =
    let parts = both_none (over_faults width vars line n c) (at_each (over_faults width vars line) (n + 1) cells) h in
    let same : cell_differs width vars c ≡ false =
    none_differs (cell_differs width vars c) (fault 31 line (n + 3)) (both_none (fault_if (not (is_over_cell width c)) (fault 28 line (n + 3))) (fault_if (cell_differs width vars c) (fault 31 line (n + 3))) parts.0).1 in
    (over_wide width vars c (names_wide width vars c same (λ name at. d 0 name (omega arith) at)), all_overs_wide width vars line (n + 1) cells parts.1 (λ k name l at. d (suc k) name (omega (arith, l)) at))

pub overs_wide : (again : Bool) (width : ℕ) (vars : List VarDecl) (line : ℕ) (cells : List Cell) → set_faults again width vars line cells ≡ [] → Declares vars cells → All (IsSetAsWide vars width) (at_each (phase_over width vars) 0 cells)
unfolding set_faults
overs_wide again width vars line cells h d =
    All-from_recursion (IsSetAsWide vars width) (at_each (phase_over width vars) 0 cells)
    (all_overs_wide width vars line 0 cells (both_none (fault_if again (fault 30 line 2)) (at_each (over_faults width vars line) 0 cells) h).1 d)
