-- No wire has two rows of one kind, of drives or of what overrides, where nothing stands against a table.
use Rattle.std.proofs.Common.{◌≡◌, ℕ, zero, suc, ◌+◌, ◌<◌, ◌≤◌, Bool, true, false, ◌||◌, List, [], ◌∷◌, ◌++◌, length, get_or, take, refl, sym, ap, ◌∙◌, subst, arith, Option, Some, None, ◌⊎◌, inl, inr}
use Rattle.std.specs.Prelude.{⊤, is_none, unwrap_or, not}
use Rattle.std.specs.List.{AllByRecursion, flat_map, list_any}
use Rattle.std.specs.Str.{bytes_eq}
use Rattle.std.specs.Cmp.Lexicographic.{nat_list_eq_equiv}
use Rattle.std.proofs.lemmas.List.{get_or-take, length-take-le}
use Rattle.sv_outside.specs.declared.refusal.Refusal.{Refusal}
use Rattle.sv_outside.specs.declared.text.Signal.{Signal}
use Rattle.svtv_table.specs.Binding.{bind_faults, bound_of, drives_of, driven_by, drives_path, faults_after, faults_by, in_faults, is_driven, is_overridden, lacks_signal, over_faults, overridden_by, overrides_path, overs_of, phase_faults, row_faults, set_faults, variables_of, wire_faults}
use Rattle.svtv_table.specs.Faults.{at_each, fault, fault_if}
use Rattle.svtv_table.specs.Names.{signal_of, wire_number, wire_of}
use Rattle.svtv_table.specs.declared.bound.Drive.{Drive}
use Rattle.svtv_table.specs.declared.bound.VarDecl.{VarDecl}
use Rattle.table_cells.specs.declared.table.Row.{Row}
use Rattle.table_cells.specs.declared.table.RowKind.{RowKind}
use Rattle.table_cells.specs.declared.table.RowKind.TheVariants.{In, Over, Out}
use Rattle.table_cells.specs.declared.table.Table.{Table}
use Rattle.svtv_table.proofs.Formed.{both_none}
use Rattle.svtv_table.proofs.Places.{same_place}

-- no two entries are of one wire
unfoldable Apart : {T : Type 0} → List (ℕ × T) → Type 0
Apart [] = ⊤
Apart (d ∷ ds) = AllByRecursion (λ e. e.0 ≡ d.0 → ⊥) ds × Apart ds

no_fault : (b : Bool) (r : Refusal) → fault_if b r ≡ [] → b ≡ false
no_fault true r h = cc
no_fault false r h = refl

left_false : (a b : Bool) → (a || b) ≡ false → a ≡ false
left_false true b h = cc
left_false false b h = refl

some_number : (o : Option ℕ) → is_none o ≡ false → o ≡ Some (unwrap_or o 0)
some_number None h = cc
some_number (Some n) h = refl

module _ (wires : List Signal) (vars : List VarDecl) (before : List Row) (line : ℕ) (row : Row) (h : faults_after wires vars before line row ≡ []) where
  by_kind : (kind : RowKind) → row.kind ≡ kind → faults_by wires vars before line kind row ≡ []
  unfolding faults_after
  by_kind kind k = ap (λ x. faults_by wires vars before line x row) (sym k) ∙ (both_none (wire_faults wires line row) (faults_by wires vars before line row.kind row) h).1

  has_signal : (kind : RowKind) → row.kind ≡ kind → lacks_signal wires kind row.path ≡ false
  unfolding faults_after wire_faults
  has_signal kind k =
      ap (λ x. lacks_signal wires x row.path) (sym k)
      ∙ no_fault (lacks_signal wires row.kind row.path) (fault 29 line 2) (both_none (wire_faults wires line row) (faults_by wires vars before line row.kind row) h).0

  -- the wire of an `in` row is there
  in_wire : row.kind ≡ In → wire_of wires row.path ≡ Some (wire_number wires row.path)
  in_wire k = some_number (wire_of wires row.path) (left_false (is_none (wire_of wires row.path)) (not (signal_of wires row.path).input) (has_signal In k))

  -- no earlier one has its path
  in_first : row.kind ≡ In → is_driven before row.path ≡ false
  unfolding in_faults
  in_first k = no_fault (is_driven before row.path) (fault 30 line 2) (both_none (fault_if (is_driven before row.path) (fault 30 line 2)) (at_each (phase_faults _ vars row.cells line) 0 row.cells) (by_kind In k)).0

  over_wire : row.kind ≡ Over → wire_of wires row.path ≡ Some (wire_number wires row.path)
  over_wire k = some_number (wire_of wires row.path) (has_signal Over k)

  over_first : row.kind ≡ Over → is_overridden before row.path ≡ false
  unfolding set_faults
  over_first k = no_fault (is_overridden before row.path) (fault 30 line 2) (both_none (fault_if (is_overridden before row.path) (fault 30 line 2)) (at_each (over_faults _ vars line) 0 row.cells) (by_kind Over k)).0

none_of : {A : Type 0} (p : A → Bool) (xs : List A) (i : ℕ) (d : A) → list_any p xs ≡ false → i < length xs → p (get_or xs i d) ≡ false
none_of p [] i d h l = absurd (omega (arith, l))
none_of p (x ∷ xs) zero d h l = left_false (p x) (list_any p xs) h
none_of p (x ∷ xs) (suc i) d h l = none_of p xs i d (right_false (p x) (list_any p xs) h) (omega (arith, l))
  where
    right_false : (a b : Bool) → (a || b) ≡ false → b ≡ false
    right_false true b h = cc
    right_false false b h = h

-- ---- rows of one kind, told by a test of kinds and paths

abbrev Test : Type 0
Test = RowKind → List ℕ → List ℕ → Bool

abbrev is_there : Test → List Row → List ℕ → Bool
is_there p rows path = list_any (λ row. p row.kind row.path path) rows

-- A row of a kind makes one entry, of its wire, and any other none. Its wire is there, and no earlier one has its path.
record IsKind {T : Type 0} (wires : List Signal) (vars : List VarDecl) (kind : RowKind) (p : Test) (f : RowKind → Row → List (ℕ × T)) : Type 0 where
  test : (own path : List ℕ) → p kind own path ≡ bytes_eq own path
  made : (other : RowKind) (row : Row) → ((other ≡ kind) × (what : T) × (f other row ≡ (wire_number wires row.path, what) ∷ [])) ⊎ (f other row ≡ [])
  wire : (before : List Row) (line : ℕ) (row : Row) → faults_after wires vars before line row ≡ [] → row.kind ≡ kind → wire_of wires row.path ≡ Some (wire_number wires row.path)
  first : (before : List Row) (line : ℕ) (row : Row) → faults_after wires vars before line row ≡ [] → row.kind ≡ kind → is_there p before row.path ≡ false

module _ {T : Type 0} (wires : List Signal) (vars : List VarDecl) (kind : RowKind) (p : Test) (f : RowKind → Row → List (ℕ × T)) (is : IsKind wires vars kind p f) (all : List Row) where
  abbrev made_of : List Row → List (ℕ × T)
  made_of rows = flat_map (λ row. f row.kind row) rows

  abbrev Fine : ℕ → List Row → Type 0
  Fine n rows = at_each (row_faults wires vars all) n rows ≡ []

  -- the rows stand in all of them from a place on
  abbrev Stand : ℕ → List Row → Type 0
  Stand n rows = (n + length rows ≤ length all) × ((k : ℕ) (d : Row) → k < length rows → get_or all (n + k) d ≡ get_or rows k d)

  stand_more : (n : ℕ) (row : Row) (rows : List Row) → Stand n (row ∷ rows) → Stand (n + 1) rows
  stand_more n row rows s = (omega (arith, s.0), λ k d l. let e : n + 1 + k ≡ n + suc k = omega arith in ap (λ i. get_or all i d) e ∙ s.1 (suc k) d (omega (arith, l)))

  stand_first : (n : ℕ) (row : Row) (rows : List Row) → Stand n (row ∷ rows) → (n < length all) × (get_or all n row ≡ row)
  stand_first n row rows s = (omega (arith, s.0), let e : n + 0 ≡ n = omega arith in ap (λ i. get_or all i row) (sym e) ∙ s.1 0 row (omega arith))

  -- another row of the kind behind one is of another wire
  two_wires : (n m : ℕ) (row other : Row) → row.kind ≡ kind → other.kind ≡ kind → n < m → m ≤ length all → get_or all n row ≡ row
      → wire_of wires row.path ≡ Some (wire_number wires row.path) → faults_after wires vars (take m all) (m + 1) other ≡ [] → wire_number wires other.path ≡ wire_number wires row.path → ⊥
  two_wires n m row other k o l lm at there fine e =
      let same : row.path ≡ other.path = same_place _ row.path other.path (wire_number wires row.path) there (is.wire (take m all) (m + 1) other fine o ∙ ap Some e) in
      let first : is_there p (take m all) other.path ≡ false = is.first (take m all) (m + 1) other fine o in
      let long : length (take m all) ≡ m = length-take-le m all lm in
      let own : get_or (take m all) n row ≡ row = get_or-take m all n row l ∙ at in
      let none : p (get_or (take m all) n row).kind (get_or (take m all) n row).path other.path ≡ false =
      none_of (λ (x : Row). p x.kind x.path other.path) (take m all) n row first (omega (arith, long, l)) in
      let here : p kind row.path other.path ≡ false = subst (λ (x : RowKind). p x row.path other.path ≡ false) k (subst (λ (x : Row). p x.kind x.path other.path ≡ false) own none) in
      let no : bytes_eq row.path other.path ≡ false = sym (is.test row.path other.path) ∙ here in
      let yes : bytes_eq row.path other.path ≡ true = ap (λ q. bytes_eq row.path q) (sym same) ∙ nat_list_eq_equiv.refl row.path in
      cc

  abbrev AreOthers : ℕ → List (ℕ × T) → Type 0
  AreOthers n entries = AllByRecursion (λ e. e.0 ≡ n → ⊥) entries

  -- none of the rows behind one of the kind is of its wire
  others : (n m : ℕ) (row : Row) (rest : List Row) → row.kind ≡ kind → n < m → get_or all n row ≡ row → wire_of wires row.path ≡ Some (wire_number wires row.path) → Stand m rest → Fine m rest
      → AreOthers (wire_number wires row.path) (made_of rest)
  others n m row [] k l at there s h = tt
  others n m row (other ∷ rest) k l at there s h =
      let parts = both_none (row_faults wires vars all m other) (at_each (row_faults wires vars all) (m + 1) rest) h in
      let more = others n (m + 1) row rest k (omega (arith, l)) at there (stand_more m other rest s) parts.1 in
      by_made (f other.kind other) (is.made other.kind other) parts.0 more
    where
      by_made : (entries : List (ℕ × T)) → ((other.kind ≡ kind) × (what : T) × (entries ≡ (wire_number wires other.path, what) ∷ [])) ⊎ (entries ≡ []) → faults_after wires vars (take m all) (m + 1) other ≡ []
          → AreOthers (wire_number wires row.path) (made_of rest) → AreOthers (wire_number wires row.path) (entries ++ made_of rest)
      by_made entries (inl (o, what, e)) fine more =
          subst (λ es. AreOthers (wire_number wires row.path) (es ++ made_of rest)) (sym e) (two_wires n m row other k o l (let b = s.0 in omega (arith, b)) at there fine, more)
      by_made entries (inr e) fine more = subst (λ es. AreOthers (wire_number wires row.path) (es ++ made_of rest)) (sym e) more

  all_apart : (n : ℕ) (rows : List Row) → Stand n rows → Fine n rows → Apart (made_of rows)
  unfolding Apart
  all_apart n [] s h = tt
  all_apart n (row ∷ rows) s h =
      let parts = both_none (row_faults wires vars all n row) (at_each (row_faults wires vars all) (n + 1) rows) h in
      by_made (f row.kind row) (is.made row.kind row) parts.0 parts.1 (all_apart (n + 1) rows (stand_more n row rows s) parts.1)
    where
      by_made : (entries : List (ℕ × T)) → ((row.kind ≡ kind) × (what : T) × (entries ≡ (wire_number wires row.path, what) ∷ [])) ⊎ (entries ≡ []) → faults_after wires vars (take n all) (n + 1) row ≡ [] → Fine (n + 1) rows
          → Apart (made_of rows) → Apart (entries ++ made_of rows)
      by_made entries (inl (o, what, e)) fine h more =
          subst (λ es. Apart (es ++ made_of rows)) (sym e)
          (others n (n + 1) row rows o (omega arith) (stand_first n row rows s).1 (is.wire (take n all) (n + 1) row fine o) (stand_more n row rows s) h, more)
      by_made entries (inr e) fine h more = subst (λ es. Apart (es ++ made_of rows)) (sym e) more

module _ {T : Type 0} where
  at_place : (P : ℕ × T → Type 0) (ds : List (ℕ × T)) (i : ℕ) (d : ℕ × T) → AllByRecursion P ds → i < length ds → P (get_or ds i d)
  at_place P [] i d a l = absurd (omega (arith, l))
  at_place P (x ∷ ds) zero d a l = a.0
  at_place P (x ∷ ds) (suc i) d a l = at_place P ds i d a.1 (omega (arith, l))

  one_place : (ds : List (ℕ × T)) → Apart ds → (i j : ℕ) (d : ℕ × T) → i < length ds → j < length ds → (get_or ds i d).0 ≡ (get_or ds j d).0 → i ≡ j
  unfolding Apart
  one_place [] a i j d l k e = absurd (omega (arith, l))
  one_place (x ∷ ds) a zero zero d l k e = refl
  one_place (x ∷ ds) a zero (suc j) d l k e = absurd (at_place (λ y. y.0 ≡ x.0 → ⊥) ds j d a.0 (omega (arith, k)) (sym e))
  one_place (x ∷ ds) a (suc i) zero d l k e = absurd (at_place (λ y. y.0 ≡ x.0 → ⊥) ds i d a.0 (omega (arith, l)) e)
  one_place (x ∷ ds) a (suc i) (suc j) d l k e = ap suc (one_place ds a.1 i j d (omega (arith, l)) (omega (arith, k)) e)

-- ---- the two kinds

module _ (wires : List Signal) (vars : List VarDecl) where
  drives_are : IsKind wires vars In drives_path (driven_by wires vars)
  drives_are = record { test = λ own path. refl; made = made; wire = λ before line row fine k. in_wire wires vars before line row fine k; first = λ before line row fine k. in_first wires vars before line row fine k }
    where
      made : (other : RowKind) (row : Row) → ((other ≡ In) × (what : List Drive) × (driven_by wires vars other row ≡ (wire_number wires row.path, what) ∷ [])) ⊎ (driven_by wires vars other row ≡ [])
      made In row = inl (refl, _, refl)
      made Over row = inr refl
      made Out row = inr refl

  overs_are : IsKind wires vars Over overrides_path (overridden_by wires vars)
  overs_are = record { test = λ own path. refl; made = made; wire = λ before line row fine k. over_wire wires vars before line row fine k; first = λ before line row fine k. over_first wires vars before line row fine k }
    where
      made : (other : RowKind) (row : Row) → ((other ≡ Over) × (what : List (Option Drive)) × (overridden_by wires vars other row ≡ (wire_number wires row.path, what) ∷ [])) ⊎ (overridden_by wires vars other row ≡ [])
      made In row = inr refl
      made Over row = inl (refl, _, refl)
      made Out row = inr refl

-- two entries of one wire are one
pub drives_apart : (wires : List Signal) (table : Table) → bind_faults wires table ≡ [] → (i j : ℕ) (d : ℕ × List Drive) → i < length (bound_of wires table).drives → j < length (bound_of wires table).drives
    → (get_or (bound_of wires table).drives i d).0 ≡ (get_or (bound_of wires table).drives j d).0 → i ≡ j
unfolding bind_faults bound_of
drives_apart wires table h i j d l k e =
    let rows = table.rows in
    let vars = variables_of wires rows in
    let apart = all_apart wires vars In drives_path (driven_by wires vars) (drives_are wires vars) rows 0 rows (omega arith, λ n x m. let z : 0 + n ≡ n = omega arith in ap (λ (q : ℕ). get_or rows q x) z) h in
    one_place (drives_of wires vars rows) apart i j d l k e

pub overs_apart : (wires : List Signal) (table : Table) → bind_faults wires table ≡ [] → (i j : ℕ) (d : ℕ × List (Option Drive)) → i < length (bound_of wires table).overs → j < length (bound_of wires table).overs
    → (get_or (bound_of wires table).overs i d).0 ≡ (get_or (bound_of wires table).overs j d).0 → i ≡ j
unfolding bind_faults bound_of
overs_apart wires table h i j d l k e =
    let rows = table.rows in
    let vars = variables_of wires rows in
    let apart = all_apart wires vars Over overrides_path (overridden_by wires vars) (overs_are wires vars) rows 0 rows (omega arith, λ n x m. let z : 0 + n ≡ n = omega arith in ap (λ (q : ℕ). get_or rows q x) z) h in
    one_place (overs_of wires vars rows) apart i j d l k e
