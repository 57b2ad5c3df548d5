-- What holds of each table that is read.
use Rattle.std.proofs.Common.{◌≡◌, ◌<◌, ◌+◌, ◌-◌, zero, suc, ℕ, List, [], ◌∷◌, ◌++◌, map, drop, length, get_or, refl, sym, ◌∙◌, ap, subst, arith, Bool, true, false, Some, None, Option, cond, eqb, ◌&&◌}
use Rattle.std.specs.Prelude.{All, not, unwrap_or, codes, option_map}
use Rattle.std.proofs.lemmas.Bool.Decides.{nat_tests}
use Rattle.std.proofs.lemmas.List.{length-drop, length-map, get_or-map}
use Rattle.fourvec.specs.Bits.{is_known}
use Rattle.sv_literal.specs.Meaning.{meaning_of}
use Rattle.sv_literal.specs.declared.meaning.Literal.{Literal}
use Rattle.sv_outside.specs.declared.refusal.Refusal.{Refusal}
use Rattle.svtv_table.specs.Faults.{at_each, fault, fault_if}
use Rattle.table_cells.specs.Cells.{in_cell, over_cell, out_cell, known_literal, constant_cell, is_cell_name, is_empty, has_value}
use Rattle.std.specs.Str.{bytes_eq}
use Rattle.svtv_table.specs.Fields.{field_at}
use Rattle.svtv_table.specs.Reading.{table_faults, table_of, IsWellFormed, IsKnownCell, record_faults, count_in, cell_in, row_of, front_faults, kind_of}
use Rattle.table_cells.specs.declared.table.Cell.{Cell}
use Rattle.table_cells.specs.declared.table.Cell.TheVariants as cell
use Rattle.table_cells.specs.declared.table.Row.{Row}
use Rattle.table_cells.specs.declared.table.RowKind.{RowKind}
use Rattle.table_cells.specs.declared.table.RowKind.TheVariants.{In, Over, Out}

pub both_none : (fs gs : List Refusal) → fs ++ gs ≡ [] → (fs ≡ []) × (gs ≡ [])
both_none [] gs h = (refl, h)
both_none (f ∷ fs) gs h = cc

pub none_at : {A : Type 0} (f : ℕ → A → List Refusal) (xs : List A) (n k : ℕ) (d : A) → at_each f n xs ≡ [] → k < length xs → f (n + k) (get_or xs k d) ≡ []
none_at f [] n k d h l = absurd (omega (arith, l))
none_at f (x ∷ xs) n zero d h l = let e : n ≡ n + 0 = omega arith in subst (λ m. f m x ≡ []) e (both_none (f n x) (at_each f (n + 1) xs) h).0
none_at f (x ∷ xs) n (suc k) d h l = let e : n + 1 + k ≡ n + suc k = omega arith in subst (λ m. f m (get_or xs k d) ≡ []) e (none_at f xs (n + 1) k d (both_none (f n x) (at_each f (n + 1) xs) h).1 (omega (arith, l)))

same_count : (b : Bool) (r : Refusal) → fault_if (not b) r ≡ [] → b ≡ true
same_count true r h = refl
same_count false r h = cc

abbrev IsKnownIf : Option Cell → Type 0
IsKnownIf o = IsKnownCell (unwrap_or o cell.Empty)

named_known : (b : Bool) (name : List ℕ) (o : Option Cell) → IsKnownIf o → IsKnownIf (cond b (Some (cell.Named name)) o)
named_known true name o h = tt
named_known false name o h = h

in_cells_known : (a b c d e : Bool) (name : List ℕ) (o : Option Cell) → IsKnownIf o
    → IsKnownIf (cond a (Some cell.Empty) (cond b (Some cell.Free) (cond c (Some cell.Zed) (cond d (Some cell.Flip) (cond e (Some (cell.Named name)) o)))))
in_cells_known true b c d e name o h = tt
in_cells_known false true c d e name o h = tt
in_cells_known false false true d e name o h = tt
in_cells_known false false false true e name o h = tt
in_cells_known false false false false e name o h = named_known e name o h

out_cells_known : (a e : Bool) (name : List ℕ) → IsKnownIf (cond a (Some cell.Empty) (cond e (Some (cell.Named name)) None))
out_cells_known true e name = tt
out_cells_known false e name = named_known e name None tt

known_constant : (v k : Bool) (l : Literal) → is_known l.value ≡ k → IsKnownIf (option_map cell.Literal (cond (v && k) (Some l) None))
known_constant true true l h = h
known_constant true false l h = tt
known_constant false k l h = tt

constant_known : (text : List ℕ) → IsKnownIf (constant_cell text)
unfolding known_literal
constant_known text = known_constant (has_value text) (is_known (meaning_of text).value) (meaning_of text) refl

in_known : (text : List ℕ) → IsKnownIf (in_cell text)
unfolding in_cell
in_known text = in_cells_known (is_empty text) (bytes_eq text (codes "_")) (bytes_eq text (codes "z")) (bytes_eq text (codes "~")) (is_cell_name text) text (constant_cell text) (constant_known text)

over_known : (text : List ℕ) → IsKnownIf (over_cell text)
unfolding over_cell
over_known text = but_for (bytes_eq text (codes "~")) (in_cell text) (in_known text)
  where
    but_for : (b : Bool) (o : Option Cell) → IsKnownIf o → IsKnownIf (cond b None o)
    but_for true o h = tt
    but_for false o h = h

out_known : (text : List ℕ) → IsKnownIf (out_cell text)
unfolding out_cell
out_known text = out_cells_known (is_empty text) (is_cell_name text) text

known_cell : (kind : RowKind) (text : List ℕ) → IsKnownCell (cell_in kind text)
known_cell In text = in_known text
known_cell Over text = over_known text
known_cell Out text = out_known text

-- a row of a record of that many fields
row_length : (count at : ℕ) (fields : List (List ℕ)) → record_faults count at fields ≡ [] → length (row_of fields).cells ≡ count - 2
unfolding record_faults row_of
row_length count at fields h =
    let same : eqb (length fields) count ≡ true = same_count (eqb (length fields) count) (fault 26 (at + 1) 1) (both_none (fault_if (not (eqb (length fields) count)) (fault 26 (at + 1) 1)) _ h).0 in
    let equal : length fields ≡ count = grind (arith, nat_tests) in
    length-map (drop 2 fields) (cell_in (unwrap_or (kind_of (field_at fields 0)) In)) ∙ (length-drop 2 fields ∙ ap (λ n. n - 2) equal)

row_known : (fields : List (List ℕ)) (k : ℕ) (d : Cell) → k < length (row_of fields).cells → IsKnownCell (get_or (row_of fields).cells k d)
unfolding row_of
row_known fields k d l =
    let kind = unwrap_or (kind_of (field_at fields 0)) In in
    subst IsKnownCell (sym (get_or-map (cell_in kind) (drop 2 fields) k [] d (omega (arith, length-map (drop 2 fields) (cell_in kind), l)))) (known_cell kind (get_or (drop 2 fields) k []))

pub is_formed : (rows : List (List (List ℕ))) → table_faults rows ≡ [] → IsWellFormed (table_of rows)
unfolding table_faults table_of
is_formed rows h = record {
  cells = λ k d l.
      let n : k < length rows = omega (arith, length-map rows row_of, l) in
      let here : get_or (map row_of rows) k d ≡ row_of (get_or rows k []) = get_or-map row_of rows k [] d n in
      let fine : record_faults (count_in rows) k (get_or rows k []) ≡ [] = subst (λ m. record_faults (count_in rows) m (get_or rows k []) ≡ []) (let e : 0 + k ≡ k = omega arith in e) (none_at (record_faults (count_in rows)) rows 0 k [] (both_none (front_faults rows) _ h).1 n) in
      subst (λ (r : Row). length r.cells ≡ count_in rows - 2) (sym here) (row_length (count_in rows) k (get_or rows k []) fine);
  known = λ k d l.
      let n : k < length rows = omega (arith, length-map rows row_of, l) in
      let here : get_or (map row_of rows) k d ≡ row_of (get_or rows k []) = get_or-map row_of rows k [] d n in
      subst (λ (r : Row). All IsKnownCell r.cells) (sym here) (row_known (get_or rows k []));
}
