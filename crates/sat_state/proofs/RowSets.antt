-- The list of one literal is replaced.
use Rattle.std.proofs.Common.{◌≡◌, ℕ, ◌<◌, ◌+◌, ◌*◌, Bool, true, false, cond, List, [], ◌∷◌, ◌++◌, length, get_or, set, sym, refl, ap, ◌∙◌, arith, Vec, Global}
use Rattle.std.proofs.lemmas.List.{get_or-map, map-append, map-set, set-get_or}
use Rattle.cnf.specs.declared.Dim.{Dim}
use Rattle.sat_state.specs.declared.watch.Watch.{Watch}
use Rattle.sat_state.specs.Watch.{code, rows}

pub rows_set : (lists : List (Vec Watch Global)) (i j : ℕ) (v : Vec Watch Global) (row : List Watch) → i ≡ j → v.items ≡ row → rows (set lists i v) ≡ set (rows lists) j row
rows_set lists i j v row e is = map-set (λ v. v.items) lists i v ∙ ap (λ n. set (rows lists) n v.items) e ∙ ap (set (rows lists) j) is

pub row_is : (lists : List (Vec Watch Global)) (i j : ℕ) (v : Vec Watch Global) → i < length lists → i ≡ j → v ≡ get_or lists i v → v.items ≡ get_or (rows lists) j []
row_is lists i j v lt e is = ap (λ v. v.items) is ∙ sym (get_or-map (λ v. v.items) lists i v [] lt) ∙ ap (λ n. get_or (rows lists) n []) e

-- one more list, which is empty
pub rows_push : (lists : List (Vec Watch Global)) (v : Vec Watch Global) → v.items ≡ [] → rows (lists ++ v ∷ []) ≡ rows lists ++ [] ∷ []
rows_push lists v is = map-append (λ v. v.items) lists (v ∷ []) ∙ ap (λ (row : List Watch). rows lists ++ row ∷ []) is

-- a list with the same watches
pub rows_kept : (lists : List (Vec Watch Global)) (i : ℕ) (v w : Vec Watch Global) → i < length lists → w ≡ get_or lists i w → v.items ≡ w.items → rows (set lists i v) ≡ rows lists
rows_kept lists i v w lt e is = rows_set lists i i v w.items refl is ∙ ap (set (rows lists) i) (row_is lists i i w lt refl e) ∙ set-get_or (rows lists) i []

-- the list of a literal is in range
pub code_below : (d : Dim) (n : ℕ) → 2 * d.var + 1 < n → code d < n
code_below d n lt = let P : Bool → Type 0 = λ b. cond b (2 * d.var + 1) (2 * d.var) < n in
    let at : (b : Bool) → P b = λ b. elim b as P [ true ↦ lt | false ↦ omega arith ] in at d.negated
