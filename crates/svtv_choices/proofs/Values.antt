-- Values without faults are a choice.
use Rattle.std.proofs.Common.{◌≡◌, ℕ, zero, suc, ◌+◌, ◌<◌, ◌≤◌, Bool, true, false, cond, ◌||◌, ◌&&◌, List, [], ◌∷◌, ◌++◌, length, get_or, map, take, replicate, refl, sym, ap, ◌∙◌, subst, arith, Option, Some, None, ⊎_elim}
use Rattle.std.specs.Prelude.{◌==◌, find, not, option_map, unwrap_or, IsTrue}
use Rattle.std.specs.List.{IsDistinct, list_all, list_any}
use Rattle.std.specs.Str.{bytes_eq}
use Rattle.std.specs.Cmp.Lexicographic.{nat_list_eq_equiv, bytes_decides}
use Rattle.std.proofs.lemmas.Bool.{cases_lt}
use Rattle.std.proofs.lemmas.List.{ext_get_or, get_or-map, length-map, length-replicate}
use Rattle.std.proofs.lemmas.Map.Keys.{apart_from_distinct}
use Rattle.fourvec.specs.declared.Bit.{Bit}
use Rattle.fourvec.specs.declared.Bit.TheVariants.{Zero}
use Rattle.fourvec.specs.Bits.{is_known, is_known_bit, first}
use Rattle.sv_literal.specs.Meaning.{meaning_of, number_of as number_literal, based_of, fill_of}
use Rattle.sv_literal.specs.Value.{fitted}
use Rattle.sv_literal.specs.declared.meaning.Literal.{Literal}
use Rattle.sv_literal.proofs.Vectors.{length-fitted}
use Rattle.sv_outside.specs.declared.refusal.Refusal.{Refusal}
use Rattle.table_cells.specs.Cells.{has_value, known_literal}
use Rattle.table_cells.specs.Constants.{constant}
use Rattle.svtv_table.specs.Faults.{at_each, fault, fault_if}
use Rattle.svtv_table.specs.Names.{name_of, number_of, width_at, width_under}
use Rattle.svtv_table.specs.Stimuli.{IsChoice}
use Rattle.svtv_table.specs.Valuing.{faults_of_var, given_value, is_given, is_of, is_value, literal_fits, name_at, record_faults, text_at, value_faults, values_faults, values_of, var_faults}
use Rattle.svtv_table.specs.declared.bound.VarDecl.{VarDecl}
use Rattle.svtv_table.proofs.Formed.{both_none, none_at}
use Rattle.svtv_table.proofs.Places.{is_placed, name_there, some_from, within_from}

-- ---- constants of known literals

known_left : (a b : Bool) (l : Literal) (m : Literal) → cond (a && b) (Some m) None ≡ Some l → b ≡ true
known_left true true l m h = refl
known_left true false l m h = cc
known_left false b l m h = cc

known_value : (text : List ℕ) (l : Literal) → known_literal text ≡ Some l → is_known (meaning_of text).value ≡ true
unfolding known_literal
known_value text l h = known_left (has_value text) (is_known (meaning_of text).value) l (meaning_of text) h

known_both : (a b : List Bit) → is_known a ≡ true → is_known b ≡ true → is_known (a ++ b) ≡ true
unfolding is_known
known_both [] b h k = k
known_both (x ∷ a) b h k = let e = both (is_known_bit x) (is_known a) h in rw (e.0, known_both a b e.1 k) refl
  where
    both : (p q : Bool) → (p && q) ≡ true → (p ≡ true) × (q ≡ true)
    both true q h = (refl, h)
    both false q h = cc

known_same : (w : ℕ) (b : Bit) → is_known_bit b ≡ true → is_known (replicate w b) ≡ true
unfolding is_known
known_same zero b h = refl
known_same (suc w) b h = rw (h, known_same w b h) refl

known_front : (w : ℕ) (a : List Bit) → is_known a ≡ true → is_known (take w a) ≡ true
unfolding is_known
known_front zero a h = refl
known_front (suc w) [] h = refl
known_front (suc w) (x ∷ a) h = let e = both (is_known_bit x) (is_known a) h in rw (e.0, known_front w a e.1) refl
  where
    both : (p q : Bool) → (p && q) ≡ true → (p ≡ true) × (q ≡ true)
    both true q h = (refl, h)
    both false q h = cc

-- a literal that fills has a bit
fills_known : (a b : Bool) (t : List ℕ) → (cond a (number_literal t) (cond b (based_of t) (fill_of t))).fill ≡ true → is_known (cond a (number_literal t) (cond b (based_of t) (fill_of t))).value ≡ true
    → is_known_bit (first (cond a (number_literal t) (cond b (based_of t) (fill_of t))).value) ≡ true
unfolding number_literal based_of fill_of is_known
fills_known true b t f h = cc
fills_known false true t f h = cc
fills_known false false t f h = let e = left (is_known_bit _) h in e
  where
    left : (p : Bool) → (p && true) ≡ true → p ≡ true
    left true h = refl
    left false h = cc

constant_known : (fill : Bool) (value : List Bit) (width : ℕ) → (fill ≡ true → is_known_bit (first value) ≡ true) → is_known value ≡ true
    → is_known (cond fill (replicate width (first value)) (fitted width Zero value)) ≡ true
unfolding fitted
constant_known true value width f h = known_same width (first value) (f refl)
constant_known false value width f h = known_front width (value ++ replicate width Zero) (known_both value (replicate width Zero) h (known_same width Zero refl))

constant_long : (fill : Bool) (value : List Bit) (width : ℕ) → length (cond fill (replicate width (first value)) (fitted width Zero value)) ≡ width
constant_long true value width = length-replicate width (first value)
constant_long false value width = length-fitted width Zero value

unfoldable IsGood : VarDecl → List Bit → Type 0
IsGood var v = (length v ≡ var.width) × (is_known v ≡ true)

good_constant : (text : List ℕ) (l : Literal) (var : VarDecl) → known_literal text ≡ Some l → IsGood var (constant (meaning_of text) var.width)
unfolding IsGood constant meaning_of
good_constant text l var h =
    let k = known_value text l h in (
      constant_long (meaning_of text).fill (meaning_of text).value var.width,
      constant_known (meaning_of text).fill (meaning_of text).value var.width (λ f. fills_known _ _ text f k) k,
    )

-- ---- the record of a variable

found_there : {A : Type 0} (p : A → Bool) (xs : List A) (d : A) → list_any p xs ≡ true → (k : ℕ) × (k < length xs) × (find p xs ≡ Some (get_or xs k d)) × (p (get_or xs k d) ≡ true)
found_there p [] d h = cc
found_there p (x ∷ xs) d h = by_case (p x) refl (found_there p xs d) h
  where
    by_case : (b : Bool) → p x ≡ b → (list_any p xs ≡ true → (k : ℕ) × (k < length xs) × (find p xs ≡ Some (get_or xs k d)) × (p (get_or xs k d) ≡ true)) → (b || list_any p xs) ≡ true
        → (k : ℕ) × (k < suc (length xs)) × (cond b (Some x) (find p xs) ≡ Some (get_or (x ∷ xs) k d)) × (p (get_or (x ∷ xs) k d) ≡ true)
    by_case true e f h = (0, omega arith, refl, e)
    by_case false e f h = let r = f h in (suc r.0, omega (arith, r.1), r.2, r.3)

abbrev nobody : VarDecl
nobody = record { name = []; width = 0 }

-- distinct names have one place each
one_number : (names : List (List ℕ)) (i j : ℕ) → IsDistinct bytes_eq names → i < length names → j < length names → get_or names i [] ≡ get_or names j [] → i ≡ j
one_number names i j d li lj e = ⊎_elim
    (λ (l : i < j). let n = apart_from_distinct bytes_eq names i j [] d l lj in let y = same i j e in cc)
    (λ (h : j ≤ i). ⊎_elim
    (λ (l : j < i). let n = apart_from_distinct bytes_eq names j i [] d l li in let y = same j i (sym e) in cc)
    (λ (k : i ≤ j). omega arith)
    (cases_lt j i))
    (cases_lt i j)
  where
    same : (k m : ℕ) → get_or names k [] ≡ get_or names m [] → bytes_eq (get_or names k []) (get_or names m []) ≡ true
    same k m q = ap (λ x. bytes_eq x (get_or names m [])) q ∙ nat_list_eq_equiv.refl (get_or names m [])

any_there : {A : Type 0} (p : A → Bool) (xs : List A) (k : ℕ) (x : A) → k < length xs → p (get_or xs k x) ≡ true → list_any p xs ≡ true
any_there p [] k x l h = absurd (omega (arith, l))
any_there p (y ∷ ys) zero x l h = rw h refl
any_there p (y ∷ ys) (suc k) x l h = or_true (p y) (any_there p ys k x (omega (arith, l)) h)
  where
    or_true : (b : Bool) {c : Bool} → c ≡ true → (b || c) ≡ true
    or_true true e = refl
    or_true false e = e

-- a variable is found by its name
number_there : (vars : List VarDecl) (i : ℕ) → IsDistinct bytes_eq (map name_of vars) → i < length vars → number_of vars (get_or vars i nobody).name ≡ Some i
number_there vars i d l =
    let names = map name_of vars in
    let name = (get_or vars i nobody).name in
    let at_i : get_or names i [] ≡ name = get_or-map name_of vars i nobody [] l in
    let near : get_or vars i (get_or vars i nobody) ≡ get_or vars i nobody = get_or_same vars i (get_or vars i nobody) nobody l in
    let yes : bytes_eq name (get_or vars i (get_or vars i nobody)).name ≡ true = ap (λ (x : VarDecl). bytes_eq name x.name) near ∙ nat_list_eq_equiv.refl name in
    let found = some_from (number_of vars name) (is_placed name_of vars name ∙ any_there (λ (x : VarDecl). bytes_eq name x.name) vars i (get_or vars i nobody) l yes) in
    let at_j : get_or names found.0 [] ≡ name = name_there names name found.0 [] found.1 in
    found.1 ∙ ap Some (one_number names found.0 i d (within_from names name found.0 found.1) (omega (arith, l, length-map vars name_of)) (at_j ∙ sym at_i))
  where
    get_or_same : {A : Type 0} (xs : List A) (k : ℕ) (c e : A) → k < length xs → get_or xs k c ≡ get_or xs k e
    get_or_same [] k c e m = absurd (omega (arith, m))
    get_or_same (x ∷ xs) zero c e m = refl
    get_or_same (x ∷ xs) (suc k) c e m = get_or_same xs k c e (omega (arith, m))

-- ---- one variable

no_fault : (b : Bool) (r : Refusal) → fault_if (not b) r ≡ [] → b ≡ true
no_fault true r h = refl
no_fault false r h = cc

-- a record without faults has a value that fits
fits_there : (w : ℕ) (again : Bool) (line : ℕ) (text : List ℕ) → faults_of_var (Some w) again line text ≡ [] → is_value text w ≡ true
unfolding var_faults
fits_there w again line text h = no_fault (is_value text w) (fault 38 line 2) (both_none (fault_if again (fault 37 line 1)) (fault_if (not (is_value text w)) (fault 38 line 2)) h).1

literal_there : (o : Option Literal) (w : ℕ) → literal_fits o w ≡ true → (l : Literal) × (o ≡ Some l)
literal_there None w h = cc
literal_there (Some l) w h = (l, refl)

all_there : {A : Type 0} (p : A → Bool) (xs : List A) (k : ℕ) (d : A) → list_all p xs ≡ true → k < length xs → p (get_or xs k d) ≡ true
all_there p [] k d h l = absurd (omega (arith, l))
all_there p (x ∷ xs) zero d h l = (both (p x) (list_all p xs) h).0
  where
    both : (a b : Bool) → (a && b) ≡ true → (a ≡ true) × (b ≡ true)
    both true b e = (refl, e)
    both false b e = cc
all_there p (x ∷ xs) (suc k) d h l = all_there p xs k d (right (p x) (list_all p xs) h) (omega (arith, l))
  where
    right : (a b : Bool) → (a && b) ≡ true → b ≡ true
    right true b e = e
    right false b e = cc

module _ (vars : List VarDecl) (rows : List (List (List ℕ))) (distinct : IsDistinct bytes_eq (map name_of vars)) (fine : values_faults vars rows ≡ []) where
  records_fine : at_each (record_faults vars rows) 0 rows ≡ []
  unfolding values_faults
  records_fine = (both_none (at_each (record_faults vars rows) 0 rows) (fault_if (not (list_all (is_given rows) vars)) (fault 35 1 1)) fine).0

  all_given : list_all (is_given rows) vars ≡ true
  unfolding values_faults
  all_given = no_fault (list_all (is_given rows) vars) (fault 35 1 1) (both_none (at_each (record_faults vars rows) 0 rows) (fault_if (not (list_all (is_given rows) vars)) (fault 35 1 1)) fine).1

  -- the value of a variable
  good : (i : ℕ) → i < length vars → IsGood (get_or vars i nobody) (unwrap_or (given_value rows (get_or vars i nobody)) [])
  unfolding IsGood value_faults is_value
  good i l =
      let var = get_or vars i nobody in
      let found = found_there (is_of var.name) rows [] (all_there (is_given rows) vars i nobody all_given l) in
      let k = found.0 in
      let fields = get_or rows k [] in
      let named : var.name ≡ name_at fields = (bytes_decides var.name (name_at fields)).0 found.3 in
      let record_fine = none_at (record_faults vars rows) rows 0 k [] records_fine found.1 in
      let by_var : faults_of_var (width_under vars (name_at fields)) (list_any (is_of (name_at fields)) (take (0 + k) rows)) (0 + k + 1) (text_at fields) ≡ [] =
      (both_none (fault_if (not (length fields == 2)) (fault 26 (0 + k + 1) 1)) _ record_fine).1 in
      let width : width_under vars (name_at fields) ≡ Some var.width = ap (width_under vars) (sym named) ∙ ap (width_at vars) (number_there vars i distinct l) in
      let own = ap (λ o. faults_of_var o (list_any (is_of (name_at fields)) (take (0 + k) rows)) (0 + k + 1) (text_at fields)) (sym width) ∙ by_var in
      let literal = literal_there (known_literal (text_at fields)) var.width (fits_there var.width _ _ (text_at fields) own) in
      subst (λ o. IsGood var (unwrap_or (option_map (λ fs. constant (meaning_of (text_at fs)) var.width) o) [])) (sym found.2) (good_constant (text_at fields) literal.0 var literal.1)

  value_at : (i : ℕ) (d : List Bit) → i < length vars → get_or (values_of vars rows) i d ≡ unwrap_or (given_value rows (get_or vars i nobody)) []
  unfolding values_of
  value_at i d l = get_or-map (λ var. unwrap_or (given_value rows var) []) vars i nobody d l

  pub values_choice : IsChoice vars (values_of vars rows)
  unfolding values_of IsGood
  values_choice = record {
    widths = ext_get_or 0 (map (λ v. length v) (values_of vars rows)) (map (λ v. v.width) vars)
        (length-map (values_of vars rows) (λ (v : List Bit). length v) ∙ (length-map vars (λ (v : VarDecl). unwrap_or (given_value rows v) []) ∙ sym (length-map vars (λ (v : VarDecl). v.width))))
        (λ i l.
        let li : i < length vars = omega (arith, l, length-map (values_of vars rows) (λ (v : List Bit). length v), length-map vars (λ (v : VarDecl). unwrap_or (given_value rows v) [])) in
        get_or-map (λ v. length v) (values_of vars rows) i [] 0 (omega (arith, li, length-map vars (λ (v : VarDecl). unwrap_or (given_value rows v) [])))
        ∙ (ap (λ (v : List Bit). length v) (value_at i [] li) ∙ ((good i li).0 ∙ sym (get_or-map (λ v. v.width) vars i nobody 0 li))));
    known = λ i d l.
        let li : i < length vars = omega (arith, l, length-map vars (λ (v : VarDecl). unwrap_or (given_value rows v) [])) in
        subst (λ (v : List Bit). IsTrue (is_known v)) (sym (value_at i d li)) (good i li).1;
  }
