-- The values of variables, one record on.
use Rattle.std.proofs.Common.{◌≡◌, ◌≢◌, ◌<◌, ◌≤◌, ℕ, List, [], ◌∷◌, ◌++◌, map, length, get_or, set, Bool, true, false, cond, ◌||◌, ◌&&◌, Option, Some, None, refl, sym, ◌∙◌, ap, subst, arith, ⊎_elim, get_or-set_same, get_or-set_other}
use Rattle.std.specs.Prelude.{◌==◌, find, is_some, not, option_map, unwrap_or}
use Rattle.std.specs.List.{IsDistinct, list_all, list_any}
use Rattle.std.specs.Str.{bytes_eq}
use Rattle.std.specs.Cmp.Lexicographic.{nat_list_eq_equiv}
use Rattle.std.proofs.lemmas.Bool.{cases_eq, cases_lt}
use Rattle.std.proofs.lemmas.List.{ext_get_or, get_or-map, length-map, length-set}
use Rattle.std.proofs.lemmas.Map.Keys.{apart_from_distinct}
use Rattle.fourvec.specs.declared.Bit.{Bit}
use Rattle.sv_literal.specs.Meaning.{meaning_of}
use Rattle.sv_outside.specs.declared.refusal.Refusal.{Refusal}
use Rattle.table_cells.specs.Constants.{constant}
use Rattle.svtv_table.specs.Faults.{fault, fault_if}
use Rattle.svtv_table.specs.Following.{is_valued, with_value}
use Rattle.svtv_table.specs.Names.{name_of, number_of, width_at, width_under}
use Rattle.svtv_table.specs.Valuing.{faults_of_var, given_value, is_given, is_of, name_at, text_at, value_faults, values_of, var_faults}
use Rattle.svtv_table.specs.declared.bound.VarDecl.{VarDecl}
use Rattle.svtv_table.proofs.Formed.{both_none}
use Rattle.svtv_table.proofs.Places.{name_there, within_from}

-- ---- the first record of a name

found_any : {A B : Type 0} (f : A → B) (p : A → Bool) (xs : List A) → is_some (option_map f (find p xs)) ≡ list_any p xs
found_any f p [] = refl
found_any f p (x ∷ xs) = by_case (p x) (found_any f p xs)
  where
    by_case : (b : Bool) → is_some (option_map f (find p xs)) ≡ list_any p xs → is_some (option_map f (cond b (Some x) (find p xs))) ≡ (b || list_any p xs)
    by_case true h = refl
    by_case false h = h

find_skip : {A : Type 0} (p : A → Bool) (xs : List A) (x : A) → p x ≡ false → find p (xs ++ x ∷ []) ≡ find p xs
find_skip p [] x h = rw h refl
find_skip p (y ∷ ys) x h = ap (λ o. cond (p y) (Some y) o) (find_skip p ys x h)

find_new : {A : Type 0} (p : A → Bool) (xs : List A) (x : A) → list_any p xs ≡ false → p x ≡ true → find p (xs ++ x ∷ []) ≡ Some x
find_new p [] x n h = rw h refl
find_new p (y ∷ ys) x n h = let parts = neither (p y) (list_any p ys) n in rw parts.0 (find_new p ys x parts.1 h)
  where
    neither : (a b : Bool) → (a || b) ≡ false → (a ≡ false) × (b ≡ false)
    neither true b h = cc
    neither false b h = (refl, h)

-- ---- the variable of a name

abbrev nobody : VarDecl
nobody = record { name = []; width = 0 }

var_name : (vars : List VarDecl) (name : List ℕ) (i : ℕ) → number_of vars name ≡ Some i → (get_or vars i nobody).name ≡ name
var_name vars name i h =
    sym (get_or-map name_of vars i nobody [] (omega (arith, within_from (map name_of vars) name i h, length-map vars name_of))) ∙ name_there (map name_of vars) name i [] h

again_is : (vars : List VarDecl) (before : List (List (List ℕ))) (name : List ℕ) (i : ℕ) → number_of vars name ≡ Some i
    → is_some (get_or (map (given_value before) vars) i None) ≡ list_any (is_of name) before
again_is vars before name i h =
    ap (λ (o : Option (List Bit)). is_some o) (get_or-map (given_value before) vars i nobody None (omega (arith, within_from (map name_of vars) name i h, length-map vars name_of)))
    ∙ (found_any (λ fields. constant (meaning_of (text_at fields)) (get_or vars i nobody).width) (is_of (get_or vars i nobody).name) before ∙ ap (λ n. list_any (is_of n) before) (var_name vars name i h))

pub faults_same : (vars : List VarDecl) (before : List (List (List ℕ))) (line : ℕ) (fields : List (List ℕ))
    → value_faults vars (is_valued (map (given_value before) vars) (number_of vars (name_at fields))) line fields ≡ value_faults vars (list_any (is_of (name_at fields)) before) line fields
unfolding value_faults
faults_same vars before line fields = ap (λ fs. fault_if (not (length fields == 2)) (fault 26 line 1) ++ fs) (by_case (number_of vars (name_at fields)) refl)
  where
    by_case : (o : Option ℕ) → number_of vars (name_at fields) ≡ o
        → faults_of_var (width_at vars o) (is_valued (map (given_value before) vars) o) line (text_at fields) ≡ faults_of_var (width_at vars o) (list_any (is_of (name_at fields)) before) line (text_at fields)
    by_case None h = refl
    by_case (Some i) h = ap (λ b. var_faults b (get_or vars i nobody).width line (text_at fields)) (again_is vars before (name_at fields) i h)

-- ---- one record more

not_again : (b : Bool) (r : Refusal) (fs : List Refusal) → fault_if b r ++ fs ≡ [] → b ≡ false
not_again true r fs h = cc
not_again false r fs h = refl

-- two variables have two names
apart : (vars : List VarDecl) (i j : ℕ) → IsDistinct bytes_eq (map name_of vars) → i < length vars → j < length vars → j ≢ i → bytes_eq (get_or vars j nobody).name (get_or vars i nobody).name ≡ false
apart vars i j d li lj n =
    let names = map name_of vars in
    let at_i : get_or names i [] ≡ (get_or vars i nobody).name = get_or-map name_of vars i nobody [] li in
    let at_j : get_or names j [] ≡ (get_or vars j nobody).name = get_or-map name_of vars j nobody [] lj in
    ⊎_elim
    (λ (l : j < i). subst (λ a. bytes_eq a (get_or vars i nobody).name ≡ false) at_j (subst (λ b. bytes_eq (get_or names j []) b ≡ false) at_i (apart_from_distinct bytes_eq names j i [] d l (omega (arith, length-map vars name_of)))))
    (λ (l : i ≤ j).
    let k : i < j = omega arith in
    let e : bytes_eq (get_or vars i nobody).name (get_or vars j nobody).name ≡ false =
    subst (λ a. bytes_eq a (get_or vars j nobody).name ≡ false) at_i (subst (λ b. bytes_eq (get_or names i []) b ≡ false) at_j (apart_from_distinct bytes_eq names i j [] d k (omega (arith, length-map vars name_of)))) in
    nat_list_eq_equiv.symm (get_or vars j nobody).name (get_or vars i nobody).name ∙ e)
    (cases_lt j i)

given_now : (var : VarDecl) (before : List (List (List ℕ))) (fields : List (List ℕ)) → var.name ≡ name_at fields → list_any (is_of (name_at fields)) before ≡ false
    → given_value (before ++ fields ∷ []) var ≡ Some (constant (meaning_of (text_at fields)) var.width)
given_now var before fields e n =
    ap (option_map (λ fs. constant (meaning_of (text_at fs)) var.width))
    (find_new (is_of var.name) before fields (ap (λ m. list_any (is_of m) before) e ∙ n) (ap (λ m. bytes_eq m (name_at fields)) e ∙ nat_list_eq_equiv.refl (name_at fields)))

given_before : (var : VarDecl) (before : List (List (List ℕ))) (fields : List (List ℕ)) → bytes_eq var.name (name_at fields) ≡ false → given_value (before ++ fields ∷ []) var ≡ given_value before var
given_before var before fields e = ap (option_map (λ fs. constant (meaning_of (text_at fs)) var.width)) (find_skip (is_of var.name) before fields e)

put_at : (vars : List VarDecl) (before : List (List (List ℕ))) (fields : List (List ℕ)) (i : ℕ) → IsDistinct bytes_eq (map name_of vars) → number_of vars (name_at fields) ≡ Some i
    → list_any (is_of (name_at fields)) before ≡ false
    → set (map (given_value before) vars) i (Some (constant (meaning_of (text_at fields)) (get_or vars i nobody).width)) ≡ map (given_value (before ++ fields ∷ [])) vars
put_at vars before fields i d h n =
    let old = map (given_value before) vars in
    let new = map (given_value (before ++ fields ∷ [])) vars in
    let value : Option (List Bit) = Some (constant (meaning_of (text_at fields)) (get_or vars i nobody).width) in
    let within : i < length vars = omega (arith, within_from (map name_of vars) (name_at fields) i h, length-map vars name_of) in
    let here = var_name vars (name_at fields) i h in
    ext_get_or None (set old i value) new (length-set old i value ∙ (length-map vars (given_value before) ∙ sym (length-map vars (given_value (before ++ fields ∷ [])))))
    (λ j l.
    let lj : j < length vars = omega (arith, l, length-set old i value, length-map vars (given_value before)) in
    ⊎_elim
    (λ (e : j ≡ i).
    ap (λ k. get_or (set old i value) k None) e ∙ (get_or-set_same old i value None (omega (arith, within, length-map vars (given_value before)))
    ∙ (sym (given_now (get_or vars i nobody) before fields here n) ∙ (sym (get_or-map (given_value (before ++ fields ∷ [])) vars i nobody None within) ∙ ap (λ k. get_or new k None) (sym e)))))
    (λ (ne : j ≢ i).
    get_or-set_other old i j value None ne ∙ (get_or-map (given_value before) vars j nobody None lj
    ∙ (sym (given_before (get_or vars j nobody) before fields (ap (λ m. bytes_eq (get_or vars j nobody).name m) (sym here) ∙ apart vars i j d within lj ne))
    ∙ sym (get_or-map (given_value (before ++ fields ∷ [])) vars j nobody None lj))))
    (cases_eq j i))

put_if : (vars : List VarDecl) (before : List (List (List ℕ))) (line : ℕ) (fields : List (List ℕ)) (o : Option ℕ) → IsDistinct bytes_eq (map name_of vars) → number_of vars (name_at fields) ≡ o
    → faults_of_var (width_at vars o) (list_any (is_of (name_at fields)) before) line (text_at fields) ≡ []
    → with_value (map (given_value before) vars) o (constant (meaning_of (text_at fields)) (unwrap_or (width_at vars o) 0)) ≡ map (given_value (before ++ fields ∷ [])) vars
unfolding var_faults
put_if vars before line fields None d h f = cc
put_if vars before line fields (Some i) d h f = put_at vars before fields i d h (not_again _ _ _ f)

pub put_one : (vars : List VarDecl) (before : List (List (List ℕ))) (line : ℕ) (fields : List (List ℕ)) → IsDistinct bytes_eq (map name_of vars)
    → value_faults vars (list_any (is_of (name_at fields)) before) line fields ≡ []
    → with_value (map (given_value before) vars) (number_of vars (name_at fields)) (constant (meaning_of (text_at fields)) (unwrap_or (width_under vars (name_at fields)) 0)) ≡ map (given_value (before ++ fields ∷ [])) vars
unfolding value_faults
put_one vars before line fields d f =
    put_if vars before line fields (number_of vars (name_at fields)) d refl
    (both_none (fault_if (not (length fields == 2)) (fault 26 line 1)) (faults_of_var (width_under vars (name_at fields)) (list_any (is_of (name_at fields)) before) line (text_at fields)) f).1

-- ---- all records

pub all_given_is : (rows : List (List (List ℕ))) (vars : List VarDecl) → list_all is_some (map (given_value rows) vars) ≡ list_all (is_given rows) vars
all_given_is rows [] = refl
all_given_is rows (v ∷ vs) =
    ap (λ b. b && list_all is_some (map (given_value rows) vs)) (found_any (λ fields. constant (meaning_of (text_at fields)) v.width) (is_of v.name) rows)
    ∙ ap (λ b. is_given rows v && b) (all_given_is rows vs)

unwrap_somes : (xs : List (List Bit)) → map (λ o. unwrap_or o []) (map (λ x. Some x) xs) ≡ xs
unwrap_somes [] = refl
unwrap_somes (x ∷ xs) = ap (λ ys. x ∷ ys) (unwrap_somes xs)

unwrap_given : (rows : List (List (List ℕ))) (vars : List VarDecl) → map (λ o. unwrap_or o []) (map (given_value rows) vars) ≡ map (λ v. unwrap_or (given_value rows v) []) vars
unwrap_given rows [] = refl
unwrap_given rows (v ∷ vs) = ap (λ ys. unwrap_or (given_value rows v) [] ∷ ys) (unwrap_given rows vs)

pub values_are : (rows : List (List (List ℕ))) (vars : List VarDecl) (xs : List (List Bit)) → map (λ x. Some x) xs ≡ map (given_value rows) vars → xs ≡ values_of vars rows
unfolding values_of
values_are rows vars xs h = sym (unwrap_somes xs) ∙ (ap (λ os. map (λ o. unwrap_or o []) os) h ∙ unwrap_given rows vars)
