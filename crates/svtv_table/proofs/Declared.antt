-- The variables of a table: of each name the first.
use Rattle.std.proofs.Common.{◌≡◌, ℕ, List, [], ◌∷◌, ◌++◌, map, Bool, true, false, cond, ◌||◌, refl, sym, ◌∙◌, ap, subst, append_assoc}
use Rattle.std.specs.Prelude.{not, filter}
use Rattle.std.specs.List.{list_any, IsDistinct}
use Rattle.std.specs.Str.{bytes_eq}
use Rattle.std.specs.Cmp.Lexicographic.{nat_list_eq_equiv}
use Rattle.std.proofs.lemmas.List.{append-nil, map-append}
use Rattle.std.proofs.lemmas.List.Elements.{filter-append}
use Rattle.std.proofs.lemmas.Map.Keys.{IsDistinct-push}
use Rattle.svtv_table.specs.Binding.{first_of_each}
use Rattle.svtv_table.specs.Indexing.{with_var, with_vars}
use Rattle.svtv_table.specs.Names.{name_of}
use Rattle.svtv_table.specs.declared.bound.VarDecl.{VarDecl}
use Rattle.svtv_table.proofs.Places.{is_placed}

abbrev pub has : List ℕ → List VarDecl → Bool
has name vars = list_any (λ v. bytes_eq name v.name) vars

abbrev pub others : List ℕ → List VarDecl → List VarDecl
others name vars = filter (λ v. not (bytes_eq name v.name)) vars

with_var_is : (vars : List VarDecl) (v : VarDecl) → with_var vars v ≡ cond (has v.name vars) vars (vars ++ v ∷ [])
with_var_is vars v = ap (λ b. cond b vars (vars ++ v ∷ [])) (is_placed name_of vars v.name)

apart : (bs cs ks : List ℕ) → bytes_eq bs cs ≡ false → bytes_eq bs ks ≡ true → bytes_eq cs ks ≡ false
apart bs cs ks n y = nat_list_eq_equiv.symm cs ks ∙ sym (nat_list_eq_equiv.congr bs ks cs y) ∙ n

-- what is not this name is found among the others
pub has-others : (name other : List ℕ) (vars : List VarDecl) → bytes_eq name other ≡ false → has other (others name vars) ≡ has other vars
has-others name other [] n = refl
has-others name other (v ∷ vs) n = step (bytes_eq name v.name) refl (has-others name other vs n)
  where
    step : (b : Bool) → bytes_eq name v.name ≡ b → has other (others name vs) ≡ has other vs → has other (others name (v ∷ vs)) ≡ has other (v ∷ vs)
    step true e ih =
        let f : bytes_eq other v.name ≡ false = apart name other v.name n e in
        rw (e) (ih ∙ sym (ap (λ b. b || has other vs) f))
    step false e ih = rw (e) (ap (λ b. bytes_eq other v.name || b) ih)

-- the step, by whether the names of x and of v are one and whether the others have that of v
push_step : (x v : VarDecl) (vars : List VarDecl) (b k : Bool) → bytes_eq x.name v.name ≡ b → has v.name vars ≡ k
    → x ∷ others x.name (cond k vars (vars ++ v ∷ [])) ≡ cond (bytes_eq v.name x.name || has v.name (others x.name vars)) (x ∷ others x.name vars) (x ∷ (others x.name vars ++ v ∷ []))
push_step x v vars true k e h =
    let f : bytes_eq v.name x.name ≡ true = nat_list_eq_equiv.symm v.name x.name ∙ e in
    rw (f) (ap (λ us. x ∷ us) (by_k k))
  where
    by_k : (k : Bool) → others x.name (cond k vars (vars ++ v ∷ [])) ≡ others x.name vars
    by_k true = refl
    by_k false = filter-append (λ u. not (bytes_eq x.name u.name)) vars (v ∷ []) ∙ rw (e) (append-nil (others x.name vars))
push_step x v vars false true e h =
    let g : has v.name (others x.name vars) ≡ true = has-others x.name v.name vars e ∙ h in
    let f : bytes_eq v.name x.name ≡ false = nat_list_eq_equiv.symm v.name x.name ∙ e in
    rw (f, g) refl
push_step x v vars false false e h =
    let g : has v.name (others x.name vars) ≡ false = has-others x.name v.name vars e ∙ h in
    let f : bytes_eq v.name x.name ≡ false = nat_list_eq_equiv.symm v.name x.name ∙ e in
    rw (f, g) (ap (λ us. x ∷ us) (filter-append (λ u. not (bytes_eq x.name u.name)) vars (v ∷ []) ∙ rw (e) refl))

first_push : (xs : List VarDecl) (v : VarDecl) → first_of_each (xs ++ v ∷ []) ≡ with_var (first_of_each xs) v
first_push [] v = sym (with_var_is [] v)
first_push (x ∷ xs) v =
    ap (λ us. x ∷ others x.name us) (first_push xs v ∙ with_var_is (first_of_each xs) v)
    ∙ (push_step x v (first_of_each xs) (bytes_eq x.name v.name) (has v.name (first_of_each xs)) refl refl ∙ sym (with_var_is (first_of_each (x ∷ xs)) v))

pub with_vars-first : (ys xs : List VarDecl) → with_vars (first_of_each ys) xs ≡ first_of_each (ys ++ xs)
with_vars-first ys [] = ap first_of_each (sym (append-nil ys))
with_vars-first ys (x ∷ xs) = ap (λ vars. with_vars vars xs) (sym (first_push ys x)) ∙ (with_vars-first (ys ++ x ∷ []) xs ∙ ap first_of_each (append_assoc ys (x ∷ []) xs))

pub collected : (xs : List VarDecl) → with_vars [] xs ≡ first_of_each xs
collected xs = with_vars-first [] xs

-- ---- names are distinct

any_of_names : (name : List ℕ) (vars : List VarDecl) → has name vars ≡ list_any (bytes_eq name) (map name_of vars)
any_of_names name [] = refl
any_of_names name (v ∷ vs) = ap (λ b. bytes_eq name v.name || b) (any_of_names name vs)

one_more : (b : Bool) (vars : List VarDecl) (v : VarDecl) → has v.name vars ≡ b → IsDistinct bytes_eq (map name_of vars) → IsDistinct bytes_eq (map name_of (cond b vars (vars ++ v ∷ [])))
one_more true vars v e h = h
one_more false vars v e h =
    subst (λ ns. IsDistinct bytes_eq ns) (sym (map-append name_of vars (v ∷ []))) (IsDistinct-push nat_list_eq_equiv (map name_of vars) v.name h (sym (any_of_names v.name vars) ∙ e))

pub all_distinct : (vars more : List VarDecl) → IsDistinct bytes_eq (map name_of vars) → IsDistinct bytes_eq (map name_of (with_vars vars more))
all_distinct vars [] h = h
all_distinct vars (v ∷ vs) h = all_distinct (with_var vars v) vs (subst (λ us. IsDistinct bytes_eq (map name_of us)) (sym (with_var_is vars v)) (one_more (has v.name vars) vars v refl h))
