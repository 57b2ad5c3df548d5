-- Places of names, and indexes of them.
use Rattle.std.proofs.Common.{◌≡◌, ◌<◌, ◌+◌, ℕ, suc, List, [], ◌∷◌, ◌++◌, length, Option, Some, None, Bool, true, false, cond, refl, sym, ◌∙◌, ap, subst, arith, ⊎_elim}
use Rattle.std.specs.List.{position_from}
use Rattle.std.specs.Str.{bytes_eq}
use Rattle.std.specs.Cmp.Lexicographic.{nat_list_eq_equiv, bytes_decides}
use Rattle.std.proofs.lemmas.Bool.{cases_Bool}
use Rattle.std.proofs.lemmas.List.{length-map}
use Rattle.std.specs.Prelude.{IfSome, is_some, map, OnOk, Result, Ok, Err}
use Rattle.name_index.specs.Under.{under, Puts}
use Rattle.name_index.specs.Indexing.{place_of, number_under, Indexes}
use Rattle.name_index.specs.declared.index.NameIndex.{NameIndex}

-- ---- the first place that passes

stays_if : (b : Bool) (n i : ℕ) (o p : Option ℕ) → (o ≡ Some i → p ≡ Some i) → cond b (Some n) o ≡ Some i → cond b (Some n) p ≡ Some i
stays_if true n i o p f h = h
stays_if false n i o p f h = f h

pub found_stays : {A : Type 0} (p : A → Bool) (n i : ℕ) (xs ys : List A) → position_from p n xs ≡ Some i → position_from p n (xs ++ ys) ≡ Some i
found_stays p n i [] ys h = cc
found_stays p n i (x ∷ xs) ys h = stays_if (p x) n i (position_from p (n + 1) xs) (position_from p (n + 1) (xs ++ ys)) (found_stays p (n + 1) i xs ys) h

goes_on_if : (b : Bool) (n : ℕ) (o p : Option ℕ) → (o ≡ None → p ≡ o → p ≡ None) → cond b (Some n) o ≡ None → (b ≡ false) × (o ≡ None)
goes_on_if true n o p f h = cc
goes_on_if false n o p f h = (refl, h)

pub missing_goes_on : {A : Type 0} (p : A → Bool) (n : ℕ) (xs ys : List A) → position_from p n xs ≡ None → position_from p n (xs ++ ys) ≡ position_from p (n + length xs) ys
missing_goes_on p n [] ys h = let e : n ≡ n + 0 = omega arith in ap (λ m. position_from p m ys) e
missing_goes_on p n (x ∷ xs) ys h =
    let parts = goes_on_if (p x) n (position_from p (n + 1) xs) None (λ _ _. refl) h in
    let e : n + 1 + length xs ≡ n + suc (length xs) = omega arith in
    rw parts.0 (missing_goes_on p (n + 1) xs ys parts.1 ∙ ap (λ m. position_from p m ys) e)

below_if : (b : Bool) (n i m : ℕ) (o : Option ℕ) → (o ≡ Some i → i < n + 1 + m) → cond b (Some n) o ≡ Some i → i < n + suc m
below_if true n i m o f h = let e : n ≡ i = cc in omega arith
below_if false n i m o f h = let l : i < n + 1 + m = f h in omega arith

place_below : {A : Type 0} (p : A → Bool) (n i : ℕ) (xs : List A) → position_from p n xs ≡ Some i → i < n + length xs
place_below p n i [] h = cc
place_below p n i (x ∷ xs) h = below_if (p x) n i (length xs) (position_from p (n + 1) xs) (place_below p (n + 1) i xs) h

if_some : (o : Option ℕ) (P : ℕ → Type 0) → ((i : ℕ) → o ≡ Some i → P i) → IfSome o P
if_some None P f = tt
if_some (Some i) P f = f i refl

pub place_within : (names : List (List ℕ)) (name : List ℕ) → IfSome (place_of names name) (λ i. i < length names)
unfolding place_of
place_within names name = if_some (position_from (bytes_eq name) 0 names) (λ i. i < length names) (λ i h. omega (arith, place_below (bytes_eq name) 0 i names h))

pub place_old : (names more : List (List ℕ)) (name : List ℕ) (i : ℕ) → place_of names name ≡ Some i → place_of (names ++ more) name ≡ Some i
unfolding place_of
place_old names more name i h = found_stays (bytes_eq name) 0 i names more h

pub place_new : (names : List (List ℕ)) (name : List ℕ) → place_of names name ≡ None → place_of (names ++ name ∷ []) name ≡ Some (length names)
unfolding place_of
place_new names name h = missing_goes_on (bytes_eq name) 0 names (name ∷ []) h ∙ rw (nat_list_eq_equiv.refl name) (let e : 0 + length names ≡ length names = omega arith in ap (λ i. Some i) e)

pub place_other : (names : List (List ℕ)) (name other : List ℕ) → bytes_eq other name ≡ false → place_of (names ++ name ∷ []) other ≡ place_of names other
unfolding place_of
place_other names name other n = by_case (position_from (bytes_eq other) 0 names) refl
  where
    by_case : (o : Option ℕ) → position_from (bytes_eq other) 0 names ≡ o → position_from (bytes_eq other) 0 (names ++ name ∷ []) ≡ position_from (bytes_eq other) 0 names
    by_case None h = missing_goes_on (bytes_eq other) 0 names (name ∷ []) h ∙ (rw n refl ∙ sym h)
    by_case (Some i) h = found_stays (bytes_eq other) 0 i names (name ∷ []) h ∙ sym h

-- ---- indexes

pub indexes_none : (index : NameIndex) → ((name : List ℕ) → under index.numbers name ≡ None) → Indexes index []
unfolding number_under place_of
indexes_none index e = e

-- a name that is new
pub noted : (m n : NameIndex) (name : List ℕ) (number : ℕ) (names : List (List ℕ)) → number_under m name ≡ None
    → Puts m.numbers name (Some number) n.numbers → Indexes m names → number ≡ length names → Indexes n (names ++ name ∷ [])
unfolding number_under
noted m n name number names new h indexed count other =
    ⊎_elim
    (λ y. let e : name ≡ other = (bytes_decides name other).0 y in
    h other ∙ ap (λ b. cond b (Some number) (number_under m other)) y
    ∙ subst (λ o. Some number ≡ place_of (names ++ name ∷ []) o) e (ap (λ i. Some i) count ∙ sym (place_new names name (sym (indexed name) ∙ new))))
    (λ no. h other ∙ ap (λ b. cond b (Some number) (number_under m other)) no ∙ (indexed other ∙ sym (place_other names name other (nat_list_eq_equiv.symm other name ∙ no))))
    (cases_Bool (bytes_eq name other))

-- the same of a call that succeeds
pub noted_ok : {A E : Type 0} (r : Result A E) (m n : NameIndex) (name : List ℕ) (number : ℕ) → number_under m name ≡ None
    → OnOk r (Puts m.numbers name (Some number) n.numbers) → OnOk r ((names : List (List ℕ)) → Indexes m names → number ≡ length names → Indexes n (names ++ name ∷ []))
noted_ok (Ok x) m n name number new h = λ names. noted m n name number names new h
noted_ok (Err e) m n name number new h = tt

-- a name that is there already
pub noted_before : (m : NameIndex) (name : List ℕ) (names : List (List ℕ)) (i : ℕ) → number_under m name ≡ Some i → Indexes m names → Indexes m (names ++ name ∷ [])
noted_before m name names i old indexed other =
    ⊎_elim
    (λ y. let e : name ≡ other = (bytes_decides name other).0 y in
    subst (λ o. number_under m o ≡ place_of (names ++ name ∷ []) o) e (old ∙ sym (place_old names (name ∷ []) name i (sym (indexed name) ∙ old))))
    (λ no. indexed other ∙ sym (place_other names name other (nat_list_eq_equiv.symm other name ∙ no)))
    (cases_Bool (bytes_eq name other))

pub none_from : (o : Option ℕ) → is_some o ≡ false → o ≡ None
none_from None h = refl
none_from (Some i) h = cc

pub some_from : (o : Option ℕ) → is_some o ≡ true → (i : ℕ) × (o ≡ Some i)
some_from None h = cc
some_from (Some i) h = (i, refl)

pub number_within : {A : Type 0} (f : A → List ℕ) (index : NameIndex) (xs : List A) (name : List ℕ) (o : Option ℕ) → Indexes index (map f xs) → o ≡ number_under index name → IfSome o (λ i. i < length xs)
number_within f index xs name o indexed e =
    subst (λ n. IfSome o (λ i. i < n)) (length-map xs f) (subst (λ p. IfSome p (λ i. i < length (map f xs))) (sym (e ∙ indexed name)) (place_within (map f xs) name))
