-- Loops that index names, and what the number under a name finds.
use Rattle.std.proofs.Common.{◌≡◌, ◌<◌, ◌≤◌, ◌+◌, ℕ, suc, List, [], ◌∷◌, ◌++◌, length, map, take, get_or, Option, Some, None, Bool, true, false, cond, refl, sym, ◌∙◌, ap, subst, arith}
use Rattle.std.specs.List.{position_from, find, slice_get}
use Rattle.std.specs.Str.{bytes_eq}
use Rattle.std.proofs.lemmas.List.{length-map, take_all}
use Rattle.std.proofs.Math.ListN.{length-take}
use Rattle.name_index.specs.Indexing.{place_of, number_under, Indexes}
use Rattle.name_index.specs.declared.index.NameIndex.{NameIndex}
use Rattle.sv_modules.proofs.Turns.{map_next}

goes_on_if : (b : Bool) (n : ℕ) (o : Option ℕ) → cond b (Some n) o ≡ None → (b ≡ false) × (o ≡ None)
goes_on_if true n o h = cc
goes_on_if false n o h = (refl, h)

-- an index of what stands before the end of a loop over a list
pub noted_next : {A : Type 0} (f : A → List ℕ) (m n : NameIndex) (all : List A) (i : ℕ) (x : A) (name : List ℕ) → i < length all → x ≡ get_or all i x → name ≡ f x → Indexes m (map f (take i all)) →
    ((names : List (List ℕ)) → Indexes m names → i ≡ length names → Indexes n (names ++ name ∷ [])) → Indexes n (map f (take (i + 1) all))
noted_next f m n all i x name h e k indexed noted =
    let front = map f (take i all) in
    let count : i ≡ length front = sym (length-map (take i all) f ∙ (let l = length-take i all in omega arith)) in
    subst (λ (ns : List (List ℕ)). Indexes n ns) (sym (map_next f all i x h e))
    (subst (λ (y : List ℕ). Indexes n (front ++ y ∷ [])) k (noted front indexed count))

pub noted_all : {A : Type 0} (f : A → List ℕ) (m : NameIndex) (all : List A) (i : ℕ) → length all ≤ i → Indexes m (map f (take i all)) → Indexes m (map f all)
noted_all {A = A} f m all i h indexed = subst (λ (xs : List A). Indexes m (map f xs)) (take_all i all h) indexed

-- the first of a name stands where the index tells
first_if : {A : Type 0} (b : Bool) (x : A) (xs : List A) (k i : ℕ) (p : Option ℕ) (o : Option A) → (p ≡ Some i → (j : ℕ) × (i ≡ k + 1 + j) × (slice_get xs j ≡ o)) →
    cond b (Some k) p ≡ Some i → (j : ℕ) × (i ≡ k + j) × (slice_get (x ∷ xs) j ≡ cond b (Some x) o)
first_if true x xs k i p o f h = let e : k ≡ i = cc in (0, omega arith, refl)
first_if false x xs k i p o f h = let r = f h in let e : i ≡ k + 1 + r.0 = r.1 in (suc r.0, omega arith, r.2)

first_from : {A : Type 0} (f : A → List ℕ) (name : List ℕ) (k i : ℕ) (xs : List A) → position_from (bytes_eq name) k (map f xs) ≡ Some i →
    (j : ℕ) × (i ≡ k + j) × (slice_get xs j ≡ find (λ x. bytes_eq name (f x)) xs)
first_from f name k i [] h = cc
first_from f name k i (x ∷ xs) h = first_if (bytes_eq name (f x)) x xs k i (position_from (bytes_eq name) (k + 1) (map f xs)) (find (λ y. bytes_eq name (f y)) xs) (first_from f name (k + 1) i xs) h

missing_from : {A : Type 0} (f : A → List ℕ) (name : List ℕ) (k : ℕ) (xs : List A) → position_from (bytes_eq name) k (map f xs) ≡ None → find (λ x. bytes_eq name (f x)) xs ≡ None
missing_from f name k [] h = refl
missing_from f name k (x ∷ xs) h =
    let parts = goes_on_if (bytes_eq name (f x)) k (position_from (bytes_eq name) (k + 1) (map f xs)) h in
    rw parts.0 (missing_from f name (k + 1) xs parts.1)

pub first_at : {A : Type 0} (f : A → List ℕ) (index : NameIndex) (xs : List A) (name : List ℕ) (i : ℕ) → Indexes index (map f xs) → Some i ≡ number_under index name → slice_get xs i ≡ find (λ x. bytes_eq name (f x)) xs
unfolding place_of
first_at f index xs name i indexed e =
    let r = first_from f name 0 i xs (sym (e ∙ indexed name)) in
    let same : i ≡ r.0 = omega (arith, r.1) in
    ap (slice_get xs) same ∙ r.2

pub first_missing : {A : Type 0} (f : A → List ℕ) (index : NameIndex) (xs : List A) (name : List ℕ) → Indexes index (map f xs) → None ≡ number_under index name → find (λ x. bytes_eq name (f x)) xs ≡ None
unfolding place_of
first_missing f index xs name indexed e = missing_from f name 0 xs (sym (e ∙ indexed name))
