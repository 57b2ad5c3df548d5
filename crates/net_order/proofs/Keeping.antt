-- The equations among groups of places.
use Rattle.std.proofs.Common.{◌≡◌, ◌≢◌, ◌⊎◌, ℕ, zero, suc, ◌+◌, ◌-◌, ◌<◌, ◌≤◌, Bool, true, false, cond, ltb, List, [], ◌∷◌, ◌++◌, length, get_or, refl, sym, ap, ◌∙◌, subst, inl, inr, arith}
use Rattle.std.specs.Prelude.{Contains, AllPairs, slice_index}
use Rattle.std.proofs.lemmas.Bool.{ltb-true, ltb-false, lt-ltb, le-ltb}
use Rattle.std.proofs.lemmas.List.{append-nil, get_or_default}
use Rattle.net_order.specs.Kept.{eqs_in, with_group, eq_groups}
use Rattle.net_order.proofs.Leading.{nothing-in, in-cons, cons-head, cons-tail}

-- ---- as they are made

pub eqs_push_node : (n x : ℕ) (old : List ℕ) → x < n → old ≡ old ++ eqs_in n (x ∷ [])
eqs_push_node n x old lt = sym (ap (λ b. old ++ cond b [] ((x - n) ∷ [])) (lt-ltb x n lt) ∙ append-nil old)

pub eqs_push_eq : (n x : ℕ) (old new : List ℕ) → n ≤ x → new ≡ old ++ (x - n) ∷ [] → new ≡ old ++ eqs_in n (x ∷ [])
eqs_push_eq n x old new le e = e ∙ sym (ap (λ b. old ++ cond b [] ((x - n) ∷ [])) (le-ltb x n le))

eqs-append : (n : ℕ) (xs : List ℕ) (x : ℕ) → eqs_in n (xs ++ x ∷ []) ≡ eqs_in n xs ++ eqs_in n (x ∷ [])
eqs-append n [] x = refl
eqs-append n (y ∷ more) x = go (eqs-append n more x) (ltb y n)
  where
    go : eqs_in n (more ++ x ∷ []) ≡ eqs_in n more ++ eqs_in n (x ∷ [])
        → (b : Bool) → cond b (eqs_in n (more ++ x ∷ [])) ((y - n) ∷ eqs_in n (more ++ x ∷ [])) ≡ cond b (eqs_in n more) ((y - n) ∷ eqs_in n more) ++ eqs_in n (x ∷ [])
    go rest true = rest
    go rest false = ap (λ l. (y - n) ∷ l) rest

pub eqs_more : (n : ℕ) (xs more old new : List ℕ) (x : ℕ) → more ≡ xs ++ x ∷ [] → old ≡ eqs_in n xs → new ≡ old ++ eqs_in n (x ∷ []) → new ≡ eqs_in n more
eqs_more n xs more old new x e h f = f ∙ ap (λ l. l ++ eqs_in n (x ∷ [])) h ∙ sym (eqs-append n xs x) ∙ ap (eqs_in n) (sym e)

groups-append : (n : ℕ) (gs : List (List ℕ)) (g : List ℕ) → eq_groups n (gs ++ g ∷ []) ≡ eq_groups n gs ++ with_group (eqs_in n g) []
groups-append n [] g = refl
groups-append n (h ∷ more) g = go (groups-append n more g) (eqs_in n h)
  where
    go : eq_groups n (more ++ g ∷ []) ≡ eq_groups n more ++ with_group (eqs_in n g) [] → (e : List ℕ) → with_group e (eq_groups n (more ++ g ∷ [])) ≡ with_group e (eq_groups n more) ++ with_group (eqs_in n g) []
    go rest [] = rest
    go rest (x ∷ xs) = ap (λ l. (x ∷ xs) ∷ l) rest

pub groups_more : (n : ℕ) (gs more old new : List (List ℕ)) (g : List ℕ) → more ≡ gs ++ g ∷ [] → old ≡ eq_groups n gs → new ≡ old ++ with_group (eqs_in n g) [] → new ≡ eq_groups n more
groups_more n gs more old new g e h f = f ∙ ap (λ l. l ++ with_group (eqs_in n g) []) h ∙ sym (groups-append n gs g) ∙ ap (eq_groups n) (sym e)

-- ---- members

pub in-eqs : (n : ℕ) (xs : List ℕ) (i : ℕ) → Contains (eqs_in n xs) i → Contains xs (n + i)
in-eqs n [] i c = nothing-in i c
in-eqs n (x ∷ more) i c = go (in-eqs n more i) (ltb x n) refl c
  where
    go : (Contains (eqs_in n more) i → Contains more (n + i)) → (b : Bool) → ltb x n ≡ b → Contains (cond b (eqs_in n more) ((x - n) ∷ eqs_in n more)) i → Contains (x ∷ more) (n + i)
    go rest true e d = cons-tail x more (n + i) (rest d)
    go rest false e d = elim (in-cons (x - n) (eqs_in n more) i d) [
      | inl is ↦ cons-head x more (n + i) (omega (arith, is, ltb-false x n e))
      | inr later ↦ cons-tail x more (n + i) (rest later)
    ]

pub eqs-in : (n : ℕ) (xs : List ℕ) (i : ℕ) → Contains xs (n + i) → Contains (eqs_in n xs) i
eqs-in n [] i c = nothing-in (n + i) c
eqs-in n (x ∷ more) i c = go (eqs-in n more i) (ltb x n) refl (in-cons x more (n + i) c)
  where
    go : (Contains more (n + i) → Contains (eqs_in n more) i) → (b : Bool) → ltb x n ≡ b → ((n + i) ≡ x) ⊎ Contains more (n + i) → Contains (cond b (eqs_in n more) ((x - n) ∷ eqs_in n more)) i
    go rest true e (inl is) = absurd (omega (arith, is, ltb-true x n e))
    go rest true e (inr later) = rest later
    go rest false e (inl is) = cons-head (x - n) (eqs_in n more) i (omega (arith, is))
    go rest false e (inr later) = cons-tail (x - n) (eqs_in n more) i (rest later)

-- ---- no member stands twice

pub Apart : List ℕ → Type 0
Apart [] = Unit {0}
Apart (x ∷ xs) = (Contains xs x → ⊥) × Apart xs

pub apart-of : (xs : List ℕ) → ((k l : ℕ) → k < length xs → l < length xs → slice_index xs k ≡ slice_index xs l → k ≡ l) → Apart xs
unfolding Apart
apart-of [] h = tt
apart-of (x ∷ xs) h = (
  (λ c. let same : 0 ≡ suc c.0 = h 0 (suc c.0) (omega arith) (omega (arith, c.1)) (sym (get_or_default xs c.0 0 x c.1 ∙ c.2)) in absurd (omega (arith, same))),
  apart-of xs (λ k l kl ll e. let s : suc k ≡ suc l = h (suc k) (suc l) (omega (arith, kl)) (omega (arith, ll)) e in omega (arith, s)),
)

pub apart-eqs : (n : ℕ) (xs : List ℕ) → Apart xs → Apart (eqs_in n xs)
unfolding Apart
apart-eqs n [] h = tt
apart-eqs n (x ∷ more) h = go (apart-eqs n more h.1) (ltb x n) refl
  where
    go : Apart (eqs_in n more) → (b : Bool) → ltb x n ≡ b → Apart (cond b (eqs_in n more) ((x - n) ∷ eqs_in n more))
    go rest true e = rest
    go rest false e = ((λ c. let is : n + (x - n) ≡ x = omega (arith, ltb-false x n e) in h.0 (subst (Contains more) is (in-eqs n more (x - n) c))), rest)

pub pairs-of : (xs : List ℕ) → Apart xs → AllPairs ◌≢◌ xs
unfolding Apart
pairs-of [] h i j d less lt e = absurd (omega (arith, lt))
pairs-of (x ∷ xs) h zero zero d less lt e = absurd (omega (arith, less))
pairs-of (x ∷ xs) h zero (suc j) d less lt e = h.0 (j, omega (arith, lt), get_or_default xs j x d (omega (arith, lt)) ∙ sym e)
pairs-of (x ∷ xs) h (suc i) zero d less lt e = absurd (omega (arith, less))
pairs-of (x ∷ xs) h (suc i) (suc j) d less lt e = pairs-of xs h.1 i j d (omega (arith, less)) (omega (arith, lt)) e

-- ---- which group each comes from

origin_by : List ℕ → (ℕ → ℕ) → ℕ → ℕ
origin_by [] f k = suc (f k)
origin_by (x ∷ xs) f zero = 0
origin_by (x ∷ xs) f (suc k) = suc (f k)

pub origin : ℕ → List (List ℕ) → ℕ → ℕ
origin n [] k = 0
origin n (g ∷ more) k = origin_by (eqs_in n g) (origin n more) k

pub origin-is : (n : ℕ) (gs : List (List ℕ)) (k : ℕ) → k < length (eq_groups n gs) → (origin n gs k < length gs) × (get_or (eq_groups n gs) k [] ≡ eqs_in n (get_or gs (origin n gs k) []))
unfolding origin origin_by
origin-is n [] k lt = absurd (omega (arith, lt))
origin-is n (g ∷ more) k lt = go (λ j l. origin-is n more j l) (eqs_in n g) refl k lt
  where
    go : ((j : ℕ) → j < length (eq_groups n more) → (origin n more j < length more) × (get_or (eq_groups n more) j [] ≡ eqs_in n (get_or more (origin n more j) [])))
        → (e : List ℕ) → eqs_in n g ≡ e → (j : ℕ) → j < length (with_group e (eq_groups n more))
        → (origin_by e (origin n more) j < length (g ∷ more)) × (get_or (with_group e (eq_groups n more)) j [] ≡ eqs_in n (get_or (g ∷ more) (origin_by e (origin n more) j) []))
    go rest [] is j l = let r = rest j l in (omega (arith, r.0), r.1)
    go rest (x ∷ xs) is zero l = (omega arith, sym is)
    go rest (x ∷ xs) is (suc j) l = let r = rest j (omega (arith, l)) in (omega (arith, r.0), r.1)

pub origin-rises : (n : ℕ) (gs : List (List ℕ)) (k l : ℕ) → k < l → l < length (eq_groups n gs) → origin n gs k < origin n gs l
unfolding origin origin_by
origin-rises n [] k l less lt = absurd (omega (arith, lt))
origin-rises n (g ∷ more) k l less lt = go (λ i j up last. origin-rises n more i j up last) (eqs_in n g) k l less lt
  where
    go : ((i j : ℕ) → i < j → j < length (eq_groups n more) → origin n more i < origin n more j) → (e : List ℕ) (i j : ℕ) → i < j → j < length (with_group e (eq_groups n more)) → origin_by e (origin n more) i < origin_by e (origin n more) j
    go rest [] i j up last = let r = rest i j up last in omega (arith, r)
    go rest (x ∷ xs) zero zero up last = absurd (omega (arith, up))
    go rest (x ∷ xs) zero (suc j) up last = omega arith
    go rest (x ∷ xs) (suc i) zero up last = absurd (omega (arith, up))
    go rest (x ∷ xs) (suc i) (suc j) up last = let r = rest i j (omega (arith, up)) (omega (arith, last)) in omega (arith, r)

pub origin-there : (n : ℕ) (gs : List (List ℕ)) (o i : ℕ) → o < length gs → Contains (eqs_in n (get_or gs o [])) i → (k : ℕ) × ((k < length (eq_groups n gs)) × Contains (get_or (eq_groups n gs) k []) i)
origin-there n [] o i lt c = absurd (omega (arith, lt))
origin-there n (g ∷ more) zero i lt c = go (eqs_in n g) c
  where
    go : (e : List ℕ) → Contains e i → (k : ℕ) × ((k < length (with_group e (eq_groups n more))) × Contains (get_or (with_group e (eq_groups n more)) k []) i)
    go [] d = nothing-in i d
    go (x ∷ xs) d = (0, (omega arith, d))
origin-there n (g ∷ more) (suc o) i lt c = go (eqs_in n g) (origin-there n more o i (omega (arith, lt)) c)
  where
    go : (e : List ℕ) → (k : ℕ) × ((k < length (eq_groups n more)) × Contains (get_or (eq_groups n more) k []) i)
        → (k : ℕ) × ((k < length (with_group e (eq_groups n more))) × Contains (get_or (with_group e (eq_groups n more)) k []) i)
    go [] r = r
    go (x ∷ xs) r = (suc r.0, (omega (arith, r.1.0), r.1.1))

-- a group that was kept has a member
pub groups-some : (n : ℕ) (gs : List (List ℕ)) (k : ℕ) (d : List ℕ) → k < length (eq_groups n gs) → 0 < length (get_or (eq_groups n gs) k d)
groups-some n [] k d lt = absurd (omega (arith, lt))
groups-some n (g ∷ more) k d lt = go (λ j l. groups-some n more j d l) (eqs_in n g) k lt
  where
    go : ((j : ℕ) → j < length (eq_groups n more) → 0 < length (get_or (eq_groups n more) j d)) → (e : List ℕ) (j : ℕ) → j < length (with_group e (eq_groups n more)) → 0 < length (get_or (with_group e (eq_groups n more)) j d)
    go rest [] j l = rest j l
    go rest (x ∷ xs) zero l = omega arith
    go rest (x ∷ xs) (suc j) l = rest j (omega (arith, l))
