-- Places of nets, found from the lowest place up.
use Rattle.std.proofs.Common.{◌≡◌, ℕ, zero, suc, ◌+◌, ◌<◌, ◌≤◌, Bool, true, false, cond, eqb, ◌||◌, List, [], ◌∷◌, ◌++◌, length, get_or, set, map, take, drop, sum, refl, sym, ap, ◌∙◌, inl, inr, arith, drop-cons}
use Rattle.std.proofs.lemmas.Bool.{cases_eq, eqb-true, eq-eqb}
use Rattle.std.proofs.lemmas.List.{get_or-set_same, get_or-set_other}
use Rattle.std.proofs.lemmas.List.Elements.{All-head, All-tail}
use Rattle.std.proofs.lemmas.List.Folds.{list_any_more}
use Rattle.std.specs.Prelude.{All, Option, None, Some, filter}
use Rattle.std.specs.List.{list_any, range_with_len}
use Rattle.std.proofs.lemmas.List.{map-append}
use Rattle.std.proofs.lemmas.List.Elements.{filter-append}
use Rattle.std.proofs.lemmas.List.Sums.{sum_by-take-drop, sum_by-cons}
use Rattle.std.proofs.lemmas.Simd.{map-map}
use Rattle.lhs_alias.specs.declared.segs.WireBit.{WireBit}
use Rattle.lhs_alias.specs.Segs.{bit, seg_bits}
use Rattle.lhs_alias.specs.Joined.{place_of, all_bits}
use Rattle.lhs_alias.proofs.SegBits.{range-push}
use Rattle.lhs_alias.proofs.Row.{length-all_bits, all_bits-take_more}
use Rattle.event_nets.specs.declared.gift.Gift.{Gift}
use Rattle.event_nets.specs.Nets.{lowest}
use Rattle.event_nets.specs.Runs.{low_next, low_in}

-- ---- one wire

-- the low of the place below a bit
abbrev pub low_below : (ℕ → Bool) → ℕ → ℕ → Option ℕ
low_below net start zero = None
low_below net start (suc k) = low_in net start k

pub low-step : (net : ℕ → Bool) (start k : ℕ) → low_next (net (start + k)) (start + k) (low_below net start k) ≡ low_in net start k
unfolding lowest
low-step net start zero = pick (net (start + 0))
  where
    pick : (t : Bool) → low_next t (start + 0) None ≡ cond t (Some (start + 0)) None
    pick true = refl
    pick false = refl
low-step net start (suc k) = pick (net (start + suc k)) (net (start + k))
  where
    pick : (t u : Bool) → low_next t (start + suc k) (cond u (Some (start + lowest (λ j. net (start + j)) k)) None)
        ≡ cond t (Some (start + cond u (lowest (λ j. net (start + j)) k) (suc k))) None
    pick true true = refl
    pick true false = refl
    pick false true = refl
    pick false false = refl

-- ---- marks

or-true : (t : Bool) → (t || true) ≡ true
or-true true = refl
or-true false = refl

or-false : (t : Bool) → (t || false) ≡ t
or-false true = refl
or-false false = refl

-- one more place is marked
pub marked-more : (gifts : List Gift) (i : ℕ) (g : Gift) (old : List Bool) → i < length gifts → get_or gifts i g ≡ g → g.to < length old
    → ((place : ℕ) → get_or old place false ≡ list_any (λ x. eqb x.to place) (take i gifts))
    → (place : ℕ) → get_or (set old g.to true) place false ≡ list_any (λ x. eqb x.to place) (take (i + 1) gifts)
marked-more gifts i g old within is below h place = elim (cases_eq place g.to) [
  | inl same ↦
      ap (λ p. get_or (set old g.to true) p false) same
      ∙ get_or-set_same old g.to true false below
      ∙ sym (or-true (list_any (λ x. eqb x.to place) (take i gifts)))
      ∙ ap (λ t. list_any (λ x. eqb x.to place) (take i gifts) || t) (sym (eq-eqb g.to place (sym same)) ∙ ap (λ (x : Gift). eqb x.to place) (sym is))
      ∙ sym (list_any_more (λ x. eqb x.to place) gifts i g within)
  | inr other ↦
      get_or-set_other old g.to place true false other
      ∙ h place
      ∙ sym (or-false (list_any (λ x. eqb x.to place) (take i gifts)))
      ∙ ap (λ t. list_any (λ x. eqb x.to place) (take i gifts) || t) (sym (unequal (eqb g.to place) refl (λ s. other (sym s))) ∙ ap (λ (x : Gift). eqb x.to place) (sym is))
      ∙ sym (list_any_more (λ x. eqb x.to place) gifts i g within)
]
  where
    unequal : (t : Bool) → eqb g.to place ≡ t → (g.to ≡ place → ⊥) → t ≡ false
    unequal true e apart = absurd (apart (eqb-true g.to place e))
    unequal false e apart = refl

-- ---- all wires

pub map-same : {X Y : Type 0} (P : X → Type 0) (f g : X → Y) → ((x : X) → P x → f x ≡ g x) → (xs : List X) → All P xs → map f xs ≡ map g xs
map-same P f g h [] all = refl
map-same P f g h (x ∷ xs) all = ap (λ y. y ∷ map f xs) (h x (All-head P x xs all)) ∙ ap (λ l. g x ∷ l) (map-same P f g h xs (All-tail P x xs all))

pub filter-same : {X : Type 0} (P : X → Type 0) (p q : X → Bool) → ((x : X) → P x → p x ≡ q x) → (xs : List X) → All P xs → filter p xs ≡ filter q xs
filter-same P p q h [] all = refl
filter-same P p q h (x ∷ xs) all =
    ap (λ t. cond t (x ∷ filter p xs) (filter p xs)) (h x (All-head P x xs all))
    ∙ ap (λ l. cond (q x) (x ∷ l) l) (filter-same P p q h xs (All-tail P x xs all))

pub filter-map : {X Y : Type 0} (f : X → Y) (p : Y → Bool) (xs : List X) → filter p (map f xs) ≡ map f (filter (λ x. p (f x)) xs)
filter-map f p [] = refl
filter-map f p (x ∷ xs) = pick (p (f x)) (filter-map f p xs)
  where
    pick : (t : Bool) → filter p (map f xs) ≡ map f (filter (λ y. p (f y)) xs) → cond t (f x ∷ filter p (map f xs)) (filter p (map f xs)) ≡ map f (cond t (x ∷ filter (λ y. p (f y)) xs) (filter (λ y. p (f y)) xs))
    pick true e = ap (λ l. f x ∷ l) e
    pick false e = e

pub lowest-same : (p q : ℕ → Bool) (k : ℕ) → ((j : ℕ) → j < k → p j ≡ q j) → lowest p k ≡ lowest q k
unfolding lowest
lowest-same p q zero h = refl
lowest-same p q (suc k) h =
    ap (λ t. cond t (lowest p k) (suc k)) (h k (omega arith)) ∙ ap (λ n. cond (q k) n (suc k)) (lowest-same p q k (λ j lt. h j (omega (arith, lt))))

pub lowest-le : (p : ℕ → Bool) (k : ℕ) → lowest p k ≤ k
unfolding lowest
lowest-le p zero = omega arith
lowest-le p (suc k) = pick (p k) (lowest-le p k)
  where
    pick : (t : Bool) → lowest p k ≤ k → cond t (lowest p k) (suc k) ≤ suc k
    pick true h = omega (arith, h)
    pick false h = omega arith

pub filter-range_more : (p : ℕ → Bool) (n : ℕ) → filter p (range_with_len 0 (n + 1)) ≡ filter p (range_with_len 0 n) ++ cond (p n) (n ∷ []) []
filter-range_more p n = ap (λ l. filter p l) (range-push n) ∙ filter-append p (range_with_len 0 n) (n ∷ [])

-- ---- the wires in one row

pub sum-part : (widths : List ℕ) (n : ℕ) → n < length widths → sum (take n widths) + get_or widths n 0 ≤ sum widths
sum-part widths n h =
    let e : sum (drop n widths) ≡ sum (get_or widths n 0 ∷ drop (suc n) widths) = ap (λ l. sum l) (drop-cons widths n 0 h) in
    omega (arith, sum_by-take-drop (λ y. y) widths n, e, sum_by-cons (λ y. y) (get_or widths n 0) (drop (suc n) widths))

-- the lows of one wire more
pub lows-more : (net : ℕ → Bool) (widths : List ℕ) (i : ℕ) → i < length widths
    → map (λ b. low_in net (place_of widths (bit b.wire 0)) b.at) (all_bits (take i widths)) ++ map (low_in net (length (all_bits (take i widths)))) (range_with_len 0 (get_or widths i 0))
    ≡ map (λ b. low_in net (place_of widths (bit b.wire 0)) b.at) (all_bits (take (i + 1) widths))
unfolding seg_bits place_of
lows-more net widths i h =
    let low : WireBit → Option ℕ = λ b. low_in net (sum (take b.wire widths) + 0) b.at in
    let w = get_or widths i 0 in
    let front = all_bits (take i widths) in
    let same : length front ≡ sum (take i widths) + 0 = omega (arith, length-all_bits (take i widths)) in
    ap (λ s. map low front ++ map (low_in net s) (range_with_len 0 w)) same
    ∙ ap (λ l. map low front ++ l) (sym (map-map low (bit i) (range_with_len 0 w)))
    ∙ sym (map-append low front (map (bit i) (range_with_len 0 w)))
    ∙ ap (λ l. map low l) (sym (all_bits-take_more widths i 0 h))
