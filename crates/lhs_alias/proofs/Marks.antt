-- Marks at the places of bits.
use Rattle.std.proofs.Common.{◌≡◌, ◌≢◌, ℕ, suc, ◌<◌, Bool, true, false, not, ◌||◌, cond, eqb, List, [], ◌∷◌, length, get_or, set, refl, sym, ◌∙◌, ap, subst, inl, inr, arith}
use Rattle.std.specs.Prelude.{All, Any, Contains}
use Rattle.std.specs.List.{list_any}
use Rattle.std.proofs.lemmas.Bool.{cases_eq, cases_Bool, cond-true, cond-false, eqb-true, eq-eqb, ne_eqb, and_parts, and_from, or_cases, or_parts, not-true, not_from_false, both_ways}
use Rattle.std.proofs.lemmas.List.{length-set, get_or-set_same, get_or-set_other, ext_get_or}
use Rattle.std.proofs.lemmas.List.Elements.{All-head, All-tail, All-cons, All-nil, All-weaker, Contains-append_right, Contains-get_or}
use Rattle.std.proofs.lemmas.List.Kept.{AllPairs-cons}
use Rattle.lhs_alias.specs.declared.segs.WireBit.{WireBit}
use Rattle.lhs_alias.specs.Pairs.{AreDistinct}
use Rattle.lhs_alias.specs.Joined.{is_marked, marked, are_free, place_in, HasPlace}

abbrev Unmarked : List ℕ → List Bool → WireBit → Type 0
Unmarked starts joined b = is_marked starts joined b ≡ false

pub length-marked : (starts : List ℕ) (mark : Bool) (joined : List Bool) (bits : List WireBit) → length (marked starts mark joined bits) ≡ length joined
unfolding marked
length-marked starts mark joined [] = refl
length-marked starts mark joined (b ∷ bits) = length-marked starts mark (set joined (place_in starts b) mark) bits ∙ length-set joined (place_in starts b) mark

-- some bit has the place
stands_at : List ℕ → ℕ → WireBit → Bool
stands_at starts k b = eqb (place_in starts b) k

cond-both : (t m : Bool) → cond t m m ≡ m
cond-both true m = refl
cond-both false m = refl

get_or-marked : (starts : List ℕ) (mark : Bool) (joined : List Bool) (bits : List WireBit) (k : ℕ) → k < length joined → get_or (marked starts mark joined bits) k false ≡ cond (list_any (stands_at starts k) bits) mark (get_or joined k false)
unfolding marked stands_at
get_or-marked starts mark joined [] k h = refl
get_or-marked starts mark joined (b ∷ bits) k h =
    let place = place_in starts b in
    let later = list_any (stands_at starts k) bits in
    let after : get_or (marked starts mark (set joined place mark) bits) k false ≡ cond later mark (get_or (set joined place mark) k false) =
    get_or-marked starts mark (set joined place mark) bits k (omega (arith, length-set joined place mark)) in
    elim (cases_eq place k) [
      | inl here ↦
          let set_here : get_or (set joined place mark) k false ≡ mark = ap (λ j. get_or (set joined place mark) j false) (sym here) ∙ get_or-set_same joined place mark false (omega arith) in
          after ∙ ap (λ m. cond later mark m) set_here ∙ cond-both later mark
          ∙ sym (ap (λ t. cond (t || later) mark (get_or joined k false)) (eq-eqb place k here))
      | inr other ↦
          after ∙ ap (λ m. cond later mark m) (get_or-set_other joined place k mark false (λ e. other (sym e)))
          ∙ sym (ap (λ t. cond (t || later) mark (get_or joined k false)) (ne_eqb place k other))
    ]

-- ---- bits that are free, one after the other

pub none-marked : (starts : List ℕ) (joined : List Bool) (bits : List WireBit) → list_any (is_marked starts joined) bits ≡ false → All (λ b. is_marked starts joined b ≡ false) bits
none-marked starts joined [] none = All-nil (Unmarked starts joined)
none-marked starts joined (b ∷ bits) none =
    let parts = or_parts (is_marked starts joined b) (list_any (is_marked starts joined) bits) none in
    All-cons (Unmarked starts joined) b bits parts.0 (none-marked starts joined bits parts.1)

pub some-marked : (starts : List ℕ) (joined : List Bool) (bits : List WireBit) → list_any (is_marked starts joined) bits ≡ true → Any (λ b. is_marked starts joined b ≡ true) bits
some-marked starts joined [] some = cc
some-marked starts joined (b ∷ bits) some = elim (or_cases (is_marked starts joined b) (list_any (is_marked starts joined) bits) some) [
  | inl here ↦ (0, b, omega arith, refl, here)
  | inr later ↦
      let found = some-marked starts joined bits later in
      (suc found.0, found.1, omega (arith, found.2), found.3, found.4)
]

-- a mark at another place
is_marked-set_other : (starts : List ℕ) (joined : List Bool) (b c : WireBit) (mark : Bool) → place_in starts c ≢ place_in starts b → is_marked starts (set joined (place_in starts b) mark) c ≡ is_marked starts joined c
unfolding is_marked
is_marked-set_other starts joined b c mark apart = get_or-set_other joined (place_in starts b) (place_in starts c) mark false apart

is_marked-set_same : (starts : List ℕ) (joined : List Bool) (b c : WireBit) (mark : Bool) → HasPlace starts (length joined) b → place_in starts c ≡ place_in starts b → is_marked starts (set joined (place_in starts b) mark) c ≡ mark
unfolding is_marked
is_marked-set_same starts joined b c mark has same = ap (λ p. get_or (set joined (place_in starts b) mark) p false) same ∙ get_or-set_same joined (place_in starts b) mark false has.below

set-places : (starts : List ℕ) (joined : List Bool) (b : WireBit) (mark : Bool) (bits : List WireBit) → All (HasPlace starts (length joined)) bits → All (HasPlace starts (length (set joined (place_in starts b) mark))) bits
set-places starts joined b mark bits all =
    let P : ℕ → Type 0 = λ n. All (HasPlace starts n) bits in
    subst P (sym (length-set joined (place_in starts b) mark)) all

-- free bits are distinct and were not marked
pub free-unmarked : (starts : List ℕ) (joined : List Bool) (bits : List WireBit) → All (HasPlace starts (length joined)) bits → are_free starts joined bits ≡ true → All (λ b. is_marked starts joined b ≡ false) bits
unfolding are_free
free-unmarked starts joined [] places free = All-nil (Unmarked starts joined)
free-unmarked starts joined (b ∷ bits) places free =
    let parts = and_parts (not (is_marked starts joined b)) _ free in
    let later = free-unmarked starts (set joined (place_in starts b) true) bits (set-places starts joined b true bits (All-tail (HasPlace starts (length joined)) b bits places)) parts.1 in
    All-cons (Unmarked starts joined) b bits (not-true _ parts.0)
    (All-weaker (Unmarked starts (set joined (place_in starts b) true)) (Unmarked starts joined)
    (λ c unmarked. elim (cases_eq (place_in starts c) (place_in starts b)) [
      | inl same ↦ absurd (both_ways _ unmarked (is_marked-set_same starts joined b c true (All-head (HasPlace starts (length joined)) b bits places) same))
      | inr apart ↦ sym (is_marked-set_other starts joined b c true apart) ∙ unmarked
    ])
    bits later)

pub free-distinct : (starts : List ℕ) (joined : List Bool) (bits : List WireBit) → All (HasPlace starts (length joined)) bits → are_free starts joined bits ≡ true → AreDistinct bits
unfolding are_free
free-distinct starts joined [] places free = λ i j d lt h. absurd (omega arith)
free-distinct starts joined (b ∷ bits) places free =
    let parts = and_parts (not (is_marked starts joined b)) _ free in
    let joined' = set joined (place_in starts b) true in
    let places' = set-places starts joined b true bits (All-tail (HasPlace starts (length joined)) b bits places) in
    AllPairs-cons ◌≢◌ b bits
    (All-weaker (Unmarked starts joined') (λ c. b ≢ c)
    (λ c unmarked is. both_ways _ unmarked (is_marked-set_same starts joined b c true (All-head (HasPlace starts (length joined)) b bits places) (ap (λ x. place_in starts x) (sym is))))
    bits (free-unmarked starts joined' bits places' parts.1))
    (free-distinct starts joined' bits places' parts.1)

-- distinct bits that are not marked are free
pub distinct-free : (starts : List ℕ) (joined : List Bool) (bits : List WireBit) → ((b c : WireBit) → Contains bits b → Contains bits c → place_in starts b ≡ place_in starts c → b ≡ c) → All (λ b. is_marked starts joined b ≡ false) bits → AreDistinct bits → are_free starts joined bits ≡ true
unfolding are_free
distinct-free starts joined [] own unmarked distinct = refl
distinct-free starts joined (b ∷ bits) own unmarked distinct =
    let joined' = set joined (place_in starts b) true in
    let within : (c : WireBit) → Contains bits c → Contains (b ∷ bits) c = λ c h. Contains-append_right (b ∷ []) bits c h in
    let unmarked' : All (λ c. is_marked starts joined' c ≡ false) bits = λ k d h.
    let c = get_or bits k d in
    let apart : place_in starts c ≢ place_in starts b = λ same.
    distinct 0 (suc k) d (omega arith) (omega arith) (sym (own c b (within c (Contains-get_or bits k d h)) (Contains-get_or (b ∷ bits) 0 d (omega arith)) same)) in
    is_marked-set_other starts joined b c true apart ∙ unmarked (suc k) d (omega arith) in
    and_from (not (is_marked starts joined b)) _
    (not_from_false _ (All-head (Unmarked starts joined) b bits unmarked))
    (distinct-free starts joined' bits (λ x y hx hy same. own x y (within x hx) (within y hy) same) unmarked' (λ i j d lt h. distinct (suc i) (suc j) d (omega arith) (omega arith)))

stands-unmarked : (starts : List ℕ) (joined : List Bool) (bits : List WireBit) (k : ℕ) → list_any (stands_at starts k) bits ≡ true → All (λ b. is_marked starts joined b ≡ false) bits → get_or joined k false ≡ false
unfolding stands_at is_marked
stands-unmarked starts joined [] k some unmarked = cc
stands-unmarked starts joined (b ∷ bits) k some unmarked = elim (or_cases (eqb (place_in starts b) k) (list_any (stands_at starts k) bits) some) [
  | inl here ↦ ap (λ j. get_or joined j false) (sym (eqb-true (place_in starts b) k here)) ∙ All-head (λ c. get_or joined (place_in starts c) false ≡ false) b bits unmarked
  | inr later ↦ stands-unmarked starts joined bits k later (All-tail (λ c. get_or joined (place_in starts c) false ≡ false) b bits unmarked)
]

-- marks that are set and cleared again
pub marked-cleared : (starts : List ℕ) (joined : List Bool) (bits : List WireBit) → All (λ b. is_marked starts joined b ≡ false) bits → marked starts false (marked starts true joined bits) bits ≡ joined
marked-cleared starts joined bits unmarked =
    let marks = marked starts true joined bits in
    let long : length (marked starts false marks bits) ≡ length joined = length-marked starts false marks bits ∙ length-marked starts true joined bits in
    ext_get_or false (marked starts false marks bits) joined long
    (λ k h.
    let within : k < length joined = omega (arith, long) in
    let stands = list_any (stands_at starts k) bits in
    get_or-marked starts false marks bits k (omega (arith, length-marked starts true joined bits))
    ∙ ap (λ m. cond stands false m) (get_or-marked starts true joined bits k within)
    ∙ elim (cases_Bool stands) [
      | inl is ↦ cond-true stands false (cond stands true (get_or joined k false)) is ∙ sym (stands-unmarked starts joined bits k is unmarked)
      | inr none ↦ cond-false stands false (cond stands true (get_or joined k false)) none ∙ cond-false stands true (get_or joined k false) none
    ])
