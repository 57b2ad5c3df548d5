-- After some rounds nothing changes, and that is the least settling.
use Rattle.std.proofs.Common.{◌≡◌, ℕ, zero, suc, ◌+◌, ◌≤◌, Bool, true, false, List, [], ◌∷◌, map, refl, sym, ap, ◌∙◌, subst, arith, cond, inl, inr, ◌⊎◌}
use Rattle.std.specs.Prelude.{filter}
use Rattle.std.proofs.lemmas.Bool.{cases_lt}
use Rattle.fourvec.specs.declared.Bit.{Bit}
use Rattle.fourvec.specs.declared.Bit.TheVariants.{Zero, One, Unknown, Floating}
use Rattle.fourvec.specs.Bits.{bit_below, all_pairs}
use Rattle.fourvec.specs.Laws.{Below}
use Rattle.lhs_alias.specs.declared.segs.WireBit.{WireBit}
use Rattle.settling.specs.Settling.{Store, value_at, Link, Contribution, first_bit, same_bit, is_one_class, given_to, Resolves, SettlesBy}
use Rattle.settling.specs.Least.{Under, More, Giving, Rises, IsLeast, LeastExists, LeastRises}
use Rattle.settling.proofs.Classes.{first-joined, same-name}
use Rattle.settling.specs.Events.{resolved, step}
use Rattle.settling.proofs.Rounds.{given-more, rounds, rounds-up, rounds-below, below-refl, under-trans, no_value, no_value-under}

-- ---- bits that are X, of those to which something is given

abbrev weight : Bit → ℕ
weight Unknown = 1
weight x = 0

unfoldable weights : Store → List Contribution → ℕ
weights s [] = 0
weights s (c ∷ all) = weight (value_at s c.0) + weights s all

weight-falls : (x y : Bit) → bit_below x y ≡ true → weight y ≤ weight x
weight-falls Unknown Unknown h = omega arith
weight-falls Unknown Zero h = omega arith
weight-falls Unknown One h = omega arith
weight-falls Unknown Floating h = omega arith
weight-falls Zero Zero h = omega arith
weight-falls Zero One h = cc
weight-falls Zero Unknown h = cc
weight-falls Zero Floating h = cc
weight-falls One One h = omega arith
weight-falls One Zero h = cc
weight-falls One Unknown h = cc
weight-falls One Floating h = cc
weight-falls Floating Floating h = omega arith
weight-falls Floating Zero h = cc
weight-falls Floating One h = cc
weight-falls Floating Unknown h = cc

weight-same : (x y : Bit) → bit_below x y ≡ true → weight x ≡ weight y → x ≡ y
weight-same Unknown Unknown h e = refl
weight-same Unknown Zero h e = absurd (omega (arith, e))
weight-same Unknown One h e = absurd (omega (arith, e))
weight-same Unknown Floating h e = absurd (omega (arith, e))
weight-same Zero Zero h e = refl
weight-same Zero One h e = cc
weight-same Zero Unknown h e = cc
weight-same Zero Floating h e = cc
weight-same One One h e = refl
weight-same One Zero h e = cc
weight-same One Unknown h e = cc
weight-same One Floating h e = cc
weight-same Floating Floating h e = refl
weight-same Floating Zero h e = cc
weight-same Floating One h e = cc
weight-same Floating Unknown h e = cc

weights-fall : (s t : Store) → Under s t → (all : List Contribution) → weights t all ≤ weights s all
unfolding weights
weights-fall s t h [] = omega arith
weights-fall s t h (c ∷ all) =
    let p = weight-falls (value_at s c.0) (value_at t c.0) (h c.0.wire c.0.at) in let q = weights-fall s t h all in omega (arith, p, q)

-- the same values at all these bits
abbrev SameAt : Store → Store → List Contribution → Type 0
SameAt s t [] = Unit {0}
SameAt s t (c ∷ all) = (value_at s c.0 ≡ value_at t c.0) × SameAt s t all

same-weights : (s t : Store) → Under s t → (all : List Contribution) → weights s all ≡ weights t all → SameAt s t all
unfolding weights
same-weights s t h [] e = tt
same-weights s t h (c ∷ all) e =
    let p = weight-falls (value_at s c.0) (value_at t c.0) (h c.0.wire c.0.at) in let q = weights-fall s t h all in
    (weight-same (value_at s c.0) (value_at t c.0) (h c.0.wire c.0.at) (omega (arith, e, p, q)), same-weights s t h all (omega (arith, e, p, q)))

-- ---- a round that changes nothing at these bits changes nothing

pub even-step : (links : List Link) (gives : Giving) (s : Store) (b c : WireBit) → first_bit links b ≡ first_bit links c → value_at (step links gives s) b ≡ value_at (step links gives s) c
even-step links gives s b c e = ap (λ x. resolved (map (λ d. d.1) (filter (λ d. same_bit (first_bit links d.0) x) (gives s)))) e

-- nothing is given to the class, or something to one of these bits of it
found : (links : List Link) (s t : Store) (b : WireBit) (all : List Contribution) → SameAt s t all
    → (given_to links b all ≡ []) ⊎ ((c : WireBit) × (first_bit links c ≡ first_bit links b) × (value_at s c ≡ value_at t c))
found links s t b [] h = inl refl
found links s t b (c ∷ all) h = pick (is_one_class links c.0 b) refl (found links s t b all h.1)
  where
    pick : (k : Bool) → is_one_class links c.0 b ≡ k
        → (given_to links b all ≡ []) ⊎ ((d : WireBit) × (first_bit links d ≡ first_bit links b) × (value_at s d ≡ value_at t d))
        → (map (λ d. d.1) (cond k (c ∷ filter (λ d. is_one_class links d.0 b) all) (filter (λ d. is_one_class links d.0 b) all)) ≡ []) ⊎ ((d : WireBit) × (first_bit links d ≡ first_bit links b) × (value_at s d ≡ value_at t d))
    pick true e r = inr (c.0, same-name _ _ e, h.0)
    pick false e r = r

none-given : (a c : List Bit) → Below a c → c ≡ [] → a ≡ []
unfolding all_pairs
none-given [] c h e = refl
none-given (x ∷ a) c h e = let k : Below (x ∷ a) [] = subst (λ l. Below (x ∷ a) l) e h in cc

none-given-too : (a c : List Bit) → Below a c → a ≡ [] → c ≡ []
unfolding all_pairs
none-given-too a [] h e = refl
none-given-too a (x ∷ c) h e = let k : Below [] (x ∷ c) = subst (λ l. Below l (x ∷ c)) e h in cc

-- the rounds so far, after the first
abbrev at_round : List Link → Giving → ℕ → Store
at_round links gives i = rounds links gives (suc i)

none-at : (links : List Link) (gives : Giving) → Rises gives → (b : WireBit) (s : Store) → given_to links b (gives no_value) ≡ [] → value_at (step links gives s) b ≡ Unknown
none-at links gives r b s e = ap resolved (none-given-too _ _ (given-more links b _ _ (r no_value s (no_value-under s))) e)

stable : (links : List Link) (gives : Giving) → Rises gives → (i : ℕ) → SameAt (at_round links gives i) (at_round links gives (suc i)) (gives no_value)
    → (b : WireBit) → value_at (at_round links gives i) b ≡ value_at (at_round links gives (suc i)) b
unfolding rounds
stable links gives r i h b = elim (found links (at_round links gives i) (at_round links gives (suc i)) b (gives no_value) h) [
  | inl e ↦ none-at links gives r b (rounds links gives i) e ∙ sym (none-at links gives r b (at_round links gives i) e)
  | inr c ↦ sym (even-step links gives (rounds links gives i) c.0 b c.1) ∙ c.2 ∙ even-step links gives (at_round links gives i) c.0 b c.1
]

-- ---- some round changes nothing

find : (links : List Link) (gives : Giving) → Rises gives → (fuel i : ℕ) → weights (at_round links gives i) (gives no_value) ≤ fuel
    → (j : ℕ) × SameAt (at_round links gives j) (at_round links gives (suc j)) (gives no_value)
find links gives r zero i h =
    let up = rounds-up links gives r (suc i) in
    let p = weights-fall (at_round links gives i) (at_round links gives (suc i)) up (gives no_value) in
    (i, same-weights (at_round links gives i) (at_round links gives (suc i)) up (gives no_value) (omega (arith, h, p)))
find links gives r (suc fuel) i h =
    let up = rounds-up links gives r (suc i) in
    let p = weights-fall (at_round links gives i) (at_round links gives (suc i)) up (gives no_value) in
    elim (cases_lt (weights (at_round links gives (suc i)) (gives no_value)) (weights (at_round links gives i) (gives no_value))) [
      | inl q ↦ find links gives r fuel (suc i) (omega (arith, h, q))
      | inr q ↦ (i, same-weights (at_round links gives i) (at_round links gives (suc i)) up (gives no_value) (omega (arith, p, q)))
    ]

-- ---- the laws

pub is-resolved : (x : Bit) (all : List Bit) → x ≡ resolved all → Resolves x all
is-resolved x [] e = tt
is-resolved x (y ∷ more) e = e

settled : (links : List Link) (gives : Giving) → Rises gives → (i : ℕ) → SameAt (at_round links gives i) (at_round links gives (suc i)) (gives no_value)
    → SettlesBy links (gives (at_round links gives i)) (at_round links gives i)
unfolding rounds
settled links gives r i h = (
  λ b c k. even-step links gives (rounds links gives i) b c (first-joined links b c k),
  λ b. is-resolved _ _ (stable links gives r i h b),
)

pub more-refl : (all : List Contribution) → More all all
more-refl [] = tt
more-refl (c ∷ all) = (refl, below-refl c.1, more-refl all)

-- a round that is the least settling
limit : (links : List Link) (gives : Giving) → Rises gives → (i : ℕ) × IsLeast links gives (rounds links gives i)
limit links gives r =
    let at = find links gives r (weights (at_round links gives 0) (gives no_value)) 0 (omega arith) in (
      suc at.0,
      record {
        settles = settled links gives r at.0 at.1;
        least = λ t e. rounds-below links gives gives r (λ s. more-refl (gives s)) r t e (suc at.0);
      },
    )

pub least_exists : LeastExists
least_exists links gives r = let at = limit links gives r in (rounds links gives at.0, at.1)

pub least_rises : LeastRises
least_rises links gives more r q h now later e k =
    let at = limit links gives r in
    under-trans now (rounds links gives at.0) later (e.least (rounds links gives at.0) at.1.settles) (rounds-below links gives more r h q later k.settles at.0)
