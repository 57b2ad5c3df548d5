-- Members of lists, the bits of groups of them, and the first group that is wide.
use Rattle.std.proofs.Common.{◌≡◌, ◌≢◌, ◌⊎◌, ℕ, zero, suc, ◌+◌, ◌<◌, ◌≤◌, Bool, true, false, cond, eqb, ltb, List, [], ◌∷◌, length, get_or, Option, None, Some, refl, sym, ap, ◌∙◌, subst, inl, inr, arith}
use Rattle.std.specs.Prelude.{Contains, AllPairs, IsTrue}
use Rattle.std.proofs.lemmas.Bool.{cases_lt, eqb-true, eqb-false, ltb-true, ltb-false}
use Rattle.std.proofs.lemmas.List.{get_or_past}
use Rattle.lhs_alias.specs.declared.segs.Seg.{Seg}
use Rattle.lhs_alias.specs.declared.segs.WireBit.{WireBit}
use Rattle.net_equations.specs.Equations.{has_bit, seg_at}
use Rattle.net_equations.specs.Groups.{members_of, bits_in, first_wide}
use Rattle.net_resolve.proofs.Running.{has-parts}

-- ---- members

pub nothing-in : {X : Type 0} (x : X) → Contains [] x → ⊥
nothing-in x c = absurd (omega (arith, c.1))

pub in-cons : {X : Type 0} (a : X) (l : List X) (x : X) → Contains (a ∷ l) x → (a ≡ x) ⊎ Contains l x
in-cons {X} a l x c = go c.0 c.1 c.2
  where
    go : (k : ℕ) → k < length (a ∷ l) → get_or (a ∷ l) k x ≡ x → (a ≡ x) ⊎ Contains l x
    go zero lt e = inl e
    go (suc k) lt e = inr (k, omega (arith, lt), e)

pub cons-head : {X : Type 0} (a : X) (l : List X) (x : X) → a ≡ x → Contains (a ∷ l) x
cons-head a l x e = (0, omega arith, e)

pub cons-tail : {X : Type 0} (a : X) (l : List X) (x : X) → Contains l x → Contains (a ∷ l) x
cons-tail a l x c = (suc c.0, omega (arith, c.1), c.2)

pub pairs-tail : {X : Type 0} (R : X → X → Type 0) (x : X) (xs : List X) → AllPairs R (x ∷ xs) → AllPairs R xs
pairs-tail R x xs h = λ i j d lt below. h (suc i) (suc j) d (omega (arith, lt)) (omega (arith, below))

-- the first is no later one
pub first-apart : {X : Type 0} (x : X) (xs : List X) → AllPairs ◌≢◌ (x ∷ xs) → Contains xs x → ⊥
first-apart x xs h c = h 0 (suc c.0) x (omega arith) (omega (arith, c.1)) (sym c.2)

-- a segment that has a bit is one of the list
pub seg-there : (segs : List Seg) (j : ℕ) (b : WireBit) → IsTrue (has_bit (seg_at segs j) b) → j < length segs
seg-there segs j b h = elim (cases_lt j (length segs)) [
  | inl lt ↦ lt
  | inr past ↦
      let none : Seg = record { wire = 0; lo = 0; width = 0 } in
      let parts = has-parts none b (subst (λ s. IsTrue (has_bit s b)) (get_or_past segs j none past) h) in
      let low = parts.1.0 in
      let high = parts.1.1 in
      absurd (omega (arith, low, high))
]

-- ---- bits of members

-- a list without a number, where it stands first
but : ℕ → List ℕ → List ℕ
but m [] = []
but m (n ∷ rest) = cond (eqb n m) rest (n ∷ but m rest)

bits-but : (segs : List Seg) (m : ℕ) (all : List ℕ) → Contains all m → bits_in segs all ≡ (seg_at segs m).width + bits_in segs (but m all)
unfolding bits_in but
bits-but segs m [] c = absurd (nothing-in m c)
bits-but segs m (n ∷ rest) c = pick (eqb n m) refl (λ later. bits-but segs m rest later)
  where
    pick : (t : Bool) → eqb n m ≡ t → (Contains rest m → bits_in segs rest ≡ (seg_at segs m).width + bits_in segs (but m rest))
        → (seg_at segs n).width + bits_in segs rest ≡ (seg_at segs m).width + bits_in segs (cond t rest (n ∷ but m rest))
    pick true e next = ap (λ k. (seg_at segs k).width + bits_in segs rest) (eqb-true n m e)
    pick false e next = elim (in-cons n rest m c) [
      | inl is ↦ absurd (eqb-false n m e is)
      | inr later ↦ let same = next later in omega (arith, same)
    ]

still-in : (m i : ℕ) (all : List ℕ) → Contains all i → m ≢ i → Contains (but m all) i
unfolding but
still-in m i [] c differ = absurd (nothing-in i c)
still-in m i (n ∷ rest) c differ = pick (eqb n m) refl (λ later. still-in m i rest later differ)
  where
    pick : (t : Bool) → eqb n m ≡ t → (Contains rest i → Contains (but m rest) i) → Contains (cond t rest (n ∷ but m rest)) i
    pick true e next = elim (in-cons n rest i c) [ inl is ↦ absurd (differ (sym (eqb-true n m e) ∙ is)) | inr later ↦ later ]
    pick false e next = elim (in-cons n rest i c) [ inl is ↦ cons-head n (but m rest) i is | inr later ↦ cons-tail n (but m rest) i (next later) ]

-- members of which none stands twice have no more bits than a list that has them all
pub fewer-bits : (segs : List Seg) (few all : List ℕ) → AllPairs ◌≢◌ few → ((m : ℕ) → Contains few m → Contains all m) → bits_in segs few ≤ bits_in segs all
unfolding bits_in
fewer-bits segs [] all apart h = omega arith
fewer-bits segs (m ∷ few) all apart h =
    let here = bits-but segs m all (h m (cons-head m few m refl)) in
    let rest = fewer-bits segs few (but m all) (pairs-tail ◌≢◌ m few apart)
    (λ i c. still-in m i all (h i (cons-tail m few i c)) (λ is. first-apart m few apart (subst (Contains few) (sym is) c))) in
    omega (arith, here, rest)

pub some-member : (segs : List Seg) (members : List ℕ) → 0 < bits_in segs members → (m : ℕ) × Contains members m
unfolding bits_in
some-member segs [] lt = absurd (omega (arith, lt))
some-member segs (m ∷ rest) lt = (m, cons-head m rest m refl)

-- ---- the first wide group

pub record IsWideGroup (segs : List Seg) (groups : List (List ℕ)) (bits : ℕ) : Type 0 where
  pub group : ℕ
  pub there : group < length groups
  pub count : bits_in segs (members_of groups group) ≡ bits
  pub wide : 1024 < bits

some-same : (a b : ℕ) → Some a ≡ Some b → a ≡ b
some-same a b e = ap value e
  where
    value : Option ℕ → ℕ
    value (Some x) = x
    value None = 0

pub wide-group : (segs : List Seg) (groups : List (List ℕ)) (bits : ℕ) → first_wide segs groups ≡ Some bits → IsWideGroup segs groups bits
unfolding first_wide
wide-group segs [] bits e = let f : None ≡ Some bits = e in cc
wide-group segs (g ∷ rest) bits e = pick (ltb 1024 (bits_in segs g)) refl e (λ later. wide-group segs rest bits later)
  where
    pick : (t : Bool) → ltb 1024 (bits_in segs g) ≡ t → cond t (Some (bits_in segs g)) (first_wide segs rest) ≡ Some bits → (first_wide segs rest ≡ Some bits → IsWideGroup segs rest bits)
        → IsWideGroup segs (g ∷ rest) bits
    pick true lt is next =
        let same : bits_in segs g ≡ bits = some-same (bits_in segs g) bits is in
        record { group = 0; there = omega arith; count = same; wide = omega (arith, same, ltb-true 1024 (bits_in segs g) lt) }
    pick false lt is next = let h = next is in record { group = suc h.group; there = omega (arith, h.there); count = h.count; wide = h.wide }

pub narrow-groups : (segs : List Seg) (groups : List (List ℕ)) → first_wide segs groups ≡ None → (g : ℕ) → g < length groups → bits_in segs (members_of groups g) ≤ 1024
unfolding first_wide
narrow-groups segs [] e g lt = absurd (omega (arith, lt))
narrow-groups segs (first ∷ rest) e g lt = pick (ltb 1024 (bits_in segs first)) refl e (λ later. narrow-groups segs rest later) g lt
  where
    pick : (t : Bool) → ltb 1024 (bits_in segs first) ≡ t → cond t (Some (bits_in segs first)) (first_wide segs rest) ≡ None
        → (first_wide segs rest ≡ None → (k : ℕ) → k < length rest → bits_in segs (members_of rest k) ≤ 1024) → (k : ℕ) → k < length (first ∷ rest) → bits_in segs (members_of (first ∷ rest) k) ≤ 1024
    pick true wide is next k kl = let f : Some (bits_in segs first) ≡ None = is in cc
    pick false low is next zero kl = ltb-false 1024 (bits_in segs first) low
    pick false low is next (suc k) kl = next is k (omega (arith, kl))
