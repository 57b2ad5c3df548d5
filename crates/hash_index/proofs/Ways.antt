-- Ways of hashes.
use Rattle.std.proofs.Common.{◌≡◌, ℕ, zero, suc, ◌+◌, ◌/◌, ◌%◌, ◌<◌, ◌≤◌, ◌⊎◌, inl, inr, Bool, true, false, List, length, refl, sym, ap, ◌∙◌, subst, arith}
use Rattle.std.proofs.lemmas.Bool.{cases_eq, cases_lt}
use Rattle.std.specs.Prelude.{◌==◌, if◌then◌else◌}
use Rattle.hash_index.specs.declared.tree.Place.{Place}
use Rattle.hash_index.specs.declared.tree.Place.TheVariants.{Root, Low, High}
use Rattle.hash_index.specs.Tree.{IsAt, owner, child, way, Reaches, IsRising, Keeps, left}

-- ---- places

pub cases_place : (p q : Place) → (p ≡ q) ⊎ (p ≡ q → ⊥)
cases_place (Root a) (Root b) = elim (cases_eq a b) [ inl e ↦ inl (ap (λ (k : ℕ). Root k) e) | inr ne ↦ inr (λ (e : Root a ≡ Root b). ne (cc)) ]
cases_place (Root a) (Low b) = inr (λ (e : Root a ≡ Low b). cc)
cases_place (Root a) (High b) = inr (λ (e : Root a ≡ High b). cc)
cases_place (Low a) (Root b) = inr (λ (e : Low a ≡ Root b). cc)
cases_place (Low a) (Low b) = elim (cases_eq a b) [ inl e ↦ inl (ap (λ (k : ℕ). Low k) e) | inr ne ↦ inr (λ (e : Low a ≡ Low b). ne (cc)) ]
cases_place (Low a) (High b) = inr (λ (e : Low a ≡ High b). cc)
cases_place (High a) (Root b) = inr (λ (e : High a ≡ Root b). cc)
cases_place (High a) (Low b) = inr (λ (e : High a ≡ Low b). cc)
cases_place (High a) (High b) = elim (cases_eq a b) [ inl e ↦ inl (ap (λ (k : ℕ). High k) e) | inr ne ↦ inr (λ (e : High a ≡ High b). ne (cc)) ]

pub owner_child : (rest k : ℕ) → owner (child rest k) ≡ suc k
owner_child rest k = of_bit (rest % 2 == 1)
  where
    of_bit : (b : Bool) → owner (if b then High k else Low k) ≡ suc k
    of_bit true = refl
    of_bit false = refl

pub child_at : (low high roots : List ℕ) (rest k : ℕ) → k < length low → k < length high → IsAt low high roots (child rest k)
child_at low high roots rest k l h = of_bit (rest % 2 == 1)
  where
    of_bit : (b : Bool) → IsAt low high roots (if b then High k else Low k)
    of_bit true = h
    of_bit false = l

-- ---- links that rise

pub rising_wider : (n m : ℕ) (links : Place → ℕ) → n ≤ m → IsRising n links → IsRising m links
rising_wider n m links l r = record { within = λ p. omega (arith, r.within p); above = r.above }

child_above : (n : ℕ) (links : Place → ℕ) → IsRising n links → (rest k : ℕ) → 0 < links (child rest k) → suc k < links (child rest k)
child_above n links r rest k some = omega (arith, r.above (child rest k) some, owner_child rest k)

-- what is left falls along a way
pub left_falls : (n at to : ℕ) → 0 < at → at ≤ n → (0 < to → at < to) → left n to < left n at
left_falls n zero to some w up = absurd (omega arith)
left_falls n (suc k) zero some w up = omega arith
left_falls n (suc k) (suc j) some w up = let l : suc k < suc j = up (omega arith) in omega arith

pub left_child : (n at : ℕ) (links : Place → ℕ) (rest k : ℕ) → IsRising n links → at ≡ suc k → at ≤ n → left n (links (child rest k)) < left n at
left_child n at links rest k r is w = left_falls n at (links (child rest k)) (omega arith) w (λ some. omega (arith, child_above n links r rest k some))

-- ---- ways

pub way_none : (links : Place → ℕ) (rest steps : ℕ) → way links rest 0 steps ≡ 0
unfolding way
way_none links rest zero = refl
way_none links rest (suc steps) = way_none links (rest / 2) steps

-- no entry stands on the way from none
pub none_reached : (links : Place → ℕ) (rest at k : ℕ) → at ≡ 0 → Reaches links rest at (suc k) → ⊥
none_reached links rest at k none r =
    let no : suc k ≡ 0 = sym r.is ∙ ap (λ a. way links rest a r.steps) none ∙ way_none links rest r.steps in
    omega arith

-- numbers rise along a way
way_above : (n : ℕ) (links : Place → ℕ) → IsRising n links → (rest at steps k : ℕ) → way links rest at steps ≡ suc k → at ≤ suc k
unfolding way
way_above n links r rest zero steps k e = omega arith
way_above n links r rest (suc i) zero k e = omega arith
way_above n links r rest (suc i) (suc steps) k e =
    let on : links (child rest i) ≤ suc k = way_above n links r (rest / 2) (links (child rest i)) steps k e in
    elim (cases_lt 0 (links (child rest i))) [
      | inl some ↦ omega (arith, child_above n links r rest i some)
      | inr none ↦ absurd (none_reached links (rest / 2) (links (child rest i)) k (omega arith) (record { steps = steps; is = e }))
    ]

-- a way that has not come to its goal goes on from an entry
pub reaches_some : (links : Place → ℕ) (rest at to : ℕ) → (at ≡ to → ⊥) → Reaches links rest at to → 0 < at
reaches_some links rest at to ne r = elim (cases_lt 0 at) [
  | inl some ↦ some
  | inr none ↦
      let zero_at : at ≡ 0 = omega arith in
      absurd (ne (zero_at ∙ sym (way_none links rest r.steps) ∙ ap (λ a. way links rest a r.steps) (sym zero_at) ∙ r.is))
]

rest_of : (links : Place → ℕ) (rest k to steps : ℕ) → (suc k ≡ to → ⊥) → way links rest (suc k) steps ≡ to → Reaches links (rest / 2) (links (child rest k)) to
unfolding way
rest_of links rest k to zero ne e = absurd (ne e)
rest_of links rest k to (suc steps) ne e = record { steps = steps; is = e }

pub reaches_rest : (links : Place → ℕ) (rest at k to : ℕ) → at ≡ suc k → (at ≡ to → ⊥) → Reaches links rest at to → Reaches links (rest / 2) (links (child rest k)) to
reaches_rest links rest at k to is ne r =
    rest_of links rest k to r.steps (λ e. ne (is ∙ e)) (ap (λ a. way links rest a r.steps) (sym is) ∙ r.is)

one_more : (links : Place → ℕ) (rest k to steps : ℕ) → way links (rest / 2) (links (child rest k)) steps ≡ to → Reaches links rest (suc k) to
unfolding way
one_more links rest k to steps e = record { steps = suc steps; is = e }

pub reaches_next : (links : Place → ℕ) (rest at k to : ℕ) → at ≡ suc k → Reaches links (rest / 2) (links (child rest k)) to → Reaches links rest at to
reaches_next links rest at k to is r = subst (λ a. Reaches links rest a to) (sym is) (one_more links rest k to r.steps r.is)

pub reaches_here : (links : Place → ℕ) (rest at to : ℕ) → at ≡ to → Reaches links rest at to
unfolding way
reaches_here links rest at to e = record { steps = 0; is = e }

-- each way ends
pub way_ends : (n : ℕ) (links : Place → ℕ) → IsRising n links → (more rest at : ℕ) → at ≤ n → n < at + more → Reaches links rest at 0
way_ends n links r zero rest at w l = absurd (omega arith)
way_ends n links r (suc more) rest zero w l = reaches_here links rest 0 0 refl
way_ends n links r (suc more) rest (suc k) w l = reaches_next links rest (suc k) k 0 refl (elim (cases_lt 0 (links (child rest k))) [
  | inl some ↦ way_ends n links r more (rest / 2) (links (child rest k)) (r.within (child rest k)) (omega (arith, child_above n links r rest k some))
  | inr none ↦ reaches_here links (rest / 2) (links (child rest k)) 0 (omega arith)
])

-- ---- where links stay

kept_step : (n : ℕ) (old new : Place → ℕ) (rest steps k at to : ℕ) → k < n → ((j : ℕ) → j < n → at ≡ suc j → to ≡ suc j) → at ≤ suc k → way old rest at steps ≡ suc k → way new rest at steps ≡ suc k → way new rest to steps ≡ suc k
kept_step n old new rest steps k zero to l stays w was is = absurd (none_reached old rest 0 k refl (record { steps = steps; is = was }))
kept_step n old new rest steps k (suc j) to l stays w was is = ap (λ a. way new rest a steps) (stays j (omega arith) refl) ∙ is

way_kept : (n m : ℕ) (old new : Place → ℕ) → IsRising m old → Keeps n old new → (rest at steps k : ℕ) → k < n → way old rest at steps ≡ suc k → way new rest at steps ≡ suc k
unfolding way
way_kept n m old new r kept rest at zero k l e = e
way_kept n m old new r kept rest zero (suc steps) k l e = absurd (none_reached old (rest / 2) 0 k refl (record { steps = steps; is = e }))
way_kept n m old new r kept rest (suc i) (suc steps) k l e =
    kept_step n old new (rest / 2) steps k (old (child rest i)) (new (child rest i)) l (λ j. kept.kept (child rest i) j)
    (way_above m old r (rest / 2) (old (child rest i)) steps k e) e
    (way_kept n m old new r kept (rest / 2) (old (child rest i)) steps k l e)

-- a way from a place to one of the first entries
pub reaches_kept : (n m : ℕ) (old new : Place → ℕ) (rest : ℕ) (p : Place) (k : ℕ) → IsRising m old → Keeps n old new → k < n → Reaches old rest (old p) (suc k) → Reaches new rest (new p) (suc k)
reaches_kept n m old new rest p k r kept l w = record {
  steps = w.steps;
  is = kept_step n old new rest w.steps k (old p) (new p) l (λ j. kept.kept p j) (way_above m old r rest (old p) w.steps k w.is) w.is
      (way_kept n m old new r kept rest (old p) w.steps k l w.is);
}
