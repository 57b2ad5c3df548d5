-- The gifts of a flat design give to each class what its drivers and stimuli give.
use Rattle.std.proofs.Common.{◌≡◌, ℕ, zero, suc, ◌+◌, ◌<◌, Bool, true, false, cond, eqb, List, [], ◌∷◌, ◌++◌, length, get_or, drop, map, refl, sym, ap, ◌∙◌, subst, arith, add-one, drop-cons, add-zero, zero-add}
use Rattle.std.specs.Prelude.{All, filter}
use Rattle.std.specs.List.{zip, range_with_len}
use Rattle.std.proofs.lemmas.List.{map-append, get_or-map, length-map}
use Rattle.std.proofs.lemmas.List.Elements.{filter-append, All-head, All-tail, All-map}
use Rattle.std.proofs.lemmas.List.FromFn.{length-range_with_len, get_or-range_with_len}
use Rattle.fourvec.specs.declared.Bit.TheVariants.{Unknown}
use Rattle.sv_outside.specs.declared.text.Signal.{Signal}
use Rattle.lhs_alias.specs.declared.segs.WireBit.{WireBit}
use Rattle.lhs_alias.specs.Segs.{bit, lhs_bits}
use Rattle.lhs_alias.specs.Lies.{IsBitOf}
use Rattle.lhs_alias.proofs.Lying.{lhs_bits-lie}
use Rattle.settling.specs.Settling.{value_at as value_in_store, Link, Contribution, first_bit, is_one_class, given_to}
use Rattle.settling.proofs.Classes.{joined-exactly, same-name}
use Rattle.settling.proofs.Overriding.{given_to-append}
use Rattle.svex_shape.specs.declared.shape.Shape.{Shape}
use Rattle.svex_shape.specs.Values.{Vector, value_at}
use Rattle.driver_resolve.specs.declared.driver.Driver.{Driver}
use Rattle.driver_resolve.specs.Drivers.{Phase, widths_of, reading, driver_gives, drivers_give, wire_bits, stimuli_from, IsDriver}
use Rattle.event_nets.specs.declared.gift.Gift.{Gift}
use Rattle.event_nets.specs.declared.gift.Source.{Source}
use Rattle.event_nets.specs.declared.gift.Source.TheVariants.{Value, Stimulus}
use Rattle.event_nets.specs.Gifts.{source_in, gift_bit, given_at, gifts_at, gifts_to, driver_gifts, stimulus_gifts}
use Rattle.event_nets.specs.Tables.{store_of, home_of}
use Rattle.event_nets.proofs.Homes.{IsInside, first-inside, linked-inside, place-test}

-- ---- lists of contributions

-- each bit with its bit of a vector, from a place of it on
abbrev Matches : Vector → ℕ → List WireBit → List Contribution → Type 0
Matches v at [] [] = Unit {0}
Matches v at [] (c ∷ cs) = ⊥
Matches v at (b ∷ bits) [] = ⊥
Matches v at (b ∷ bits) (c ∷ cs) = (c.0 ≡ b) × (c.1 ≡ get_or v at Unknown) × Matches v (suc at) bits cs

-- contributions to bits of the wires
abbrev pub AreInside : List ℕ → List Contribution → Type 0
AreInside widths [] = Unit {0}
AreInside widths (c ∷ cs) = IsBitOf widths c.0 × AreInside widths cs

pub inside-append : (widths : List ℕ) (a b : List Contribution) → AreInside widths a → AreInside widths b → AreInside widths (a ++ b)
inside-append widths [] b h k = k
inside-append widths (c ∷ a) b h k = (h.0, inside-append widths a b h.1 k)

matches-inside : (widths : List ℕ) (v : Vector) (at : ℕ) (bits : List WireBit) (cs : List Contribution) → Matches v at bits cs → All (IsBitOf widths) bits → AreInside widths cs
matches-inside widths v at [] [] m h = tt
matches-inside widths v at [] (c ∷ cs) m h = absurd m
matches-inside widths v at (b ∷ bits) [] m h = absurd m
matches-inside widths v at (b ∷ bits) (c ∷ cs) m h =
    (subst (λ x. IsBitOf widths x) (sym m.0) (All-head (IsBitOf widths) b bits h), matches-inside widths v (suc at) bits cs m.2 (All-tail (IsBitOf widths) b bits h))

matches-zip : (v : Vector) (at : ℕ) (bits : List WireBit) → at + length bits ≡ length v → Matches v at bits (zip bits (drop at v))
matches-zip v at [] h = tt
matches-zip v at (b ∷ bits) h =
    let e : drop at v ≡ get_or v at Unknown ∷ drop (suc at) v = drop-cons v at Unknown (omega (arith, h)) in
    subst (λ l. Matches v at (b ∷ bits) (zip (b ∷ bits) l)) (sym e) (refl, refl, matches-zip v (suc at) bits (omega (arith, h)))

matches-wire : (rows : List Vector) (n k w : ℕ) → Matches (get_or rows n []) k (map (bit n) (range_with_len k w)) (map (λ b. (b, value_in_store (store_of rows) b)) (map (bit n) (range_with_len k w)))
matches-wire rows n k zero = tt
matches-wire rows n k (suc w) =
    (refl, refl, subst (λ j. Matches (get_or rows n []) j (map (bit n) (range_with_len (k + 1) w)) (map (λ b. (b, value_in_store (store_of rows) b)) (map (bit n) (range_with_len (k + 1) w)))) (add-one k) (matches-wire rows n (k + 1) w))

-- ---- appending

pub given_at-append : (values stim : List Vector) (place : ℕ) (a b : List Gift) → given_at values stim place (a ++ b) ≡ given_at values stim place a ++ given_at values stim place b
given_at-append values stim place a b =
    ap (λ l. map (λ x. gift_bit values stim x) l) (filter-append (λ x. eqb x.to place) a b)
    ∙ map-append (λ x. gift_bit values stim x) (filter (λ x. eqb x.to place) a) (filter (λ x. eqb x.to place) b)

-- ---- one source

gifts-give : (widths : List ℕ) (links : List Link) → All (IsInside widths) links → (values stim : List Vector) (from : Source) (b : WireBit) → IsBitOf widths b
    → (at : ℕ) (bits : List WireBit) (cs : List Contribution) → All (IsBitOf widths) bits → Matches (source_in values stim from) at bits cs
    → given_at values stim (home_of links widths b) (gifts_to (home_of links widths) from at bits) ≡ given_to links b cs
unfolding gifts_at
gifts-give widths links i values stim from b ib at [] [] h m = refl
gifts-give widths links i values stim from b ib at [] (c ∷ cs) h m = absurd m
gifts-give widths links i values stim from b ib at (x ∷ bits) [] h m = absurd m
gifts-give widths links i values stim from b ib at (x ∷ bits) (c ∷ cs) h m =
    let inside : IsBitOf widths x = All-head (IsBitOf widths) x bits h in
    let test : eqb (home_of links widths x) (home_of links widths b) ≡ is_one_class links c.0 b =
    place-test widths (first_bit links x) (first_bit links b) (first-inside widths links i x inside) (first-inside widths links i b ib)
    ∙ ap (λ y. is_one_class links y b) (sym m.0) in
    let rest = gifts-give widths links i values stim from b ib (suc at) bits cs (All-tail (IsBitOf widths) x bits h) m.2 in
    subst
    (λ t. map (λ g. gift_bit values stim g) (cond t ((let g : Gift = record { to = home_of links widths x; from = from; at = at } in g) ∷ filter (λ g. eqb g.to (home_of links widths b)) (gifts_to (home_of links widths) from (suc at) bits)) (filter (λ g. eqb g.to (home_of links widths b)) (gifts_to (home_of links widths) from (suc at) bits)))
    ≡ given_to links b (c ∷ cs)) (sym test) (step (is_one_class links c.0 b) rest)
  where
    step : (t : Bool) → given_at values stim (home_of links widths b) (gifts_to (home_of links widths) from (suc at) bits) ≡ given_to links b cs
        → map (λ g. gift_bit values stim g) (cond t ((let g : Gift = record { to = home_of links widths x; from = from; at = at } in g) ∷ filter (λ g. eqb g.to (home_of links widths b)) (gifts_to (home_of links widths) from (suc at) bits)) (filter (λ g. eqb g.to (home_of links widths b)) (gifts_to (home_of links widths) from (suc at) bits)))
        ≡ map (λ d. d.1) (cond t (c ∷ filter (λ d. is_one_class links d.0 b) cs) (filter (λ d. is_one_class links d.0 b) cs))
    step true r = ap (λ l. get_or (source_in values stim from) at Unknown ∷ l) r ∙ ap (λ y. y ∷ given_to links b cs) (sym m.1)
    step false r = r

-- ---- all drivers

-- the values of nodes that drivers have
pub record HasDriverValues (shapes : List Shape) (p : Phase) (values : List Vector) (d : Driver) : Type 0 where
  pub is : get_or values d.value [] ≡ value_at (reading p) shapes d.value
  pub wide : length (get_or values d.value []) ≡ length (lhs_bits d.target)

pub drivers-give : (widths : List ℕ) (links : List Link) → All (IsInside widths) links → (shapes : List Shape) (p : Phase) (values stim : List Vector) (b : WireBit) → IsBitOf widths b
    → (drivers : List Driver) → All (IsDriver widths shapes) drivers → All (HasDriverValues shapes p values) drivers
    → given_at values stim (home_of links widths b) (driver_gifts (home_of links widths) drivers) ≡ given_to links b (drivers_give shapes drivers p)
unfolding driver_gifts drivers_give
drivers-give widths links i shapes p values stim b ib [] ok h = refl
drivers-give widths links i shapes p values stim b ib (d ∷ more) ok h =
    let here = All-head (HasDriverValues shapes p values) d more h in
    let lies = lhs_bits-lie widths d.target (All-head (IsDriver widths shapes) d more ok).lies in
    let m : Matches (get_or values d.value []) 0 (lhs_bits d.target) (driver_gives shapes p d) =
    subst (λ v. Matches (get_or values d.value []) 0 (lhs_bits d.target) (zip (lhs_bits d.target) v)) here.is
    (matches-zip (get_or values d.value []) 0 (lhs_bits d.target) (omega (arith, here.wide))) in
    given_at-append values stim (home_of links widths b) (gifts_to (home_of links widths) (Value d.value) 0 (lhs_bits d.target)) (driver_gifts (home_of links widths) more)
    ∙ ap (λ l. l ++ given_at values stim (home_of links widths b) (driver_gifts (home_of links widths) more)) (gifts-give widths links i values stim (Value d.value) b ib 0 (lhs_bits d.target) (driver_gives shapes p d) lies m)
    ∙ ap (λ l. given_to links b (driver_gives shapes p d) ++ l) (drivers-give widths links i shapes p values stim b ib more (All-tail (IsDriver widths shapes) d more ok) (All-tail (HasDriverValues shapes p values) d more h))
    ∙ sym (given_to-append links b (driver_gives shapes p d) (drivers_give shapes more p))

pub drivers-inside : (widths : List ℕ) (shapes : List Shape) (p : Phase) (values : List Vector) (drivers : List Driver) → All (IsDriver widths shapes) drivers
    → All (HasDriverValues shapes p values) drivers → AreInside widths (drivers_give shapes drivers p)
unfolding drivers_give
drivers-inside widths shapes p values [] ok h = tt
drivers-inside widths shapes p values (d ∷ more) ok h =
    let here = All-head (HasDriverValues shapes p values) d more h in
    let lies = lhs_bits-lie widths d.target (All-head (IsDriver widths shapes) d more ok).lies in
    let m : Matches (get_or values d.value []) 0 (lhs_bits d.target) (driver_gives shapes p d) =
    subst (λ v. Matches (get_or values d.value []) 0 (lhs_bits d.target) (zip (lhs_bits d.target) v)) here.is
    (matches-zip (get_or values d.value []) 0 (lhs_bits d.target) (omega (arith, here.wide))) in
    inside-append widths (driver_gives shapes p d) (drivers_give shapes more p) (matches-inside widths _ 0 (lhs_bits d.target) (driver_gives shapes p d) m lies)
    (drivers-inside widths shapes p values more (All-tail (IsDriver widths shapes) d more ok) (All-tail (HasDriverValues shapes p values) d more h))

-- ---- all stimuli

-- wires from a number on
pub record AreWires (widths : List ℕ) (n : ℕ) (wires : List Signal) : Type 0 where
  pub is : (k : ℕ) (d : Signal) → k < length wires → (n + k < length widths) × (get_or widths (n + k) 0 ≡ (get_or wires k d).width)

pub wires-are : (wires : List Signal) → AreWires (widths_of wires) 0 wires
wires-are wires = record {
  is = λ k d lt.
      let same : 0 + k ≡ k = zero-add k in (
        omega (arith, lt, length-map wires (λ (s : Signal). s.width)),
        ap (λ j. get_or (widths_of wires) j 0) same ∙ get_or-map (λ (s : Signal). s.width) wires k d 0 lt,
      );
}

pub wires-rest : (widths : List ℕ) (n : ℕ) (s : Signal) (more : List Signal) → AreWires widths n (s ∷ more) → AreWires widths (suc n) more
wires-rest widths n s more h = record {
  is = λ k d lt.
      let next = h.is (suc k) d (omega (arith, lt)) in
      let same : n + suc k ≡ suc n + k = omega arith in
      subst (λ j. (j < length widths) × (get_or widths j 0 ≡ (get_or more k d).width)) same next;
}

pub wire-lies : (widths : List ℕ) (n : ℕ) (s : Signal) (more : List Signal) → AreWires widths n (s ∷ more) → All (IsBitOf widths) (wire_bits n s.width)
wire-lies widths n s more h =
    let first = h.is 0 s (omega arith) in
    let wire : n < length widths = omega (arith, first.0) in
    let width : get_or widths n 0 ≡ s.width = ap (λ j. get_or widths j 0) (sym (add-zero n)) ∙ first.1 in
    All-map (IsBitOf widths) (bit n) (range_with_len 0 s.width)
    (λ k d lt.
    let short : k < s.width = omega (arith, lt, length-range_with_len 0 s.width) in
    record { wire = wire; place = omega (arith, get_or-range_with_len 0 s.width k d short, width, short) })

chosen-give : (widths : List ℕ) (links : List Link) → All (IsInside widths) links → (values rows : List Vector) (b : WireBit) → IsBitOf widths b → (n w : ℕ) (t : Bool)
    → All (IsBitOf widths) (wire_bits n w)
    → given_at values rows (home_of links widths b) (cond t (gifts_to (home_of links widths) (Stimulus n) 0 (wire_bits n w)) [])
    ≡ given_to links b (cond t (map (λ c. (c, value_in_store (store_of rows) c)) (wire_bits n w)) [])
chosen-give widths links i values rows b ib n w true h =
    gifts-give widths links i values rows (Stimulus n) b ib 0 (wire_bits n w) _ h (matches-wire rows n 0 w)
chosen-give widths links i values rows b ib n w false h = refl

chosen-inside : (widths : List ℕ) (rows : List Vector) (n w : ℕ) (t : Bool) → All (IsBitOf widths) (wire_bits n w) → AreInside widths (cond t (map (λ c. (c, value_in_store (store_of rows) c)) (wire_bits n w)) [])
chosen-inside widths rows n w true h = matches-inside widths (get_or rows n []) 0 (wire_bits n w) _ (matches-wire rows n 0 w) h
chosen-inside widths rows n w false h = tt

pub stimuli-give : (widths : List ℕ) (links : List Link) → All (IsInside widths) links → (values rows : List Vector) (b : WireBit) → IsBitOf widths b → (n : ℕ) (wires : List Signal) → AreWires widths n wires
    → given_at values rows (home_of links widths b) (stimulus_gifts (home_of links widths) n wires) ≡ given_to links b (stimuli_from n wires (store_of rows))
unfolding stimulus_gifts stimuli_from
stimuli-give widths links i values rows b ib n [] h = refl
stimuli-give widths links i values rows b ib n (s ∷ more) h =
    let lies = wire-lies widths n s more h in
    given_at-append values rows (home_of links widths b) (cond s.input (gifts_to (home_of links widths) (Stimulus n) 0 (wire_bits n s.width)) []) (stimulus_gifts (home_of links widths) (suc n) more)
    ∙ ap (λ l. l ++ given_at values rows (home_of links widths b) (stimulus_gifts (home_of links widths) (suc n) more)) (chosen-give widths links i values rows b ib n s.width s.input lies)
    ∙ ap (λ l. given_to links b (cond s.input (map (λ c. (c, value_in_store (store_of rows) c)) (wire_bits n s.width)) []) ++ l) (stimuli-give widths links i values rows b ib (suc n) more (wires-rest widths n s more h))
    ∙ sym (given_to-append links b (cond s.input (map (λ c. (c, value_in_store (store_of rows) c)) (wire_bits n s.width)) []) (stimuli_from (suc n) more (store_of rows)))

pub stimuli-inside : (widths : List ℕ) (rows : List Vector) (n : ℕ) (wires : List Signal) → AreWires widths n wires → AreInside widths (stimuli_from n wires (store_of rows))
unfolding stimuli_from
stimuli-inside widths rows n [] h = tt
stimuli-inside widths rows n (s ∷ more) h =
    inside-append widths (cond s.input (map (λ c. (c, value_in_store (store_of rows) c)) (wire_bits n s.width)) []) (stimuli_from (suc n) more (store_of rows))
    (chosen-inside widths rows n s.width s.input (wire-lies widths n s more h)) (stimuli-inside widths rows (suc n) more (wires-rest widths n s more h))

-- ---- outside of the wires nothing is given

pub none-outside : (widths : List ℕ) (links : List Link) → All (IsInside widths) links → (b : WireBit) → (IsBitOf widths b → ⊥) → (all : List Contribution) → AreInside widths all → given_to links b all ≡ []
none-outside widths links i b out [] h = refl
none-outside widths links i b out (c ∷ all) h = pick (is_one_class links c.0 b) refl (none-outside widths links i b out all h.1)
  where
    pick : (t : Bool) → is_one_class links c.0 b ≡ t → given_to links b all ≡ [] → map (λ d. d.1) (cond t (c ∷ filter (λ d. is_one_class links d.0 b) all) (filter (λ d. is_one_class links d.0 b) all)) ≡ []
    pick true e r = absurd (out (linked-inside widths links i c.0 b ((joined-exactly links c.0 b).1 (same-name _ _ e)) h.0))
    pick false e r = r
