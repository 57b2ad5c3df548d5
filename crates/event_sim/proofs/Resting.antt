-- Where no step changes anything more, the valuation is the least settling.
use Rattle.std.proofs.Common.{◌≡◌, ℕ, zero, suc, ◌+◌, ◌<◌, ◌≤◌, Bool, true, false, cond, ◌&&◌, ◌||◌, List, [], ◌∷◌, ◌++◌, length, get_or, map, refl, sym, ap, ◌∙◌, subst, inl, inr, arith}
use Rattle.std.specs.Prelude.{All, Contains, filter}
use Rattle.std.specs.List.{list_any, zip}
use mathlib.Core.Path.{fun_ext}
use Rattle.std.proofs.lemmas.Bool.{cases_lt}
use Rattle.std.proofs.lemmas.List.{get_or_default}
use Rattle.std.proofs.lemmas.List.Elements.{All-nil, All-cons}
use Rattle.std.proofs.lemmas.List.Folds.{list_any-append}
use Rattle.fourvec.proofs.Order.{both}
use Rattle.fourvec.specs.declared.Bit.{Bit}
use Rattle.fourvec.specs.declared.Bit.TheVariants.{Unknown}
use Rattle.sv_outside.specs.declared.text.Signal.{Signal}
use Rattle.lhs_alias.specs.declared.segs.WireBit.{WireBit}
use Rattle.lhs_alias.specs.Segs.{bit, lhs_bits}
use Rattle.lhs_alias.specs.Lies.{IsBitOf}
use Rattle.lhs_alias.specs.Joined.{all_bits, place_of}
use Rattle.lhs_alias.proofs.Row.{place-below, bit-at_place}
use Rattle.settling.specs.Settling.{Store, value_at, Link, Contribution, first_bit, same_bit, is_one_class, given_to}
use Rattle.settling.specs.Least.{Under}
use Rattle.settling.specs.Events.{Net, resolved, step, after_events}
use Rattle.settling.proofs.Classes.{joined-first, first-joined}
use Rattle.settling.specs.Overriding.{is_given}
use Rattle.settling.proofs.Overriding.{overriding_tells}
use Rattle.settling.proofs.Events.{events_stay_below, events_raise, rest_is_least}
use Rattle.svex_arena.specs.Arenas.{IsArena}
use Rattle.driver_resolve.specs.declared.driver.Driver.{Driver}
use Rattle.driver_resolve.specs.Drivers.{Phase, driver_gives, drivers_give, wire_bits, stimuli_from, overriding_from, widths_of}
use Rattle.flat_net.specs.declared.flat.Flat.{Flat}
use Rattle.flat_net.specs.Flats.{IsFlat, links_of, given, given_in}
use Rattle.flat_net.proofs.Leasts.{given-rises}
use Rattle.event_nets.specs.Nets.{target_bits, input_bits, overridden_bits, is_driven, is_net_bit, lowest, run_of, nets_of}
use Rattle.event_sim.specs.Steps.{net_of, after_steps, StepsStayBelow, StepsRaise, RestIsLeast, FewChange, Changed, none, stayed, rose}
use Rattle.event_nets.proofs.Homes.{links-inside, first-inside, same-itself}
use Rattle.event_sim.proofs.Stepping.{outside-undriven}
use Rattle.event_sim.proofs.Falling.{weight, weight-falls, weight-same}
use Rattle.event_nets.proofs.FlatNets.{run-inside}
use Rattle.event_nets.proofs.Cutting.{as_inputs, bits-as_inputs, from-as_inputs}

-- ---- nothing is given to a class that is not driven

-- no contribution to the class
abbrev GivesNone : List Link → WireBit → List Contribution → Type 0
GivesNone links b all = given_to links b all ≡ []

none-append : (links : List Link) (b : WireBit) (x y : List Contribution) → given_to links b x ≡ [] → given_to links b y ≡ [] → given_to links b (x ++ y) ≡ []
none-append links b [] y h k = k
none-append links b (c ∷ x) y h k = pick (is_one_class links c.0 b) (λ e. none-append links b x y e k) h
  where
    pick : (t : Bool) → (given_to links b x ≡ [] → given_to links b (x ++ y) ≡ [])
        → map (λ d. d.1) (cond t (c ∷ filter (λ d. is_one_class links d.0 b) x) (filter (λ d. is_one_class links d.0 b) x)) ≡ []
        → map (λ d. d.1) (cond t (c ∷ filter (λ d. is_one_class links d.0 b) (x ++ y)) (filter (λ d. is_one_class links d.0 b) (x ++ y))) ≡ []
    pick true r e = cc
    pick false r e = r e

or-none : (p q : Bool) → (p || q) ≡ false → (p ≡ false) × (q ≡ false)
or-none true q e = cc
or-none false q e = (refl, e)

zip-none : (links : List Link) (b : WireBit) (bits : List WireBit) (v : List Bit) → list_any (λ c. is_one_class links c b) bits ≡ false → given_to links b (zip bits v) ≡ []
zip-none links b [] v h = refl
zip-none links b (c ∷ bits) [] h = refl
zip-none links b (c ∷ bits) (x ∷ v) h =
    let parts = or-none (is_one_class links c b) (list_any (λ d. is_one_class links d b) bits) h in
    ap (λ t. map (λ d. d.1) (cond t ((let y : Contribution = (c, x) in y) ∷ filter (λ d. is_one_class links d.0 b) (zip bits v)) (filter (λ d. is_one_class links d.0 b) (zip bits v)))) parts.0
    ∙ zip-none links b bits v parts.1

store-none : (links : List Link) (b : WireBit) (s : Store) (bits : List WireBit) → list_any (λ c. is_one_class links c b) bits ≡ false → given_to links b (map (λ c. (c, value_at s c)) bits) ≡ []
store-none links b s [] h = refl
store-none links b s (c ∷ bits) h =
    let parts = or-none (is_one_class links c b) (list_any (λ d. is_one_class links d b) bits) h in
    ap (λ t. map (λ d. d.1) (cond t ((let y : Contribution = (c, value_at s c) in y) ∷ filter (λ d. is_one_class links d.0 b) (map (λ e. (e, value_at s e)) bits)) (filter (λ d. is_one_class links d.0 b) (map (λ e. (e, value_at s e)) bits)))) parts.0
    ∙ store-none links b s bits parts.1

drivers-none : (flat : Flat) (links : List Link) (b : WireBit) (p : Phase) (drivers : List Driver) → list_any (λ c. is_one_class links c b) (target_bits drivers) ≡ false → given_to links b (drivers_give flat.arena drivers p) ≡ []
unfolding drivers_give target_bits
drivers-none flat links b p [] h = refl
drivers-none flat links b p (d ∷ more) h =
    let class : WireBit → Bool = λ c. is_one_class links c b in
    let parts = or-none (list_any class (lhs_bits d.target)) (list_any class (target_bits more)) (sym (list_any-append class (lhs_bits d.target) (target_bits more)) ∙ h) in
    none-append links b (driver_gives flat.arena p d) (drivers_give flat.arena more p) (zip-none links b (lhs_bits d.target) _ parts.0) (drivers-none flat links b p more parts.1)

chosen-none : (links : List Link) (b : WireBit) (s : Store) (bits : List WireBit) (t : Bool) → list_any (λ c. is_one_class links c b) (cond t bits []) ≡ false
    → given_to links b (cond t (map (λ c. (c, value_at s c)) bits) []) ≡ []
chosen-none links b s bits true h = store-none links b s bits h
chosen-none links b s bits false h = refl

stimuli-none : (links : List Link) (b : WireBit) (stim : Store) (n : ℕ) (wires : List Signal) → list_any (λ c. is_one_class links c b) (input_bits n wires) ≡ false → given_to links b (stimuli_from n wires stim) ≡ []
unfolding stimuli_from input_bits
stimuli-none links b stim n [] h = refl
stimuli-none links b stim n (s ∷ more) h =
    let class : WireBit → Bool = λ c. is_one_class links c b in
    let here = cond s.input (wire_bits n s.width) [] in
    let parts = or-none (list_any class here) (list_any class (input_bits (suc n) more)) (sym (list_any-append class here (input_bits (suc n) more)) ∙ h) in
    none-append links b (cond s.input (map (λ c. (c, value_at stim c)) (wire_bits n s.width)) []) (stimuli_from (suc n) more stim)
    (chosen-none links b stim (wire_bits n s.width) s.input parts.0) (stimuli-none links b stim (suc n) more parts.1)

pub undriven-none : (flat : Flat) (over : List ℕ) (p : Phase) (b : WireBit) → is_driven flat over b ≡ false → given_to (links_of flat.joins) b (given flat over p) ≡ []
undriven-none flat over p b h =
    let links = links_of flat.joins in
    let class : WireBit → Bool = λ c. is_one_class links c b in
    let targets = target_bits flat.drivers in
    let inputs = input_bits 0 flat.wires in
    let set = overridden_bits 0 flat.wires over in
    let from = overriding_from 0 flat.wires over p.stim in
    let own = drivers_give flat.arena flat.drivers p ++ stimuli_from 0 flat.wires p.stim in
    let halves = or-none (list_any class (targets ++ inputs)) (list_any class set) (sym (list_any-append class (targets ++ inputs) set) ∙ h) in
    let parts = or-none (list_any class targets) (list_any class inputs) (sym (list_any-append class targets inputs) ∙ halves.0) in
    let set-none : given_to links b from ≡ [] =
    ap (λ l. given_to links b l) (from-as_inputs 0 flat.wires over p.stim)
    ∙ stimuli-none links b p.stim 0 (as_inputs 0 flat.wires over) (ap (λ l. list_any class l) (sym (bits-as_inputs 0 flat.wires over)) ∙ halves.1) in
    let own-none = none-append links b (drivers_give flat.arena flat.drivers p) (stimuli_from 0 flat.wires p.stim) (drivers-none flat links b p flat.drivers parts.0) (stimuli-none links b p.stim 0 flat.wires parts.1) in
    overriding_tells links from own b ∙ either (is_given links from b) set-none own-none
  where
    either : (t : Bool) {x y : List Bit} → x ≡ [] → y ≡ [] → cond t x y ≡ []
    either true e f = e
    either false e f = f

-- ---- a bit of a class that is not driven stays X

pub undriven-step : (flat : Flat) (over : List ℕ) (stim prev s : Store) (b : WireBit) → is_driven flat over b ≡ false → value_at (step (links_of flat.joins) (given_in flat over stim prev) s) b ≡ Unknown
undriven-step flat over stim prev s b h = ap resolved (undriven-none flat over (record { stim = stim; previous = prev; present = s }) b h)

pub undriven-stays : (flat : Flat) (over : List ℕ) (stim prev : Store) (b : WireBit) → is_driven flat over b ≡ false → (nets : List Net) → value_at (after_events (links_of flat.joins) (given_in flat over stim prev) nets) b ≡ Unknown
unfolding after_events
undriven-stays flat over stim prev b h [] = refl
undriven-stays flat over stim prev b h (net ∷ before) =
    let s = after_events (links_of flat.joins) (given_in flat over stim prev) before in
    pick (net b) (undriven-step flat over stim prev s b h) (undriven-stays flat over stim prev b h before)
  where
    pick : (t : Bool) {x y : Bit} → x ≡ Unknown → y ≡ Unknown → cond t x y ≡ Unknown
    pick true e f = e
    pick false e f = f

-- ---- each driven first bit lies in a net

lowest-holds : (p : ℕ → Bool) (k : ℕ) → p k ≡ true → p (lowest p k) ≡ true
unfolding lowest
lowest-holds p zero h = h
lowest-holds p (suc k) h = pick (p k) refl (λ e. lowest-holds p k e)
  where
    pick : (t : Bool) → p k ≡ t → (p k ≡ true → p (lowest p k) ≡ true) → p (cond t (lowest p k) (suc k)) ≡ true
    pick true e next = next e
    pick false e next = h

lowest-again : (p : ℕ → Bool) (k : ℕ) → lowest p (lowest p k) ≡ lowest p k
unfolding lowest
lowest-again p zero = refl
lowest-again p (suc k) = pick (p k) refl (lowest-again p k)
  where
    pick : (t : Bool) → p k ≡ t → lowest p (lowest p k) ≡ lowest p k → lowest p (cond t (lowest p k) (suc k)) ≡ cond t (lowest p k) (suc k)
    pick true e next = next
    pick false e next = ap (λ t. cond t (lowest p k) (suc k)) e

pub filter-at : {X : Type 0} (p : X → Bool) (xs : List X) (x : X) (k : ℕ) → k < length xs → get_or xs k x ≡ x → p x ≡ true → Contains (filter p xs) x
filter-at p [] x k lt e h = absurd (omega (arith, lt))
filter-at p (y ∷ xs) x zero lt e h =
    let on : p y ≡ true = ap p e ∙ h in
    subst (λ t. Contains (cond t (y ∷ filter p xs) (filter p xs)) x) (sym on) (zero, omega arith, e)
filter-at p (y ∷ xs) x (suc k) lt e h = pick (p y) (filter-at p xs x k (omega (arith, lt)) e h)
  where
    pick : (t : Bool) → Contains (filter p xs) x → Contains (cond t (y ∷ filter p xs) (filter p xs)) x
    pick true c = let l = c.1 in (suc c.0, omega (arith, l), c.2)
    pick false c = c

pub run-named : (flat : Flat) (over : List ℕ) (b : WireBit) → IsBitOf (widths_of flat.wires) b → is_net_bit flat over b ≡ true → Contains (nets_of flat over) (run_of flat over b)
run-named flat over b ib h =
    let widths = widths_of flat.wires in
    let p : ℕ → Bool = λ j. is_net_bit flat over (bit b.wire j) in
    let run = run_of flat over b in
    let irun = run-inside flat over b ib in
    let again : same_bit (run_of flat over run) run ≡ true = ap (λ j. same_bit (bit b.wire j) run) (lowest-again p b.at) ∙ same-itself run in
    filter-at (λ c. is_net_bit flat over c && same_bit (run_of flat over c) c) (all_bits widths) run
    (place_of widths run) (place-below widths run irun) (bit-at_place widths run run irun)
    (both _ _ (lowest-holds p b.at h) again)

-- a driven bit is one of the wires
pub driven-inside : (flat : Flat) → IsFlat flat → (over : List ℕ) (b : WireBit) → is_driven flat over b ≡ true → IsBitOf (widths_of flat.wires) b
driven-inside flat ok over b h = elim (cases_lt b.wire (length (widths_of flat.wires))) [
  | inl lt ↦ elim (cases_lt b.at (get_or (widths_of flat.wires) b.wire 0)) [
    | inl low ↦ record { wire = lt; place = low }
    | inr high ↦ absurd (differ (outside-undriven flat ok over b (λ i. let p = i.place in omega (arith, p, high))))
  ]
  | inr past ↦ absurd (differ (outside-undriven flat ok over b (λ i. let w = i.wire in omega (arith, w, past))))
]
  where
    differ : is_driven flat over b ≡ false → ⊥
    differ e = let k : true ≡ false = sym h ∙ e in cc

net-bit : (flat : Flat) (over : List ℕ) (x : WireBit) → same_bit (first_bit (links_of flat.joins) x) x ≡ true → is_driven flat over x ≡ true → is_net_bit flat over x ≡ true
unfolding is_net_bit
net-bit flat over x e f = both _ _ e f

-- the first bit of a driven class lies in a net
pub first-in_net : (flat : Flat) (over : List ℕ) (b : WireBit) → is_driven flat over b ≡ true → is_net_bit flat over (first_bit (links_of flat.joins) b) ≡ true
first-in_net flat over b h =
    let links = links_of flat.joins in
    let first = first_bit links b in
    let own : first_bit links first ≡ first = sym (first-joined links b first (joined-first links b)) in
    net-bit flat over first (ap (λ x. same_bit x first) own ∙ same-itself first)
    (ap (λ x. list_any (λ c. same_bit (first_bit links c) x) (target_bits flat.drivers ++ input_bits 0 flat.wires ++ overridden_bits 0 flat.wires over)) own ∙ h)

-- a driven class has its net
pub net-found : (flat : Flat) → IsFlat flat → (over : List ℕ) (b : WireBit) → is_driven flat over b ≡ true → (k : ℕ) × (k < length (nets_of flat over)) × (net_of flat over k b ≡ true)
net-found flat ok over b h =
    let widths = widths_of flat.wires in
    let links = links_of flat.joins in
    let inside = links-inside widths flat.joins ok.joins in
    let first = first_bit links b in
    let ifirst = first-inside widths links inside b (driven-inside flat ok over b h) in
    let is = first-in_net flat over b h in
    let at = run-named flat over first ifirst is in
    let run = run_of flat over first in (
      at.0,
      at.1,
      ap (λ x. is_net_bit flat over first && same_bit run x) (get_or_default (nets_of flat over) at.0 (bit 0 0) run at.1 ∙ at.2)
          ∙ both _ _ is (same-itself run),
    )

-- ---- the law

pub rest-is_least : (flat : Flat) → IsArena flat.arena → IsFlat flat → (over : List ℕ) → RestIsLeast flat over
rest-is_least flat i ok over stim prev steps h =
    rest_is_least (links_of flat.joins) (given_in flat over stim prev) (given-rises flat i ok over stim prev) (map (net_of flat over) steps) (λ b. at b (is_driven flat over b) refl)
  where
    at : (b : WireBit) (t : Bool) → is_driven flat over b ≡ t
        → value_at (step (links_of flat.joins) (given_in flat over stim prev) (after_steps flat over stim prev steps)) b ≡ value_at (after_steps flat over stim prev steps) b
    at b true e =
        let net = net-found flat ok over b e in
        let s = after_steps flat over stim prev steps in
        ap (λ t. cond t (value_at (step (links_of flat.joins) (given_in flat over stim prev) s) b) (value_at s b)) (sym net.2) ∙ h net.0 net.1 b.wire b.at
    at b false e =
        undriven-step flat over stim prev (after_steps flat over stim prev steps) b e
        ∙ sym (undriven-stays flat over stim prev b e (map (net_of flat over) steps))

pub below-settlings : (flat : Flat) → IsArena flat.arena → IsFlat flat → (over : List ℕ) → StepsStayBelow flat over
below-settlings flat i ok over stim prev steps t e = events_stay_below (links_of flat.joins) (given_in flat over stim prev) (given-rises flat i ok over stim prev) (map (net_of flat over) steps) t e

pub steps-raise : (flat : Flat) → IsArena flat.arena → IsFlat flat → (over : List ℕ) → StepsRaise flat over
steps-raise flat i ok over stim prev steps k = events_raise (links_of flat.joins) (given_in flat over stim prev) (given-rises flat i ok over stim prev) (map (net_of flat over) steps) (net_of flat over k)

-- ---- few steps change anything

abbrev weights : Store → List WireBit → ℕ
weights s [] = 0
weights s (b ∷ bits) = weight (value_at s b) + weights s bits

weights-none : (bits : List WireBit) → weights (λ n k. Unknown) bits ≡ length bits
weights-none [] = refl
weights-none (b ∷ bits) = let e = weights-none bits in omega (arith, e)

weights-fall : (s t : Store) → Under s t → (bits : List WireBit) → weights t bits ≤ weights s bits
weights-fall s t h [] = omega arith
weights-fall s t h (b ∷ bits) =
    let p = weight-falls (value_at s b) (value_at t b) (h b.wire b.at) in let q = weights-fall s t h bits in omega (arith, p, q)

same-weights : (s t : Store) → Under s t → (bits : List WireBit) → weights s bits ≡ weights t bits → All (λ b. value_at s b ≡ value_at t b) bits
same-weights s t h [] e = All-nil (λ b. value_at s b ≡ value_at t b)
same-weights s t h (b ∷ bits) e =
    let p = weight-falls (value_at s b) (value_at t b) (h b.wire b.at) in
    let q = weights-fall s t h bits in
    All-cons (λ c. value_at s c ≡ value_at t c) b bits (weight-same (value_at s b) (value_at t b) (h b.wire b.at) (omega (arith, e, p, q)))
    (same-weights s t h bits (omega (arith, e, p, q)))

outside-stays : (flat : Flat) → IsFlat flat → (over : List ℕ) (stim prev : Store) (b : WireBit) → (IsBitOf (widths_of flat.wires) b → ⊥) → (steps : List ℕ) → value_at (after_steps flat over stim prev steps) b ≡ Unknown
outside-stays flat ok over stim prev b out steps = undriven-stays flat over stim prev b (outside-undriven flat ok over b out) (map (net_of flat over) steps)

-- valuations after steps that are the same at all bits of the wires
same-steps : (flat : Flat) → IsFlat flat → (over : List ℕ) (stim prev : Store) (steps more : List ℕ)
    → All (λ b. value_at (after_steps flat over stim prev steps) b ≡ value_at (after_steps flat over stim prev more) b) (all_bits (widths_of flat.wires))
    → after_steps flat over stim prev steps ≡ after_steps flat over stim prev more
same-steps flat ok over stim prev steps more h = fun_ext (λ n. fun_ext (λ k. at n k))
  where
    inside : (b : WireBit) → IsBitOf (widths_of flat.wires) b → value_at (after_steps flat over stim prev steps) b ≡ value_at (after_steps flat over stim prev more) b
    inside b i =
        let widths = widths_of flat.wires in
        subst (λ c. value_at (after_steps flat over stim prev steps) c ≡ value_at (after_steps flat over stim prev more) c) (bit-at_place widths b (bit 0 0) i) (h (place_of widths b) (bit 0 0) (place-below widths b i))

    outside : (b : WireBit) → (IsBitOf (widths_of flat.wires) b → ⊥) → value_at (after_steps flat over stim prev steps) b ≡ value_at (after_steps flat over stim prev more) b
    outside b out = outside-stays flat ok over stim prev b out steps ∙ sym (outside-stays flat ok over stim prev b out more)

    at : (n k : ℕ) → after_steps flat over stim prev steps n k ≡ after_steps flat over stim prev more n k
    at n k = elim (cases_lt n (length (widths_of flat.wires))) [
      | inl lt ↦ elim (cases_lt k (get_or (widths_of flat.wires) n 0)) [
        | inl low ↦ inside (bit n k) (record { wire = lt; place = low })
        | inr high ↦ outside (bit n k) (λ i. let p = i.place in omega (arith, p, high))
      ]
      | inr past ↦ outside (bit n k) (λ i. let w = i.wire in omega (arith, w, past))
    ]

counted : (flat : Flat) → IsArena flat.arena → IsFlat flat → (over : List ℕ) (stim prev : Store) (steps : List ℕ) (count : ℕ) → Changed flat over stim prev steps count
    → count + weights (after_steps flat over stim prev steps) (all_bits (widths_of flat.wires)) ≤ length (all_bits (widths_of flat.wires))
unfolding after_events
counted flat i ok over stim prev [] count none = let e = weights-none (all_bits (widths_of flat.wires)) in omega (arith, e)
counted flat i ok over stim prev (k ∷ before) count (stayed c e) =
    let bits = all_bits (widths_of flat.wires) in
    let h = counted flat i ok over stim prev before count c in
    let w : weights (after_steps flat over stim prev (k ∷ before)) bits ≡ weights (after_steps flat over stim prev before) bits = ap (λ s. weights s bits) e in
    omega (arith, h, w)
counted flat i ok over stim prev (k ∷ before) (suc count) (rose c apart) =
    let bits = all_bits (widths_of flat.wires) in
    let h = counted flat i ok over stim prev before count c in
    let old = after_steps flat over stim prev before in
    let new = after_steps flat over stim prev (k ∷ before) in
    let up : Under old new = steps-raise flat i ok over stim prev before k in
    let q = weights-fall old new up bits in
    elim (cases_lt (weights new bits) (weights old bits)) [
      | inl lt ↦ omega (arith, h, lt)
      | inr le ↦ absurd (apart (sym (same-steps flat ok over stim prev before (k ∷ before) (same-weights old new up bits (omega (arith, q, le))))))
    ]

pub few-change : (flat : Flat) → IsArena flat.arena → IsFlat flat → (over : List ℕ) → FewChange flat over
few-change flat i ok over stim prev steps count c = let h = counted flat i ok over stim prev steps count c in omega (arith, h)
