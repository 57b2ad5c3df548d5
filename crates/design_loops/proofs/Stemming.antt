-- What a driver gives and mentions, its work reaches and names. A value is as wide as its node, since the nodes are an arena; so each bit
-- of a driver's target is given something, and stands among what the work gives.
use Rattle.std.proofs.Common.{◌≡◌, ◌⊎◌, ℕ, ◌<◌, Bool, true, false, ◌||◌, eqb, List, [], ◌∷◌, ◌++◌, length, refl, sym, ◌∙◌, subst, inl, inr, arith}
use Rattle.std.specs.Prelude.{All, Contains, IsTrue, slice_index}
use Rattle.std.proofs.lemmas.Bool.{eqb-true}
use Rattle.std.proofs.lemmas.List.Elements.{All-contains, Contains-append_left, Contains-append_right, Contains-append_cases, Contains-push}
use Rattle.std.proofs.lemmas.List.FromFn.{length-map-range_with_len}
use Rattle.fourvec.specs.declared.Bit.TheVariants.{Unknown}
use Rattle.sv_outside.specs.declared.text.Signal.{Signal}
use Rattle.lhs_alias.specs.declared.segs.WireBit.{WireBit}
use Rattle.lhs_alias.specs.Segs.{lhs_bits}
use Rattle.settling.specs.Settling.{Contribution}
use Rattle.svex_shape.specs.declared.shape.Shape.{Shape}
use Rattle.svex_shape.specs.declared.shape.VarName.TheVariants.{Now}
use Rattle.svex_shape.specs.Values.{value_at, each_variable, HasWidths}
use Rattle.svex_arena.specs.Arenas.{IsArena}
use Rattle.svex_arena.proofs.Widths.{length-value_at}
use Rattle.driver_resolve.specs.declared.driver.Driver.{Driver}
use Rattle.driver_resolve.specs.Drivers.{Phase, bits_in, reading, driver_gives, drivers_give, IsDriver}
use Rattle.net_equations.specs.Groups.{Mentions}
use Rattle.net_order.proofs.Leading.{Passes, passes-step, reached-have}
use Rattle.net_order.proofs.Listing.{var-passes}
use Rattle.sv_meaning.specs.Designs.{Work, reaches, names_now}
use Rattle.sv_elab.specs.Elaborated.{has_number, names_only, Stem, AllStem, none, more}
use Rattle.phase_fsm.proofs.Members.{nothing-in, in-cons, cons-head, cons-tail}
use Rattle.design_loops.proofs.Lists.{in-zip}
use Rattle.design_loops.proofs.Giving.{work-stands}

-- ---- the work of a driver

pub record HasWork (wires : List Signal) (shapes : List Shape) (works : List Work) (d : Driver) : Type 0 where
  pub work : Work
  pub there : Contains works work
  pub own : List Driver
  pub mine : Contains own d
  pub stem : Stem wires shapes work own

pub work-of : (wires : List Signal) (shapes : List Shape) (works : List Work) (all : List Driver) (d : Driver) → AllStem wires shapes works all → Contains all d → HasWork wires shapes works d
work-of wires shapes _ _ d none c = absurd (nothing-in d c)
work-of wires shapes _ _ d (more {before} {w} {drivers} {own} s k) c = pick (Contains-append_cases drivers own d c) (λ earlier. work-of wires shapes before drivers d s earlier)
  where
    pick : Contains drivers d ⊎ Contains own d → (Contains drivers d → HasWork wires shapes before d) → HasWork wires shapes (before ++ w ∷ []) d
    pick (inl earlier) next =
        let h = next earlier in
        record { work = h.work; there = Contains-append_left before (w ∷ []) h.work h.there; own = h.own; mine = h.mine; stem = h.stem }
    pick (inr mine) next = record { work = w; there = Contains-push before w; own = own; mine = mine; stem = k }

-- ---- the bits of its target

no_phase : Phase
no_phase = record { stim = λ n k. Unknown; previous = λ n k. Unknown; present = λ n k. Unknown }

widths-of_phase : (p : Phase) → HasWidths (reading p)
widths-of_phase p = λ name width. length-map-range_with_len (bits_in p name) 0 width

one-gives : (shapes : List Shape) (p : Phase) (all : List Driver) (d : Driver) (c : Contribution) → Contains all d → Contains (driver_gives shapes p d) c → Contains (drivers_give shapes all p) c
unfolding drivers_give
one-gives shapes p [] d c h k = absurd (nothing-in d h)
one-gives shapes p (e ∷ all) d c h k = pick (in-cons e all d h) (λ later. one-gives shapes p all d c later k)
  where
    pick : (e ≡ d) ⊎ Contains all d → (Contains all d → Contains (drivers_give shapes all p) c) → Contains (driver_gives shapes p e ++ drivers_give shapes all p) c
    pick (inl is) next = Contains-append_left (driver_gives shapes p e) (drivers_give shapes all p) c (subst (λ x. Contains (driver_gives shapes p x) c) (sym is) k)
    pick (inr later) next = Contains-append_right (driver_gives shapes p e) (drivers_give shapes all p) c (next later)

pub target-reached : (wires : List Signal) (widths : List ℕ) (shapes : List Shape) (works : List Work) (d : Driver) (b : WireBit) → IsArena shapes → IsDriver widths shapes d
    → Contains (lhs_bits d.target) b → (h : HasWork wires shapes works d) → Contains (reaches h.work) b
target-reached wires widths shapes works d b arena ok c h =
    let p = no_phase in
    let value = value_at (reading p) shapes d.value in
    let long : length (lhs_bits d.target) ≡ length value = sym (length-value_at (reading p) shapes d.value (widths-of_phase p) arena ok.there ∙ ok.wide) in
    let found = in-zip (lhs_bits d.target) value b long c in
    let given : Contains (drivers_give shapes h.own p) (b, found.0) = one-gives shapes p h.own d (b, found.0) h.mine found.1 in
    work-stands h.work p.previous p.present (b, found.0) (subst (λ l. Contains l (b, found.0)) (h.stem.gives p) given)

-- ---- the wires that it mentions

number-in : (n : ℕ) (all : List ℕ) → has_number n all ≡ true → Contains all n
unfolding has_number
number-in n [] h = let f : false ≡ true = h in cc
number-in n (m ∷ all) h = pick (eqb m n) refl h (λ later. number-in n all later)
  where
    pick : (t : Bool) → eqb m n ≡ t → (t || has_number n all) ≡ true → (has_number n all ≡ true → Contains all n) → Contains (m ∷ all) n
    pick true e k next = cons-head m all n (eqb-true m n e)
    pick false e k next = cons-tail m all n (next k)

pub mention-named : (wires : List Signal) (widths : List ℕ) (shapes : List Shape) (works : List Work) (d : Driver) (wire : ℕ) → IsArena shapes → IsDriver widths shapes d
    → Mentions shapes d.value wire → (h : HasWork wires shapes works d) → Contains (names_now wires h.work) wire
mention-named wires widths shapes works d wire arena ok m h =
    let p = names_only (names_now wires h.work) in
    let all : All (λ (x : Driver). IsTrue (each_variable p shapes x.value)) h.own = h.stem.names in
    let here : IsTrue (each_variable p shapes d.value) = All-contains (λ (x : Driver). IsTrue (each_variable p shapes x.value)) h.own d all h.mine in
    let root : Passes p shapes d.value = record { there = ok.there; each = here } in
    let passes : Passes p shapes m.at = reached-have (Passes p shapes) shapes (d.value ∷ []) (λ i lt. only i lt root) (passes-step p shapes arena) m.at m.reached in
    number-in wire (names_now wires h.work) (var-passes p shapes m.at (Now wire) m.width arena passes.there m.is passes.each)
  where
    only : (i : ℕ) → i < length (d.value ∷ []) → Passes (names_only (names_now wires h.work)) shapes d.value → Passes (names_only (names_now wires h.work)) shapes (slice_index (d.value ∷ []) i)
    only i lt r = let first : 0 ≡ i = omega (arith, lt) in subst (λ j. Passes (names_only (names_now wires h.work)) shapes (slice_index (d.value ∷ []) j)) first r
