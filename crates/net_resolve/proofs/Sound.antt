-- The gifts of a flat design: each source has its bit, and each node is the value of a driver of such a bit.
use Rattle.std.proofs.Common.{◌≡◌, ℕ, suc, ◌+◌, ◌<◌, ◌≤◌, Bool, true, false, not, cond, List, [], ◌∷◌, ◌++◌, length, get_or, map, refl, sym, ap, ◌∙◌, subst, arith, add-zero}
use Rattle.std.specs.Prelude.{All, filter}
use Rattle.std.specs.List.{Contains}
use Rattle.std.proofs.lemmas.List.{get_or-map, length-map}
use Rattle.std.proofs.lemmas.List.Elements.{All-head, All-tail, All-nil, All-cons, All-append, All-weaker, All-filter, All-contains, All-contains_itself, Contains-append_left, Contains-append_right, filter_passes}
use Rattle.std.proofs.lemmas.List.FromFn.{length-map-range_with_len}
use Rattle.sv_outside.specs.declared.text.Signal.{Signal}
use Rattle.lhs_alias.specs.declared.segs.WireBit.{WireBit}
use Rattle.lhs_alias.specs.Segs.{bit, lhs_bits}
use Rattle.svex_shape.specs.declared.shape.Shape.{Shape}
use Rattle.driver_resolve.specs.declared.driver.Driver.{Driver}
use Rattle.driver_resolve.specs.Drivers.{wire_bits, widths_of, IsDriver}
use Rattle.flat_net.specs.declared.flat.Flat.{Flat}
use Rattle.flat_net.specs.Flats.{IsFlat, links_of}
use Rattle.event_nets.specs.declared.gift.Gift.{Gift}
use Rattle.event_nets.specs.declared.gift.Source.{Source}
use Rattle.event_nets.specs.declared.gift.Source.TheVariants.{Value, Stimulus}
use Rattle.event_nets.specs.Gifts.{gifts_at, gifts_to, driver_gifts, stimulus_gifts, overriding_gifts, has_gift, left}
use Rattle.event_nets.specs.Tables.{home_of, own_gifts, gifts_of}
use Rattle.event_nets.proofs.Giving.{AreWires, wires-rest, wires-are}
use Rattle.event_nets.proofs.Cutting.{as_inputs, gifts-as_inputs, wires-as_inputs, All-left}
use Rattle.net_resolve.specs.Pieces.{HasSource, source_width, IsWithin}

-- ---- lists

filter-keeps : {X : Type 0} (test : X → Bool) (l : List X) → All (λ x. test x ≡ true → Contains (filter test l) x) l
filter-keeps test [] = All-nil (λ x. test x ≡ true → Contains [] x)
filter-keeps {X} test (z ∷ l) = pick (test z) refl (filter-keeps test l)
  where
    pick : (t : Bool) → test z ≡ t → All (λ x. test x ≡ true → Contains (filter test l) x) l → All (λ x. test x ≡ true → Contains (cond t (z ∷ filter test l) (filter test l)) x) (z ∷ l)
    pick true e h =
        All-cons (λ x. test x ≡ true → Contains (z ∷ filter test l) x) z l (λ k. (0, omega arith, refl))
        (All-weaker (λ x. test x ≡ true → Contains (filter test l) x) (λ x. test x ≡ true → Contains (z ∷ filter test l) x) (λ x here k. let c = here k in (suc c.0, omega (arith, c.1), c.2)) l h)
    pick false e h = All-cons (λ x. test x ≡ true → Contains (filter test l) x) z l (λ k. absurd (let f : true ≡ false = sym k ∙ e in cc)) h

pub in-filter : {X : Type 0} (test : X → Bool) (l : List X) (x : X) → Contains l x → test x ≡ true → Contains (filter test l) x
in-filter test l x c = All-contains (λ y. test y ≡ true → Contains (filter test l) y) l x (filter-keeps test l) c

-- what is true of each mapped element
All-of_map : {X Y : Type 0} (P : Y → Type 0) (f : X → Y) (l : List X) → All P (map f l) → All (λ x. P (f x)) l
All-of_map P f l h i d lt = subst P (get_or-map f l i d (f d) lt) (h i (f d) (omega (arith, lt, length-map l f)))

-- ---- sources have their bits

gifts-within : (widths : List ℕ) (shapes : List Shape) (from : Source) (at : ℕ) (places : List ℕ) → HasSource widths shapes from → at + length places ≤ source_width widths shapes from
    → All (IsWithin widths shapes 1) (gifts_at from at places)
unfolding gifts_at
gifts-within widths shapes from at [] h e = All-nil (IsWithin widths shapes 1)
gifts-within widths shapes from at (to ∷ more) h e =
    All-cons (IsWithin widths shapes 1) _ (gifts_at from (suc at) more) (record { source = h; ends = omega (arith, e) }) (gifts-within widths shapes from (suc at) more h (omega (arith, e)))

drivers-within : (widths : List ℕ) (shapes : List Shape) (home : WireBit → ℕ) (drivers : List Driver) → All (IsDriver widths shapes) drivers → All (IsWithin widths shapes 1) (driver_gifts home drivers)
unfolding driver_gifts
drivers-within widths shapes home [] ok = All-nil (IsWithin widths shapes 1)
drivers-within widths shapes home (d ∷ more) ok =
    let here = All-head (IsDriver widths shapes) d more ok in
    let wide = here.wide in
    All-append (IsWithin widths shapes 1) (gifts_to home (Value d.value) 0 (lhs_bits d.target)) (driver_gifts home more)
    (gifts-within widths shapes (Value d.value) 0 (map home (lhs_bits d.target)) (here.there, here.mentions) (omega (arith, wide, length-map (lhs_bits d.target) home)))
    (drivers-within widths shapes home more (All-tail (IsDriver widths shapes) d more ok))

chosen-within : (widths : List ℕ) (shapes : List Shape) (home : WireBit → ℕ) (n w : ℕ) (t : Bool) → n < length widths → w ≤ get_or widths n 0
    → All (IsWithin widths shapes 1) (cond t (gifts_to home (Stimulus n) 0 (wire_bits n w)) [])
chosen-within widths shapes home n w true lt e =
    gifts-within widths shapes (Stimulus n) 0 (map home (wire_bits n w)) lt (omega (arith, e, length-map (wire_bits n w) home, length-map-range_with_len (bit n) 0 w))
chosen-within widths shapes home n w false lt e = All-nil (IsWithin widths shapes 1)

stimuli-within : (widths : List ℕ) (shapes : List Shape) (home : WireBit → ℕ) (n : ℕ) (wires : List Signal) → AreWires widths n wires → All (IsWithin widths shapes 1) (stimulus_gifts home n wires)
unfolding stimulus_gifts
stimuli-within widths shapes home n [] h = All-nil (IsWithin widths shapes 1)
stimuli-within widths shapes home n (s ∷ more) h =
    let first = h.is 0 s (omega arith) in
    let there = first.0 in
    let wide : get_or widths n 0 ≡ s.width = ap (λ j. get_or widths j 0) (sym (add-zero n)) ∙ first.1 in
    All-append (IsWithin widths shapes 1) (cond s.input (gifts_to home (Stimulus n) 0 (wire_bits n s.width)) []) (stimulus_gifts home (suc n) more)
    (chosen-within widths shapes home n s.width s.input (omega (arith, there)) (omega (arith, wide)))
    (stimuli-within widths shapes home (suc n) more (wires-rest widths n s more h))

pub all-within : (flat : Flat) → IsFlat flat → (over : List ℕ) → All (IsWithin (widths_of flat.wires) flat.arena 1) (gifts_of flat over)
all-within flat ok over =
    let widths = widths_of flat.wires in
    let home = home_of (links_of flat.joins) widths in
    let P : Gift → Type 0 = IsWithin widths flat.arena 1 in
    All-left P (overriding_gifts home 0 flat.wires over) (own_gifts flat)
    (subst (λ l. All P l) (sym (gifts-as_inputs home 0 flat.wires over)) (stimuli-within widths flat.arena home 0 (as_inputs 0 flat.wires over) (wires-as_inputs flat.wires over)))
    (All-append P (driver_gifts home flat.drivers) (stimulus_gifts home 0 flat.wires)
    (drivers-within widths flat.arena home flat.drivers ok.drivers) (stimuli-within widths flat.arena home 0 flat.wires (wires-are flat.wires)))

-- ---- what drivers give

-- a gift of a source to a place
pub record IsGiven (from : Source) (gifts : List Gift) (to : ℕ) : Type 0 where
  pub gift : Gift
  pub stands : Contains gifts gift
  pub from_is : gift.from ≡ from
  pub to_is : gift.to ≡ to

given-behind : (from : Source) (g : Gift) (gifts : List Gift) (to : ℕ) → IsGiven from gifts to → IsGiven from (g ∷ gifts) to
given-behind from g gifts to h = record {
  gift = h.gift;
  stands = let c = h.stands in (suc c.0, omega (arith, c.1), c.2);
  from_is = h.from_is;
  to_is = h.to_is;
}

places-given : (from : Source) (at : ℕ) (places : List ℕ) → All (IsGiven from (gifts_at from at places)) places
unfolding gifts_at
places-given from at [] = All-nil (IsGiven from [])
places-given from at (to ∷ more) =
    let g : Gift = record { to = to; from = from; at = at } in
    let rest = gifts_at from (suc at) more in
    All-cons (IsGiven from (g ∷ rest)) to more (record { gift = g; stands = (0, omega arith, refl); from_is = refl; to_is = refl })
    (All-weaker (IsGiven from rest) (IsGiven from (g ∷ rest)) (given-behind from g rest) more (places-given from (suc at) more))

-- a driver gives its value to the class of each bit of its target
abbrev pub GivesAll : (WireBit → ℕ) → List Gift → Driver → Type 0
GivesAll home gifts d = All (λ b. IsGiven (Value d.value) gifts (home b)) (lhs_bits d.target)

given-left : (from : Source) (a b : List Gift) (to : ℕ) → IsGiven from a to → IsGiven from (a ++ b) to
given-left from a b to h = record { gift = h.gift; stands = Contains-append_left a b h.gift h.stands; from_is = h.from_is; to_is = h.to_is }

given-right : (from : Source) (a b : List Gift) (to : ℕ) → IsGiven from b to → IsGiven from (a ++ b) to
given-right from a b to h = record { gift = h.gift; stands = Contains-append_right a b h.gift h.stands; from_is = h.from_is; to_is = h.to_is }

drivers-give_all : (home : WireBit → ℕ) (drivers : List Driver) → All (GivesAll home (driver_gifts home drivers)) drivers
unfolding driver_gifts
drivers-give_all home [] = All-nil (GivesAll home [])
drivers-give_all home (d ∷ more) =
    let own = gifts_to home (Value d.value) 0 (lhs_bits d.target) in
    let rest = driver_gifts home more in
    let P : WireBit → Type 0 = λ b. IsGiven (Value d.value) own (home b) in
    let Q : WireBit → Type 0 = λ b. IsGiven (Value d.value) (own ++ rest) (home b) in
    All-cons (GivesAll home (own ++ rest)) d more
    (All-weaker P Q (λ b. given-left (Value d.value) own rest (home b)) (lhs_bits d.target)
    (All-of_map (IsGiven (Value d.value) own) home (lhs_bits d.target) (places-given (Value d.value) 0 (map home (lhs_bits d.target)))))
    (All-weaker (GivesAll home rest) (GivesAll home (own ++ rest))
    (λ x h. All-weaker (λ b. IsGiven (Value x.value) rest (home b)) (λ b. IsGiven (Value x.value) (own ++ rest) (home b)) (λ b. given-right (Value x.value) own rest (home b)) (lhs_bits x.target) h)
    more (drivers-give_all home more))

-- and so where its class is not overridden
pub kept-given : (flat : Flat) (over : List ℕ) (d : Driver) (b : WireBit) → Contains flat.drivers d → Contains (lhs_bits d.target) b
    → has_gift (overriding_gifts (home_of (links_of flat.joins) (widths_of flat.wires)) 0 flat.wires over) (home_of (links_of flat.joins) (widths_of flat.wires) b) ≡ false
    → IsGiven (Value d.value) (gifts_of flat over) (home_of (links_of flat.joins) (widths_of flat.wires) b)
unfolding left
kept-given flat over d b stands drives none =
    let home = home_of (links_of flat.joins) (widths_of flat.wires) in
    let set = overriding_gifts home 0 flat.wires over in
    let own = own_gifts flat in
    let drivers = driver_gifts home flat.drivers in
    let kept : Gift → Bool = λ g. not (has_gift set g.to) in
    let all : All (λ c. IsGiven (Value d.value) drivers (home c)) (lhs_bits d.target) = All-contains (GivesAll home drivers) flat.drivers d (drivers-give_all home flat.drivers) stands in
    let h : IsGiven (Value d.value) drivers (home b) = All-contains (λ c. IsGiven (Value d.value) drivers (home c)) (lhs_bits d.target) b all drives in
    let passes : kept h.gift ≡ true = ap (λ k. not (has_gift set k)) h.to_is ∙ ap not none in
    record {
      gift = h.gift;
      stands = Contains-append_left (filter kept own) set h.gift (in-filter kept own h.gift (Contains-append_left drivers (stimulus_gifts home 0 flat.wires) h.gift h.stands) passes);
      from_is = h.from_is;
      to_is = h.to_is;
    }

-- ---- where nodes come from

-- a driver with this value, and a bit of its target whose class has this place
pub record Origin (home : WireBit → ℕ) (drivers : List Driver) (to node : ℕ) : Type 0 where
  pub driver : Driver
  pub stands : Contains drivers driver
  pub value : driver.value ≡ node
  pub target : WireBit
  pub drives : Contains (lhs_bits driver.target) target
  pub home_is : home target ≡ to

abbrev HasOrigin : (WireBit → ℕ) → List Driver → Gift → Type 0
HasOrigin home drivers g = (k : ℕ) → g.from ≡ Value k → Origin home drivers g.to k

-- a gift of a source to the class of one of these bits
record IsTo (home : WireBit → ℕ) (from : Source) (all : List WireBit) (g : Gift) : Type 0 where
  pub from_is : g.from ≡ from
  pub target : WireBit
  pub inside : Contains all target
  pub home_is : home target ≡ g.to

gifts-to : (home : WireBit → ℕ) (from : Source) (at : ℕ) (all bits : List WireBit) → All (Contains all) bits → All (IsTo home from all) (gifts_to home from at bits)
unfolding gifts_at
gifts-to home from at all [] h = All-nil (IsTo home from all)
gifts-to home from at all (b ∷ bits) h =
    All-cons (IsTo home from all) _ (gifts_to home from (suc at) bits)
    (record { from_is = refl; target = b; inside = All-head (Contains all) b bits h; home_is = refl }) (gifts-to home from (suc at) all bits (All-tail (Contains all) b bits h))

pub same-value : (j k : ℕ) → (let s : Source = Value j in s) ≡ Value k → j ≡ k
same-value j k e = ap node e
  where
    node : Source → ℕ
    node (Value n) = n
    node (Stimulus n) = 0

pub no-value : {X : Type 0} (n k : ℕ) → (let s : Source = Stimulus n in s) ≡ Value k → X
no-value n k e = cc

drivers-origin : (home : WireBit → ℕ) (all drivers : List Driver) → All (Contains all) drivers → All (HasOrigin home all) (driver_gifts home drivers)
unfolding driver_gifts
drivers-origin home all [] h = All-nil (HasOrigin home all)
drivers-origin home all (d ∷ more) h =
    All-append (HasOrigin home all) (gifts_to home (Value d.value) 0 (lhs_bits d.target)) (driver_gifts home more)
    (All-weaker (IsTo home (Value d.value) (lhs_bits d.target)) (HasOrigin home all)
    (λ g x k e. record {
      driver = d;
      stands = All-head (Contains all) d more h;
      value = same-value d.value k (sym x.from_is ∙ e);
      target = x.target;
      drives = x.inside;
      home_is = x.home_is;
    })
    (gifts_to home (Value d.value) 0 (lhs_bits d.target)) (gifts-to home (Value d.value) 0 (lhs_bits d.target) (lhs_bits d.target) (All-contains_itself (lhs_bits d.target))))
    (drivers-origin home all more (All-tail (Contains all) d more h))

-- no gift of a stimulus is a node's
abbrev IsNoNode : Gift → Type 0
IsNoNode g = (k : ℕ) → g.from ≡ Value k → ⊥

chosen-none : (home : WireBit → ℕ) (n w : ℕ) (t : Bool) → All IsNoNode (cond t (gifts_to home (Stimulus n) 0 (wire_bits n w)) [])
chosen-none home n w true =
    All-weaker (IsTo home (Stimulus n) (wire_bits n w)) IsNoNode (λ g x k e. no-value n k (sym x.from_is ∙ e)) (gifts_to home (Stimulus n) 0 (wire_bits n w))
    (gifts-to home (Stimulus n) 0 (wire_bits n w) (wire_bits n w) (All-contains_itself (wire_bits n w)))
chosen-none home n w false = All-nil IsNoNode

stimuli-none : (home : WireBit → ℕ) (n : ℕ) (wires : List Signal) → All IsNoNode (stimulus_gifts home n wires)
unfolding stimulus_gifts
stimuli-none home n [] = All-nil IsNoNode
stimuli-none home n (s ∷ more) =
    All-append IsNoNode (cond s.input (gifts_to home (Stimulus n) 0 (wire_bits n s.width)) []) (stimulus_gifts home (suc n) more) (chosen-none home n s.width s.input) (stimuli-none home (suc n) more)

own-origin : (home : WireBit → ℕ) (flat : Flat) → All (HasOrigin home flat.drivers) (driver_gifts home flat.drivers ++ stimulus_gifts home 0 flat.wires)
own-origin home flat =
    All-append (HasOrigin home flat.drivers) (driver_gifts home flat.drivers) (stimulus_gifts home 0 flat.wires)
    (drivers-origin home flat.drivers flat.drivers (All-contains_itself flat.drivers))
    (All-weaker IsNoNode (HasOrigin home flat.drivers) (λ g x k e. absurd (x k e)) (stimulus_gifts home 0 flat.wires) (stimuli-none home 0 flat.wires))

-- the class of a node's gift is not overridden
abbrev pub HasKeptOrigin : (WireBit → ℕ) → List Driver → List Gift → Gift → Type 0
HasKeptOrigin home drivers over g = (k : ℕ) → g.from ≡ Value k → Origin home drivers g.to k × (has_gift over g.to ≡ false)

pub all-origin : (flat : Flat) (over : List ℕ)
    → All (HasKeptOrigin (home_of (links_of flat.joins) (widths_of flat.wires)) flat.drivers (overriding_gifts (home_of (links_of flat.joins) (widths_of flat.wires)) 0 flat.wires over)) (gifts_of flat over)
unfolding left
all-origin flat over =
    let home = home_of (links_of flat.joins) (widths_of flat.wires) in
    let set = overriding_gifts home 0 flat.wires over in
    let own = own_gifts flat in
    let kept : Gift → Bool = λ g. not (has_gift set g.to) in
    let P : Gift → Type 0 = HasKeptOrigin home flat.drivers set in
    All-append P (filter kept own) set
    (λ i d lt k e. (All-filter kept (HasOrigin home flat.drivers) own (own-origin home flat) i d lt k e, off (has_gift set (get_or (filter kept own) i d).to) (filter_passes kept own i d lt)))
    (All-weaker IsNoNode P (λ g x k e. absurd (x k e)) set (subst (λ l. All IsNoNode l) (sym (gifts-as_inputs home 0 flat.wires over)) (stimuli-none home 0 (as_inputs 0 flat.wires over))))
  where
    off : (t : Bool) → not t ≡ true → t ≡ false
    off true e = cc
    off false e = refl
