-- The gifts of a flat design give to each class what is given to it in a phase.
use Rattle.std.proofs.Common.{◌≡◌, ℕ, suc, ◌<◌, Bool, true, false, not, cond, eqb, ◌&&◌, ◌||◌, List, [], ◌∷◌, ◌++◌, length, get_or, map, refl, sym, ap, ◌∙◌, subst, zero-add, add-zero}
use Rattle.std.specs.Prelude.{All, filter}
use Rattle.std.specs.List.{list_any, range_with_len}
use Rattle.std.proofs.lemmas.Bool.{eq-eqb}
use Rattle.std.proofs.lemmas.List.Elements.{All-weaker}
use Rattle.std.proofs.lemmas.List.FromFn.{get_or-map-range_with_len}
use Rattle.fourvec.specs.declared.Bit.TheVariants.{Unknown}
use Rattle.sv_outside.specs.declared.text.Signal.{Signal}
use Rattle.lhs_alias.specs.declared.segs.WireBit.{WireBit}
use Rattle.lhs_alias.specs.Lies.{IsBitOf}
use Rattle.lhs_alias.specs.Joined.{all_bits, place_of}
use Rattle.lhs_alias.proofs.Row.{place-below}
use Rattle.settling.specs.Settling.{Link, Contribution, value_at as value_in_store, first_bit, is_one_class, given_to}
use Rattle.settling.specs.Overriding.{is_given, overridden}
use Rattle.settling.proofs.Overriding.{given_to-append, overriding_tells}
use Rattle.svex_shape.specs.declared.shape.VarName.TheVariants.{Stim}
use Rattle.svex_shape.specs.declared.shape.Shape.{Shape}
use Rattle.svex_shape.specs.Values.{Vector, value_at}
use Rattle.svex_arena.specs.Arenas.{IsArena}
use Rattle.svex_arena.proofs.Widths.{length-value_at}
use Rattle.driver_resolve.specs.declared.driver.Driver.{Driver}
use Rattle.driver_resolve.specs.Drivers.{Phase, reading, drivers_give, stimuli_from, overriding_from, wire_bits, widths_of, IsDriver}
use Rattle.flat_net.specs.declared.flat.Flat.{Flat}
use Rattle.flat_net.specs.Flats.{IsFlat, links_of, given}
use Rattle.event_nets.specs.declared.gift.Gift.{Gift}
use Rattle.event_nets.specs.declared.gift.Source.{Source}
use Rattle.event_nets.specs.declared.gift.Source.TheVariants.{Value, Stimulus}
use Rattle.event_nets.specs.Gifts.{source_in, gift_bit, given_at, driver_gifts, stimulus_gifts, overriding_gifts, has_gift}
use Rattle.event_nets.specs.Nets.{is_net_bit}
use Rattle.event_nets.specs.Tables.{store_of, home_of, homes_of, own_gifts, gifts_of}
use Rattle.event_nets.proofs.Homes.{links-inside, home-at}
use Rattle.event_nets.proofs.Giving.{AreInside, inside-append, given_at-append, HasDriverValues, drivers-give, drivers-inside, AreWires, wires-rest, wire-lies, wires-are, stimuli-give, stimuli-inside, none-outside}
use Rattle.event_nets.proofs.Cutting.{as_inputs, gifts-as_inputs, from-as_inputs, wires-as_inputs, given-left}
use Rattle.event_nets.proofs.FlatNets.{AreNetTables, net-is}
use Rattle.event_nets.proofs.NetPlaces.{map-same}
use Rattle.net_resolve.specs.Pieces.{HasSource, source_value, bit_of}
use Rattle.net_resolve.proofs.Making.{phase-widths}

-- ---- the vectors of a phase

-- the values of all nodes
abbrev pub values_in : List Shape → Phase → List Vector
values_in shapes p = map (value_at (reading p) shapes) (range_with_len 0 (length shapes))

-- the stimuli of all wires
abbrev pub stimuli_in : List ℕ → Phase → List Vector
stimuli_in widths p = map (λ n. reading p (Stim n) (get_or widths n 0)) (range_with_len 0 (length widths))

value-there : (shapes : List Shape) (p : Phase) (k : ℕ) → k < length shapes → get_or (values_in shapes p) k [] ≡ value_at (reading p) shapes k
value-there shapes p k lt = get_or-map-range_with_len (value_at (reading p) shapes) 0 (length shapes) k k [] lt (zero-add k)

stimulus-there : (widths : List ℕ) (p : Phase) (n : ℕ) → n < length widths → get_or (stimuli_in widths p) n [] ≡ reading p (Stim n) (get_or widths n 0)
stimulus-there widths p n lt = get_or-map-range_with_len (λ m. reading p (Stim m) (get_or widths m 0)) 0 (length widths) n n [] lt (zero-add n)

source-same : (widths : List ℕ) (shapes : List Shape) (p : Phase) (from : Source) → HasSource widths shapes from → source_in (values_in shapes p) (stimuli_in widths p) from ≡ source_value widths shapes from p
source-same widths shapes p (Value k) h = value-there shapes p k h.0
source-same widths shapes p (Stimulus n) h = stimulus-there widths p n h

pub gift-same : (widths : List ℕ) (shapes : List Shape) (p : Phase) (g : Gift) → HasSource widths shapes g.from → gift_bit (values_in shapes p) (stimuli_in widths p) g ≡ bit_of widths shapes p 0 g
gift-same widths shapes p g h = ap (λ v. get_or v g.at Unknown) (source-same widths shapes p g.from h) ∙ ap (λ k. get_or (source_value widths shapes g.from p) k Unknown) (sym (add-zero g.at))

drivers-have : (widths : List ℕ) (shapes : List Shape) (p : Phase) → IsArena shapes → (drivers : List Driver) → All (IsDriver widths shapes) drivers → All (HasDriverValues shapes p (values_in shapes p)) drivers
drivers-have widths shapes p a drivers ok =
    All-weaker (IsDriver widths shapes) (HasDriverValues shapes p (values_in shapes p))
    (λ d i. record {
      is = value-there shapes p d.value i.there;
      wide = ap (λ v. length v) (value-there shapes p d.value i.there) ∙ length-value_at (reading p) shapes d.value (phase-widths p) a i.there ∙ i.wide;
    })
    drivers ok

-- ---- stimuli at bits of the wires

store-same : (widths : List ℕ) (p : Phase) (b : WireBit) → IsBitOf widths b → value_in_store (store_of (stimuli_in widths p)) b ≡ value_in_store p.stim b
store-same widths p b i =
    ap (λ v. get_or v b.at Unknown) (stimulus-there widths p b.wire i.wire)
    ∙ get_or-map-range_with_len (p.stim b.wire) 0 (get_or widths b.wire 0) b.at b.at Unknown i.place (zero-add b.at)

chosen-same : (widths : List ℕ) (p : Phase) (bits : List WireBit) (t : Bool) → All (IsBitOf widths) bits
    → (let l : List Contribution = cond t (map (λ b. (b, value_in_store (store_of (stimuli_in widths p)) b)) bits) [] in l) ≡ cond t (map (λ b. (b, value_in_store p.stim b)) bits) []
chosen-same widths p bits true h =
    let f : WireBit → Contribution = λ b. (b, value_in_store (store_of (stimuli_in widths p)) b) in
    let g : WireBit → Contribution = λ b. (b, value_in_store p.stim b) in
    map-same (IsBitOf widths) f g (λ b i j. (b, store-same widths p b i j)) bits h
chosen-same widths p bits false h = refl

stimuli-same : (widths : List ℕ) (p : Phase) (n : ℕ) (wires : List Signal) → AreWires widths n wires → stimuli_from n wires (store_of (stimuli_in widths p)) ≡ stimuli_from n wires p.stim
unfolding stimuli_from
stimuli-same widths p n [] h = refl
stimuli-same widths p n (s ∷ more) h =
    ap (λ l. l ++ stimuli_from (suc n) more (store_of (stimuli_in widths p))) (chosen-same widths p (wire_bits n s.width) s.input (wire-lies widths n s more h))
    ∙ ap (λ l. cond s.input (map (λ b. (b, value_in_store p.stim b)) (wire_bits n s.width)) [] ++ l) (stimuli-same widths p (suc n) more (wires-rest widths n s more h))

-- ---- what classes are given

own-give : (flat : Flat) → IsArena flat.arena → IsFlat flat → (p : Phase) (b : WireBit) → IsBitOf (widths_of flat.wires) b
    → given_at (values_in flat.arena p) (stimuli_in (widths_of flat.wires) p) (home_of (links_of flat.joins) (widths_of flat.wires) b) (own_gifts flat)
    ≡ given_to (links_of flat.joins) b (drivers_give flat.arena flat.drivers p ++ stimuli_from 0 flat.wires p.stim)
own-give flat a ok p b ib =
    let widths = widths_of flat.wires in
    let links = links_of flat.joins in
    let home = home_of links widths in
    let inside = links-inside widths flat.joins ok.joins in
    let values = values_in flat.arena p in
    let stim = stimuli_in widths p in
    given_at-append values stim (home b) (driver_gifts home flat.drivers) (stimulus_gifts home 0 flat.wires)
    ∙ ap (λ l. l ++ given_at values stim (home b) (stimulus_gifts home 0 flat.wires)) (drivers-give widths links inside flat.arena p values stim b ib flat.drivers ok.drivers (drivers-have widths flat.arena p a flat.drivers ok.drivers))
    ∙ ap (λ l. given_to links b (drivers_give flat.arena flat.drivers p) ++ l)
    (stimuli-give widths links inside values stim b ib 0 flat.wires (wires-are flat.wires) ∙ ap (λ l. given_to links b l) (stimuli-same widths p 0 flat.wires (wires-are flat.wires)))
    ∙ sym (given_to-append links b (drivers_give flat.arena flat.drivers p) (stimuli_from 0 flat.wires p.stim))

overriding-give : (flat : Flat) → IsFlat flat → (over : List ℕ) (p : Phase) (b : WireBit) → IsBitOf (widths_of flat.wires) b
    → given_at (values_in flat.arena p) (stimuli_in (widths_of flat.wires) p) (home_of (links_of flat.joins) (widths_of flat.wires) b) (overriding_gifts (home_of (links_of flat.joins) (widths_of flat.wires)) 0 flat.wires over)
    ≡ given_to (links_of flat.joins) b (overriding_from 0 flat.wires over p.stim)
overriding-give flat ok over p b ib =
    let widths = widths_of flat.wires in
    let links = links_of flat.joins in
    let home = home_of links widths in
    let values = values_in flat.arena p in
    let stim = stimuli_in widths p in
    let wires = as_inputs 0 flat.wires over in
    ap (λ l. given_at values stim (home b) l) (gifts-as_inputs home 0 flat.wires over)
    ∙ stimuli-give widths links (links-inside widths flat.joins ok.joins) values stim b ib 0 wires (wires-as_inputs flat.wires over)
    ∙ ap (λ l. given_to links b l) (stimuli-same widths p 0 wires (wires-as_inputs flat.wires over) ∙ sym (from-as_inputs 0 flat.wires over p.stim))

abbrev pub has_some : {X : Type 0} → List X → Bool
has_some [] = false
has_some (x ∷ l) = true

pub none-there : {X : Type 0} (l : List X) → has_some l ≡ false → l ≡ []
none-there [] e = refl
none-there (x ∷ l) e = let k : true ≡ false = e in cc

some-any : {X : Type 0} (p : X → Bool) (l : List X) → list_any p l ≡ has_some (filter p l)
some-any p [] = refl
some-any p (x ∷ l) = pick (p x) (some-any p l)
  where
    pick : (t : Bool) → list_any p l ≡ has_some (filter p l) → (t || list_any p l) ≡ has_some (cond t (x ∷ filter p l) (filter p l))
    pick true r = refl
    pick false r = r

some-map : {X Y : Type 0} (f : X → Y) (l : List X) → has_some (map f l) ≡ has_some l
some-map f [] = refl
some-map f (x ∷ l) = refl

-- a class has a gift exactly where the gifts give it something
pub some-given : (values stim : List Vector) (place : ℕ) (gifts : List Gift) → has_gift gifts place ≡ has_some (given_at values stim place gifts)
some-given values stim place gifts =
    some-any (λ (g : Gift). eqb g.to place) gifts ∙ sym (some-map (λ (g : Gift). gift_bit values stim g) (filter (λ (g : Gift). eqb g.to place) gifts))

given-some : (links : List Link) (b : WireBit) (all : List Contribution) → is_given links all b ≡ has_some (given_to links b all)
given-some links b all =
    some-any (λ (c : Contribution). is_one_class links c.0 b) all ∙ sym (some-map (λ (c : Contribution). c.1) (filter (λ (c : Contribution). is_one_class links c.0 b) all))

-- the gifts to a class are what is given to it
pub gifts-give : (flat : Flat) → IsArena flat.arena → IsFlat flat → (over : List ℕ) (p : Phase) (b : WireBit) → IsBitOf (widths_of flat.wires) b
    → given_at (values_in flat.arena p) (stimuli_in (widths_of flat.wires) p) (home_of (links_of flat.joins) (widths_of flat.wires) b) (gifts_of flat over) ≡ given_to (links_of flat.joins) b (given flat over p)
gifts-give flat a ok over p b ib =
    let widths = widths_of flat.wires in
    let links = links_of flat.joins in
    let home = home_of links widths in
    let values = values_in flat.arena p in
    let stim = stimuli_in widths p in
    let gifts = overriding_gifts home 0 flat.wires over in
    let from = overriding_from 0 flat.wires over p.stim in
    let all = drivers_give flat.arena flat.drivers p ++ stimuli_from 0 flat.wires p.stim in
    let set = overriding-give flat ok over p b ib in
    given-left values stim gifts (own_gifts flat) (home b)
    ∙ ap (λ t. cond t (given_at values stim (home b) gifts) (given_at values stim (home b) (own_gifts flat))) (some-given values stim (home b) gifts ∙ ap (λ l. has_some l) set ∙ sym (given-some links b from))
    ∙ ap (λ l. cond (is_given links from b) l (given_at values stim (home b) (own_gifts flat))) set
    ∙ ap (λ l. cond (is_given links from b) (given_to links b from) l) (own-give flat a ok p b ib)
    ∙ sym (overriding_tells links from all b)

-- ---- outside of the wires

inside-filter : (widths : List ℕ) (p : Contribution → Bool) (all : List Contribution) → AreInside widths all → AreInside widths (filter p all)
inside-filter widths p [] h = tt
inside-filter widths p (c ∷ all) h = pick (p c) (inside-filter widths p all h.1)
  where
    pick : (t : Bool) → AreInside widths (filter p all) → AreInside widths (cond t (c ∷ filter p all) (filter p all))
    pick true r = (h.0, r)
    pick false r = r

given-inside : (flat : Flat) → IsArena flat.arena → IsFlat flat → (over : List ℕ) (p : Phase) → AreInside (widths_of flat.wires) (given flat over p)
unfolding overridden
given-inside flat a ok over p =
    let widths = widths_of flat.wires in
    let links = links_of flat.joins in
    let stim = stimuli_in widths p in
    let wires = as_inputs 0 flat.wires over in
    let from = overriding_from 0 flat.wires over p.stim in
    let own = stimuli_from 0 flat.wires p.stim in
    let all = drivers_give flat.arena flat.drivers p ++ own in
    inside-append widths (filter (λ c. not (is_given links from c.0)) all) from
    (inside-filter widths (λ c. not (is_given links from c.0)) all
    (inside-append widths (drivers_give flat.arena flat.drivers p) own
    (drivers-inside widths flat.arena p (values_in flat.arena p) flat.drivers ok.drivers (drivers-have widths flat.arena p a flat.drivers ok.drivers))
    (subst (λ l. AreInside widths l) (stimuli-same widths p 0 flat.wires (wires-are flat.wires)) (stimuli-inside widths stim 0 flat.wires (wires-are flat.wires)))))
    (subst (λ l. AreInside widths l) (stimuli-same widths p 0 wires (wires-as_inputs flat.wires over) ∙ sym (from-as_inputs 0 flat.wires over p.stim)) (stimuli-inside widths stim 0 wires (wires-as_inputs flat.wires over)))

pub outside-none : (flat : Flat) → IsArena flat.arena → IsFlat flat → (over : List ℕ) (p : Phase) (b : WireBit) → (IsBitOf (widths_of flat.wires) b → ⊥) → given_to (links_of flat.joins) b (given flat over p) ≡ []
outside-none flat a ok over p b out =
    none-outside (widths_of flat.wires) (links_of flat.joins) (links-inside (widths_of flat.wires) flat.joins ok.joins) b out (given flat over p) (given-inside flat a ok over p)

-- ---- first bits

-- a first bit has a gift exactly where it lies in a net
pub net-given : (flat : Flat) → IsFlat flat → (over : List ℕ) (f : WireBit) → IsBitOf (widths_of flat.wires) f → first_bit (links_of flat.joins) f ≡ f
    → has_gift (gifts_of flat over) (place_of (widths_of flat.wires) f) ≡ is_net_bit flat over f
net-given flat ok over f i own =
    let widths = widths_of flat.wires in
    let home = home_of (links_of flat.joins) widths in
    let n = length (all_bits widths) in
    let gifts = gifts_of flat over in
    let driven : List Bool = map (has_gift gifts) (range_with_len 0 n) in
    let at : (k : ℕ) → k < n → get_or driven k false ≡ has_gift gifts k = λ k lt. get_or-map-range_with_len (has_gift gifts) 0 n k k false lt (zero-add k) in
    let tables : AreNetTables flat over (homes_of flat) driven gifts = record { homes_are = refl; gifts_are = refl; driven_are = at } in
    let place = place_of widths f in
    let here : eqb (get_or (homes_of flat) place 0) place ≡ true = eq-eqb (get_or (homes_of flat) place 0) place (home-at widths home f i ∙ ap (λ x. place_of widths x) own) in
    sym (at place (place-below widths f i)) ∙ ap (λ t. t && get_or driven place false) (sym here) ∙ net-is flat ok over (homes_of flat) driven gifts tables f i
