-- The tables of a flat design, made step by step.
use Rattle.std.specs.Prelude.{All}
use Rattle.std.proofs.Common.{◌≡◌, ℕ, suc, ◌+◌, ◌<◌, ◌≤◌, Bool, true, false, cond, leb, ◌||◌, List, [], ◌∷◌, ◌++◌, length, get_or, map, take, refl, sym, ap, ◌∙◌, subst, arith, append_assoc, add-zero}
use Rattle.std.specs.List.{zip, AllZip}
use Rattle.std.proofs.lemmas.Bool.{leb-true, leb-false}
use Rattle.std.proofs.lemmas.List.{take_more, get_or-map, ext_get_or, length-map, length-take}
use Rattle.std.proofs.lemmas.List.Elements.{AllZip-get_or}
use Rattle.std.proofs.lemmas.Slice.Zip.{AllZip-long}
use Rattle.sv_outside.specs.declared.text.Signal.{Signal}
use Rattle.lhs_alias.specs.declared.segs.Seg.{Seg}
use Rattle.lhs_alias.specs.declared.segs.WireBit.{WireBit}
use Rattle.lhs_alias.specs.Segs.{bit, seg_bits, lhs_bits}
use Rattle.lhs_alias.specs.Lies.{IsBitOf, LieIn}
use Rattle.lhs_alias.specs.Pairs.{IsFirst}
use Rattle.lhs_alias.specs.Joined.{Kept, Stands, HasPlace, place_in, place_of, starts_of}
use Rattle.lhs_alias.proofs.Chains.{first-unique}
use Rattle.lhs_alias.proofs.Row.{place_in-starts_of}
use Rattle.lhs_alias.proofs.SegBits.{get_or-seg_bits, length-seg_bits}
use Rattle.settling.specs.Settling.{Link, first_bit, same_bit, lesser}
use Rattle.settling.proofs.Classes.{joined-first, first-joined, same-name}
use Rattle.driver_resolve.specs.declared.driver.Driver.{Driver}
use Rattle.driver_resolve.specs.Drivers.{wire_bits}
use Rattle.flat_net.specs.declared.flat.Join.{Join}
use Rattle.flat_net.specs.Flats.{links_of}
use Rattle.event_nets.specs.declared.gift.Gift.{Gift}
use Rattle.event_nets.specs.declared.gift.Source.{Source}
use Rattle.event_nets.specs.declared.gift.Source.TheVariants.{Value, Stimulus}
use Rattle.event_nets.specs.Gifts.{gifts_at, gifts_to, driver_gifts, stimulus_gifts}
use Rattle.event_nets.specs.Tables.{home_of}

-- ---- joins

pub links-append : (a b : List Join) → links_of (a ++ b) ≡ links_of a ++ links_of b
unfolding links_of
links-append [] b = refl
links-append (j ∷ a) b =
    ap (λ l. zip (lhs_bits j.child) (lhs_bits j.parent) ++ l) (links-append a b)
    ∙ sym (append_assoc (zip (lhs_bits j.child) (lhs_bits j.parent)) (links_of a) (links_of b))

pub append-none : {X : Type 0} (l : List X) → l ++ [] ≡ l
append-none [] = refl
append-none (x ∷ l) = ap (λ m. x ∷ m) (append-none l)

links-one : (j : Join) → links_of (j ∷ []) ≡ zip (lhs_bits j.child) (lhs_bits j.parent)
unfolding links_of
links-one j = append-none (zip (lhs_bits j.child) (lhs_bits j.parent))

pub links-more : (joins : List Join) (i : ℕ) (j : Join) → i < length joins → get_or joins i j ≡ j
    → links_of (take (i + 1) joins) ≡ links_of (take i joins) ++ zip (lhs_bits j.child) (lhs_bits j.parent)
links-more joins i j h e =
    ap links_of (take_more joins i j h ∙ ap (λ x. take i joins ++ x ∷ []) e)
    ∙ links-append (take i joins) (j ∷ [])
    ∙ ap (λ l. links_of (take i joins) ++ l) (links-one j)

-- ---- the first bit of a class has the least wire

lesser-left : (a b : WireBit) → (lesser a b).wire ≤ a.wire
lesser-left a b = pick (leb a.wire b.wire) refl
  where
    pick : (t : Bool) → leb a.wire b.wire ≡ t → (cond t a b).wire ≤ a.wire
    pick true e = omega arith
    pick false e = let lt = leb-false a.wire b.wire e in omega (arith, lt)

lesser-right : (a b : WireBit) → (lesser a b).wire ≤ b.wire
lesser-right a b = pick (leb a.wire b.wire) refl
  where
    pick : (t : Bool) → leb a.wire b.wire ≡ t → (cond t a b).wire ≤ b.wire
    pick true e = leb-true a.wire b.wire e
    pick false e = omega arith

first-least : (links : List Link) (b : WireBit) → (first_bit links b).wire ≤ b.wire
unfolding first_bit
first-least [] b = omega arith
first-least (l ∷ more) b = go (same_bit (first_bit more b) (first_bit more l.0)) (same_bit (first_bit more b) (first_bit more l.1)) refl refl (first-least more b)
  where
    go : (p q : Bool) → same_bit (first_bit more b) (first_bit more l.0) ≡ p → same_bit (first_bit more b) (first_bit more l.1) ≡ q
        → (first_bit more b).wire ≤ b.wire → (cond (p || q) (lesser (first_bit more l.0) (first_bit more l.1)) (first_bit more b)).wire ≤ b.wire
    go true q e f h =
        let w = lesser-left (first_bit more l.0) (first_bit more l.1) in
        omega (arith, ap (λ x. x.wire) (same-name (first_bit more b) (first_bit more l.0) e), w, h)
    go false true e f h =
        let w = lesser-right (first_bit more l.0) (first_bit more l.1) in
        omega (arith, ap (λ x. x.wire) (same-name (first_bit more b) (first_bit more l.1) f), w, h)
    go false false e f h = h

pub is-first : (links : List Link) (b : WireBit) → IsFirst links b (first_bit links b)
is-first links b = record {
  linked = joined-first links b;
  least = λ c l. subst (λ f. f.wire ≤ c.wire) (sym (first-joined links b c l)) (first-least links c);
}

-- the places of the first bits that joins have
pub homes-are : (kept : Kept) (links : List Link) → Stands kept links → (starts : List ℕ) → starts ≡ starts_of kept.widths
    → (bits firsts : List WireBit) → AllZip (IsFirst links) bits firsts → All (IsBitOf kept.widths) firsts → map (place_in starts) firsts ≡ map (home_of links kept.widths) bits
homes-are kept links s starts st bits firsts all inside =
    let none = bit 0 0 in
    let long : length firsts ≡ length bits = AllZip-long (IsFirst links) bits firsts all in
    let left : length (map (place_in starts) firsts) ≡ length firsts = length-map firsts (place_in starts) in
    ext_get_or 0 (map (place_in starts) firsts) (map (home_of links kept.widths) bits) (left ∙ long ∙ sym (length-map bits (home_of links kept.widths)))
    (λ i lt.
    let in_firsts : i < length firsts = omega (arith, lt, left) in
    let in_bits : i < length bits = omega (arith, in_firsts, long) in
    let at : get_or firsts i none ≡ first_bit links (get_or bits i none) =
    first-unique links s.falls s.own_children (get_or bits i none) (get_or firsts i none) (first_bit links (get_or bits i none))
    (AllZip-get_or (IsFirst links) bits firsts i none none all in_bits) (is-first links (get_or bits i none)) in
    get_or-map (place_in starts) firsts i none 0 in_firsts
    ∙ ap (λ l. place_in l (get_or firsts i none)) st
    ∙ place_in-starts_of kept.widths (get_or firsts i none) (inside i none in_firsts).wire
    ∙ ap (λ b. place_of kept.widths b) at
    ∙ sym (get_or-map (home_of links kept.widths) bits i none 0 in_bits))

-- ---- gifts

pub gifts_at-append : (from : Source) (at : ℕ) (a b : List ℕ) → gifts_at from at (a ++ b) ≡ gifts_at from at a ++ gifts_at from (at + length a) b
unfolding gifts_at
gifts_at-append from at [] b = ap (λ k. gifts_at from k b) (sym (add-zero at))
gifts_at-append from at (x ∷ a) b =
    let same : suc at + length a ≡ at + length (x ∷ a) = omega arith in
    ap (λ l. (let g : Gift = record { to = x; from = from; at = at } in g) ∷ l) (gifts_at-append from (suc at) a b ∙ ap (λ k. gifts_at from (suc at) a ++ gifts_at from k b) same)

pub gifts_at-more : (from : Source) (places : List ℕ) (i : ℕ) → i < length places
    → gifts_at from 0 (take (i + 1) places) ≡ gifts_at from 0 (take i places) ++ (let g : Gift = record { to = get_or places i 0; from = from; at = i } in g) ∷ []
unfolding gifts_at
gifts_at-more from places i h =
    let at : 0 + length (take i places) ≡ i = omega (arith, length-take i places, h) in
    ap (λ l. gifts_at from 0 l) (take_more places i 0 h)
    ∙ gifts_at-append from 0 (take i places) (get_or places i 0 ∷ [])
    ∙ ap (λ k. gifts_at from 0 (take i places) ++ gifts_at from k (get_or places i 0 ∷ [])) at

drivers-append : (home : WireBit → ℕ) (a b : List Driver) → driver_gifts home (a ++ b) ≡ driver_gifts home a ++ driver_gifts home b
unfolding driver_gifts
drivers-append home [] b = refl
drivers-append home (d ∷ a) b =
    ap (λ l. gifts_to home (Value d.value) 0 (lhs_bits d.target) ++ l) (drivers-append home a b)
    ∙ sym (append_assoc (gifts_to home (Value d.value) 0 (lhs_bits d.target)) (driver_gifts home a) (driver_gifts home b))

drivers-one : (home : WireBit → ℕ) (d : Driver) → driver_gifts home (d ∷ []) ≡ gifts_to home (Value d.value) 0 (lhs_bits d.target)
unfolding driver_gifts
drivers-one home d = append-none (gifts_to home (Value d.value) 0 (lhs_bits d.target))

pub drivers-more : (home : WireBit → ℕ) (drivers : List Driver) (i : ℕ) (d : Driver) → i < length drivers → get_or drivers i d ≡ d
    → driver_gifts home (take (i + 1) drivers) ≡ driver_gifts home (take i drivers) ++ gifts_to home (Value d.value) 0 (lhs_bits d.target)
drivers-more home drivers i d h e =
    ap (driver_gifts home) (take_more drivers i d h ∙ ap (λ x. take i drivers ++ x ∷ []) e)
    ∙ drivers-append home (take i drivers) (d ∷ [])
    ∙ ap (λ l. driver_gifts home (take i drivers) ++ l) (drivers-one home d)

stimuli-append : (home : WireBit → ℕ) (n : ℕ) (a b : List Signal) → stimulus_gifts home n (a ++ b) ≡ stimulus_gifts home n a ++ stimulus_gifts home (n + length a) b
unfolding stimulus_gifts
stimuli-append home n [] b = ap (λ k. stimulus_gifts home k b) (sym (add-zero n))
stimuli-append home n (s ∷ a) b =
    let same : suc n + length a ≡ n + length (s ∷ a) = omega arith in
    let here = cond s.input (gifts_to home (Stimulus n) 0 (wire_bits n s.width)) [] in
    ap (λ l. here ++ l) (stimuli-append home (suc n) a b ∙ ap (λ k. stimulus_gifts home (suc n) a ++ stimulus_gifts home k b) same)
    ∙ sym (append_assoc here (stimulus_gifts home (suc n) a) (stimulus_gifts home (n + length (s ∷ a)) b))

stimuli-one : (home : WireBit → ℕ) (n : ℕ) (s : Signal) → stimulus_gifts home n (s ∷ []) ≡ cond s.input (gifts_to home (Stimulus n) 0 (wire_bits n s.width)) []
unfolding stimulus_gifts
stimuli-one home n s = append-none (cond s.input (gifts_to home (Stimulus n) 0 (wire_bits n s.width)) [])

pub stimuli-more : (home : WireBit → ℕ) (wires : List Signal) (i : ℕ) (s : Signal) → i < length wires → get_or wires i s ≡ s
    → stimulus_gifts home 0 (take (i + 1) wires) ≡ stimulus_gifts home 0 (take i wires) ++ cond s.input (gifts_to home (Stimulus i) 0 (wire_bits i s.width)) []
stimuli-more home wires i s h e =
    let at : 0 + length (take i wires) ≡ i = omega (arith, length-take i wires, h) in
    ap (λ l. stimulus_gifts home 0 l) (take_more wires i s h ∙ ap (λ x. take i wires ++ x ∷ []) e)
    ∙ stimuli-append home 0 (take i wires) (s ∷ [])
    ∙ ap (λ k. stimulus_gifts home 0 (take i wires) ++ stimulus_gifts home k (s ∷ [])) at
    ∙ ap (λ l. stimulus_gifts home 0 (take i wires) ++ l) (stimuli-one home i s)

-- ---- places

-- a bit of a segment has a place
pub seg-place : (starts : List ℕ) (seg : Seg) (n at : ℕ) → All (HasPlace starts n) (seg_bits seg) → at < seg.width → HasPlace starts n (bit seg.wire (seg.lo + at))
seg-place starts seg n at all h =
    let none = bit 0 0 in
    subst (λ b. HasPlace starts n b) (get_or-seg_bits seg at none h) (all at none (omega (arith, length-seg_bits seg, h)))

pub whole-bits : (wire width : ℕ) → lhs_bits ((let s : Seg = record { wire = wire; lo = 0; width = width } in s) ∷ []) ≡ wire_bits wire width
unfolding seg_bits
whole-bits wire width = refl

pub length-whole : (wire width : ℕ) → length (lhs_bits ((let s : Seg = record { wire = wire; lo = 0; width = width } in s) ∷ [])) ≡ width
length-whole wire width = length-seg_bits (record { wire = wire; lo = 0; width = width })

pub whole-narrow : (widths : List ℕ) (wire width : ℕ) → LieIn widths ((let s : Seg = record { wire = wire; lo = 0; width = width } in s) ∷ []) → width ≤ 128
whole-narrow widths wire width h =
    let seg : Seg = record { wire = wire; lo = 0; width = width } in
    let is = h 0 seg (omega arith) in
    omega (arith, is.whole.ends)
