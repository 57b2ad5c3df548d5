-- What holds beside a flat design: what its drivers read, and what its classes are told.
use Rattle.std.proofs.Common.{◌≡◌, ℕ, suc, ◌+◌, ◌<◌, ◌≤◌, Bool, true, false, not, cond, ◌||◌, List, [], ◌∷◌, ◌++◌, length, get_or, map, refl, sym, ap, ◌∙◌, subst, arith, zero-add, add-zero}
use Rattle.std.specs.Prelude.{All, Option, None, filter}
use Rattle.std.specs.List.{range_with_len, list_any}
use Rattle.std.proofs.lemmas.Bool.{eqb-true, eq-eqb, ltb-true}
use Rattle.std.proofs.lemmas.List.{ext_get_or}
use Rattle.std.proofs.lemmas.List.Elements.{All-head, All-tail, All-nil, All-cons, All-append, All-weaker}
use Rattle.std.proofs.lemmas.List.Folds.{list_any-append}
use Rattle.std.proofs.lemmas.List.FromFn.{get_or-map-range_with_len, length-map-range_with_len}
use Rattle.fourvec.specs.declared.Bit.{Bit}
use Rattle.fourvec.specs.declared.Bit.TheVariants.{Unknown}
use Rattle.fourvec.specs.Bits.{all_x}
use Rattle.fourvec.proofs.Tables.{left_of, right_of}
use Rattle.sv_outside.specs.declared.text.Signal.{Signal}
use Rattle.lhs_alias.specs.declared.segs.WireBit.{WireBit}
use Rattle.lhs_alias.specs.Segs.{bit, lhs_bits}
use Rattle.lhs_alias.specs.Lies.{IsBitOf}
use Rattle.lhs_alias.specs.Joined.{all_bits}
use Rattle.lhs_alias.proofs.Lying.{lhs_bits-lie}
use Rattle.lhs_alias.proofs.Row.{place-below}
use Rattle.settling.specs.Settling.{Store, Link, Contribution, value_at as value_in_store, first_bit, is_one_class, given_to}
use Rattle.settling.specs.Events.{resolved}
use Rattle.settling.specs.Overriding.{is_given, overridden}
use Rattle.settling.proofs.Overriding.{given_to-append, overriding_tells}
use Rattle.svex_shape.specs.declared.shape.VarName.TheVariants.{Now, Prev, Stim, Chosen, Sampled}
use Rattle.svex_shape.specs.declared.shape.Shape.{Shape}
use Rattle.svex_arena.specs.Arenas.{IsArena}
use Rattle.svex_shape.specs.Values.{Vector, Rows, fitted, read, AgreesWhere}
use Rattle.svex_arena.proofs.Lifted.{values_alike}
use Rattle.svex_shape.proofs.Readings.{read_has_widths}
use Rattle.svex_arena.proofs.Widths.{length-value_at}
use Rattle.driver_resolve.specs.declared.driver.Driver.{Driver}
use Rattle.driver_resolve.specs.Drivers.{Phase, reading, drivers_give, stimuli_from, overriding_from, wire_bits, widths_of, is_wire, is_of_wires, IsDriver}
use Rattle.flat_net.specs.declared.flat.Flat.{Flat}
use Rattle.flat_net.specs.Flats.{IsFlat, links_of, given}
use Rattle.event_nets.specs.declared.gift.Gift.{Gift}
use Rattle.event_nets.specs.declared.gift.Source.{Source}
use Rattle.event_nets.specs.declared.gift.Source.TheVariants.{Value, Stimulus}
use Rattle.event_nets.specs.Gifts.{source_in, told_of, told_bit, given_at, IsGift, IsTold, gifts_at, gifts_to, driver_gifts, stimulus_gifts, overriding_gifts, has_gift}
use Rattle.event_sim.proofs.Valued.{HasValues}
use Rattle.event_nets.specs.Nets.{input_bits}
use Rattle.event_nets.specs.Tables.{store_of, IsValuation, home_of, own_gifts, gifts_of}
use Rattle.event_nets.proofs.Homes.{IsInside, links-inside, first-inside}
use Rattle.event_sim.proofs.Telling.{told-resolved}
use Rattle.event_nets.proofs.Giving.{AreInside, inside-append, given_at-append, HasDriverValues, drivers-give, drivers-inside, AreWires, wires-rest, wire-lies, wires-are, stimuli-give, stimuli-inside}
use Rattle.event_nets.proofs.Cutting.{as_inputs, gifts-as_inputs, bits-as_inputs, from-as_inputs, wires-as_inputs, given-left, All-left}
use Rattle.event_nets.proofs.FlatNets.{any-overriding}
use Rattle.event_sim.proofs.Passing.{width-at}

-- ---- what drivers read

pub row-whole : (v : Vector) (w : ℕ) → length v ≡ w → map (λ k. get_or v k Unknown) (range_with_len 0 w) ≡ v
row-whole v w e =
    let f : ℕ → Bit = λ k. get_or v k Unknown in
    ext_get_or Unknown (map f (range_with_len 0 w)) v (length-map-range_with_len f 0 w ∙ sym e)
    (λ i lt. get_or-map-range_with_len f 0 w i i Unknown (omega (arith, lt, length-map-range_with_len f 0 w)) (zero-add i))

fitted-same : (w : ℕ) (v : Vector) → length v ≡ w → fitted w v ≡ v
unfolding fitted
fitted-same w v e = ap (λ t. cond t v (all_x w)) (eq-eqb (length v) w e)

reads : (widths : List ℕ) (rows : List Vector) → IsValuation widths rows → (n w : ℕ) → is_wire widths n w ≡ true → fitted w (get_or rows n []) ≡ map (store_of rows n) (range_with_len 0 w)
reads widths rows v n w t =
    let there : n < length widths = ltb-true n (length widths) (left_of _ _ t) in
    let wide : length (get_or rows n []) ≡ w = width-at widths rows v n there ∙ eqb-true (get_or widths n 0) w (right_of _ _ t) in
    fitted-same w (get_or rows n []) wide ∙ sym (row-whole (get_or rows n []) w wide)

-- the phase of these values
abbrev pub phase_of : Rows → Phase
phase_of rows = record { stim = store_of rows.stim; previous = store_of rows.previous; present = store_of rows.present }

agrees : (widths : List ℕ) (rows : Rows) → IsValuation widths rows.present → IsValuation widths rows.previous → AgreesWhere (is_of_wires widths) (read rows) (reading (phase_of rows))
agrees widths rows v u (Now n) w t = reads widths rows.present v n w t
agrees widths rows v u (Prev n) w t = reads widths rows.previous u n w t
agrees widths rows v u (Stim n) w t = cc
agrees widths rows v u (Chosen n) w t = cc
agrees widths rows v u (Sampled n) w t = cc

has-values : (widths : List ℕ) (shapes : List Shape) → IsArena shapes → (rows : Rows) → IsValuation widths rows.present → IsValuation widths rows.previous
    → (values : List Vector) → HasValues (read rows) shapes values (length shapes)
    → (d : Driver) → IsDriver widths shapes d → HasDriverValues shapes (phase_of rows) values d
has-values widths shapes i rows v u values h d ok = record {
  is = h.is d.value ok.there ∙ values_alike (is_of_wires widths) (read rows) (reading (phase_of rows)) shapes d.value i (agrees widths rows v u) ok.there ok.mentions;
  wide = ap (λ r. length r) (h.is d.value ok.there) ∙ length-value_at (read rows) shapes d.value (read_has_widths rows) i ok.there ∙ ok.wide;
}

pub all-have : (widths : List ℕ) (shapes : List Shape) → IsArena shapes → (rows : Rows) → IsValuation widths rows.present → IsValuation widths rows.previous
    → (values : List Vector) → HasValues (read rows) shapes values (length shapes)
    → (drivers : List Driver) → All (IsDriver widths shapes) drivers → All (HasDriverValues shapes (phase_of rows) values) drivers
all-have widths shapes i rows v u values h drivers ok =
    All-weaker (IsDriver widths shapes) (HasDriverValues shapes (phase_of rows) values) (has-values widths shapes i rows v u values h) drivers ok

-- ---- what classes are told

-- what drivers and inputs give to a class, without what overrides
own-give : (flat : Flat) → IsArena flat.arena → IsFlat flat → (rows : Rows) → IsValuation (widths_of flat.wires) rows.present → IsValuation (widths_of flat.wires) rows.previous
    → (values : List Vector) → HasValues (read rows) flat.arena values (length flat.arena) → (b : WireBit) → IsBitOf (widths_of flat.wires) b
    → given_at values rows.stim (home_of (links_of flat.joins) (widths_of flat.wires) b) (own_gifts flat)
    ≡ given_to (links_of flat.joins) b (drivers_give flat.arena flat.drivers (phase_of rows) ++ stimuli_from 0 flat.wires (store_of rows.stim))
own-give flat i ok rows v u values h b ib =
    let widths = widths_of flat.wires in
    let links = links_of flat.joins in
    let home = home_of links widths in
    let inside = links-inside widths flat.joins ok.joins in
    given_at-append values rows.stim (home b) (driver_gifts home flat.drivers) (stimulus_gifts home 0 flat.wires)
    ∙ ap (λ l. l ++ given_at values rows.stim (home b) (stimulus_gifts home 0 flat.wires)) (drivers-give widths links inside flat.arena (phase_of rows) values rows.stim b ib flat.drivers ok.drivers (all-have widths flat.arena i rows v u values h flat.drivers ok.drivers))
    ∙ ap (λ l. given_to links b (drivers_give flat.arena flat.drivers (phase_of rows)) ++ l) (stimuli-give widths links inside values rows.stim b ib 0 flat.wires (wires-are flat.wires))
    ∙ sym (given_to-append links b (drivers_give flat.arena flat.drivers (phase_of rows)) (stimuli_from 0 flat.wires (store_of rows.stim)))

-- what overridden wires give to a class
overriding-give : (flat : Flat) → IsFlat flat → (over : List ℕ) (values stim : List Vector) (b : WireBit) → IsBitOf (widths_of flat.wires) b
    → given_at values stim (home_of (links_of flat.joins) (widths_of flat.wires) b) (overriding_gifts (home_of (links_of flat.joins) (widths_of flat.wires)) 0 flat.wires over)
    ≡ given_to (links_of flat.joins) b (overriding_from 0 flat.wires over (store_of stim))
overriding-give flat ok over values stim b ib =
    let widths = widths_of flat.wires in
    let links = links_of flat.joins in
    let home = home_of links widths in
    ap (λ l. given_at values stim (home b) l) (gifts-as_inputs home 0 flat.wires over)
    ∙ stimuli-give widths links (links-inside widths flat.joins ok.joins) values stim b ib 0 (as_inputs 0 flat.wires over) (wires-as_inputs flat.wires over)
    ∙ ap (λ l. given_to links b l) (sym (from-as_inputs 0 flat.wires over (store_of stim)))

any-store : (class : WireBit → Bool) (s : Store) (bits : List WireBit) → list_any class bits ≡ list_any (λ c. class c.0) (let l : List Contribution = map (λ c. (c, value_in_store s c)) bits in l)
any-store class s [] = refl
any-store class s (b ∷ bits) = ap (λ t. class b || t) (any-store class s bits)

any-counted : (class : WireBit → Bool) (s : Store) (bits : List WireBit) (t : Bool)
    → list_any class (cond t bits []) ≡ list_any (λ c. class c.0) (let l : List Contribution = cond t (map (λ c. (c, value_in_store s c)) bits) [] in l)
any-counted class s bits true = any-store class s bits
any-counted class s bits false = refl

-- a class has a bit of an input exactly where something is given to it
any-from : (links : List Link) (b : WireBit) (stim : Store) (n : ℕ) (wires : List Signal) → list_any (λ c. is_one_class links c b) (input_bits n wires) ≡ is_given links (stimuli_from n wires stim) b
unfolding input_bits stimuli_from
any-from links b stim n [] = refl
any-from links b stim n (s ∷ more) =
    let class : WireBit → Bool = λ c. is_one_class links c b in
    let of_class : Contribution → Bool = λ c. class c.0 in
    let bits = wire_bits n s.width in
    let here : List Contribution = cond s.input (map (λ c. (c, value_in_store stim c)) bits) [] in
    list_any-append class (cond s.input bits []) (input_bits (suc n) more)
    ∙ ap (λ t. t || list_any class (input_bits (suc n) more)) (any-counted class stim bits s.input)
    ∙ ap (λ t. list_any of_class here || t) (any-from links b stim (suc n) more)
    ∙ sym (list_any-append of_class here (stimuli_from (suc n) more stim))

-- a class has an overriding gift exactly where something overrides it
gift-given : (flat : Flat) → IsFlat flat → (over : List ℕ) (stim : Store) (b : WireBit) → IsBitOf (widths_of flat.wires) b
    → has_gift (overriding_gifts (home_of (links_of flat.joins) (widths_of flat.wires)) 0 flat.wires over) (home_of (links_of flat.joins) (widths_of flat.wires) b)
    ≡ is_given (links_of flat.joins) (overriding_from 0 flat.wires over stim) b
gift-given flat ok over stim b ib =
    let links = links_of flat.joins in
    any-overriding flat ok over b ib
    ∙ ap (λ l. list_any (λ c. is_one_class links c b) l) (bits-as_inputs 0 flat.wires over)
    ∙ any-from links b stim 0 (as_inputs 0 flat.wires over)
    ∙ ap (λ l. is_given links l b) (sym (from-as_inputs 0 flat.wires over stim))

-- the gifts to a class are what is given to it
pub gifts-give : (flat : Flat) → IsArena flat.arena → IsFlat flat → (over : List ℕ) (rows : Rows) → IsValuation (widths_of flat.wires) rows.present → IsValuation (widths_of flat.wires) rows.previous
    → (values : List Vector) → HasValues (read rows) flat.arena values (length flat.arena) → (b : WireBit) → IsBitOf (widths_of flat.wires) b
    → given_at values rows.stim (home_of (links_of flat.joins) (widths_of flat.wires) b) (gifts_of flat over) ≡ given_to (links_of flat.joins) b (given flat over (phase_of rows))
gifts-give flat i ok over rows v u values h b ib =
    let links = links_of flat.joins in
    let home = home_of links (widths_of flat.wires) in
    let gifts = overriding_gifts home 0 flat.wires over in
    let from = overriding_from 0 flat.wires over (store_of rows.stim) in
    let all = drivers_give flat.arena flat.drivers (phase_of rows) ++ stimuli_from 0 flat.wires (store_of rows.stim) in
    given-left values rows.stim gifts (own_gifts flat) (home b)
    ∙ ap (λ t. cond t (given_at values rows.stim (home b) gifts) (given_at values rows.stim (home b) (own_gifts flat))) (gift-given flat ok over (store_of rows.stim) b ib)
    ∙ ap (λ l. cond (is_given links from b) l (given_at values rows.stim (home b) (own_gifts flat))) (overriding-give flat ok over values rows.stim b ib)
    ∙ ap (λ l. cond (is_given links from b) (given_to links b from) l) (own-give flat i ok rows v u values h b ib)
    ∙ sym (overriding_tells links from all b)

pub class-told : (flat : Flat) → IsArena flat.arena → IsFlat flat → (over : List ℕ) (rows : Rows) → IsValuation (widths_of flat.wires) rows.present → IsValuation (widths_of flat.wires) rows.previous
    → (values : List Vector) → HasValues (read rows) flat.arena values (length flat.arena)
    → (told : List (Option Bit)) → length told ≡ length (all_bits (widths_of flat.wires)) → IsTold values rows.stim (gifts_of flat over) told
    → (b : WireBit) → IsBitOf (widths_of flat.wires) b
    → told_bit (get_or told (home_of (links_of flat.joins) (widths_of flat.wires) b) None) ≡ resolved (given_to (links_of flat.joins) b (given flat over (phase_of rows)))
class-told flat i ok over rows v u values h told long is b ib =
    let widths = widths_of flat.wires in
    let links = links_of flat.joins in
    let home = home_of links widths in
    let below : home b < length told = omega (arith, place-below widths (first_bit links b) (first-inside widths links (links-inside widths flat.joins ok.joins) b ib), long) in
    ap told_bit (is (home b) below ∙ ap told_of (gifts-give flat i ok over rows v u values h b ib)) ∙ told-resolved (given_to links b (given flat over (phase_of rows)))

inside-filter : (widths : List ℕ) (p : Contribution → Bool) (all : List Contribution) → AreInside widths all → AreInside widths (filter p all)
inside-filter widths p [] h = tt
inside-filter widths p (c ∷ all) h = pick (p c) (inside-filter widths p all h.1)
  where
    pick : (t : Bool) → AreInside widths (filter p all) → AreInside widths (cond t (c ∷ filter p all) (filter p all))
    pick true r = (h.0, r)
    pick false r = r

pub given-inside : (flat : Flat) → IsArena flat.arena → IsFlat flat → (over : List ℕ) (rows : Rows) → IsValuation (widths_of flat.wires) rows.present → IsValuation (widths_of flat.wires) rows.previous
    → (values : List Vector) → HasValues (read rows) flat.arena values (length flat.arena) → AreInside (widths_of flat.wires) (given flat over (phase_of rows))
unfolding overridden
given-inside flat i ok over rows v u values h =
    let widths = widths_of flat.wires in
    let links = links_of flat.joins in
    let from = overriding_from 0 flat.wires over (store_of rows.stim) in
    let all = drivers_give flat.arena flat.drivers (phase_of rows) ++ stimuli_from 0 flat.wires (store_of rows.stim) in
    inside-append widths (filter (λ c. not (is_given links from c.0)) all) from
    (inside-filter widths (λ c. not (is_given links from c.0)) all
    (inside-append widths (drivers_give flat.arena flat.drivers (phase_of rows)) (stimuli_from 0 flat.wires (store_of rows.stim))
    (drivers-inside widths flat.arena (phase_of rows) values flat.drivers ok.drivers (all-have widths flat.arena i rows v u values h flat.drivers ok.drivers))
    (stimuli-inside widths rows.stim 0 flat.wires (wires-are flat.wires))))
    (subst (λ l. AreInside widths l) (sym (from-as_inputs 0 flat.wires over (store_of rows.stim))) (stimuli-inside widths rows.stim 0 (as_inputs 0 flat.wires over) (wires-as_inputs flat.wires over)))

-- ---- gifts are sound

gifts-sound : (widths : List ℕ) (links : List Link) → All (IsInside widths) links → (values stim : List Vector) (from : Source) (at : ℕ) (bits : List WireBit)
    → at + length bits ≤ length (source_in values stim from) → All (IsBitOf widths) bits
    → All (IsGift values stim (length (all_bits widths))) (gifts_to (home_of links widths) from at bits)
unfolding gifts_at
gifts-sound widths links i values stim from at [] e h = All-nil (IsGift values stim (length (all_bits widths)))
gifts-sound widths links i values stim from at (b ∷ bits) e h =
    All-cons (IsGift values stim (length (all_bits widths))) _ (gifts_to (home_of links widths) from (suc at) bits)
    (record {
      class = place-below widths (first_bit links b) (first-inside widths links i b (All-head (IsBitOf widths) b bits h));
      source = omega (arith, e);
    })
    (gifts-sound widths links i values stim from (suc at) bits (omega (arith, e)) (All-tail (IsBitOf widths) b bits h))

drivers-sound : (widths : List ℕ) (links : List Link) → All (IsInside widths) links → (shapes : List Shape) (p : Phase) (values stim : List Vector) (drivers : List Driver)
    → All (IsDriver widths shapes) drivers → All (HasDriverValues shapes p values) drivers
    → All (IsGift values stim (length (all_bits widths))) (driver_gifts (home_of links widths) drivers)
unfolding driver_gifts
drivers-sound widths links i shapes p values stim [] ok h = All-nil (IsGift values stim (length (all_bits widths)))
drivers-sound widths links i shapes p values stim (d ∷ more) ok h =
    let here = All-head (HasDriverValues shapes p values) d more h in
    let lies = lhs_bits-lie widths d.target (All-head (IsDriver widths shapes) d more ok).lies in
    All-append (IsGift values stim (length (all_bits widths))) (gifts_to (home_of links widths) (Value d.value) 0 (lhs_bits d.target)) (driver_gifts (home_of links widths) more)
    (gifts-sound widths links i values stim (Value d.value) 0 (lhs_bits d.target) (omega (arith, here.wide)) lies)
    (drivers-sound widths links i shapes p values stim more (All-tail (IsDriver widths shapes) d more ok) (All-tail (HasDriverValues shapes p values) d more h))

length-wire_bits : (n w : ℕ) → length (wire_bits n w) ≡ w
length-wire_bits n w = length-map-range_with_len (bit n) 0 w

chosen-sound : (widths : List ℕ) (links : List Link) → All (IsInside widths) links → (values stim : List Vector) (n w : ℕ) (t : Bool) → w ≤ length (get_or stim n [])
    → All (IsBitOf widths) (wire_bits n w) → All (IsGift values stim (length (all_bits widths))) (cond t (gifts_to (home_of links widths) (Stimulus n) 0 (wire_bits n w)) [])
chosen-sound widths links i values stim n w true e h = gifts-sound widths links i values stim (Stimulus n) 0 (wire_bits n w) (omega (arith, length-wire_bits n w, e)) h
chosen-sound widths links i values stim n w false e h = All-nil (IsGift values stim (length (all_bits widths)))

stimuli-sound : (widths : List ℕ) (links : List Link) → All (IsInside widths) links → (values stim : List Vector) → IsValuation widths stim → (n : ℕ) (wires : List Signal) → AreWires widths n wires
    → All (IsGift values stim (length (all_bits widths))) (stimulus_gifts (home_of links widths) n wires)
unfolding stimulus_gifts
stimuli-sound widths links i values stim v n [] h = All-nil (IsGift values stim (length (all_bits widths)))
stimuli-sound widths links i values stim v n (s ∷ more) h =
    let first = h.is 0 s (omega arith) in
    let wide : s.width ≤ length (get_or stim n []) =
    omega (arith, width-at widths stim v n (omega (arith, first.0)), ap (λ j. get_or widths j 0) (sym (add-zero n)) ∙ first.1) in
    All-append (IsGift values stim (length (all_bits widths))) (cond s.input (gifts_to (home_of links widths) (Stimulus n) 0 (wire_bits n s.width)) []) (stimulus_gifts (home_of links widths) (suc n) more)
    (chosen-sound widths links i values stim n s.width s.input wide (wire-lies widths n s more h))
    (stimuli-sound widths links i values stim v (suc n) more (wires-rest widths n s more h))

pub all-sound : (flat : Flat) → IsArena flat.arena → IsFlat flat → (over : List ℕ) (rows : Rows) → IsValuation (widths_of flat.wires) rows.present → IsValuation (widths_of flat.wires) rows.previous → IsValuation (widths_of flat.wires) rows.stim
    → (values : List Vector) → HasValues (read rows) flat.arena values (length flat.arena)
    → All (IsGift values rows.stim (length (all_bits (widths_of flat.wires)))) (gifts_of flat over)
all-sound flat i ok over rows v u s values h =
    let widths = widths_of flat.wires in
    let links = links_of flat.joins in
    let home = home_of links widths in
    let inside = links-inside widths flat.joins ok.joins in
    let P : Gift → Type 0 = IsGift values rows.stim (length (all_bits widths)) in
    All-left P (overriding_gifts home 0 flat.wires over) (own_gifts flat)
    (subst (λ l. All P l) (sym (gifts-as_inputs home 0 flat.wires over)) (stimuli-sound widths links inside values rows.stim s 0 (as_inputs 0 flat.wires over) (wires-as_inputs flat.wires over)))
    (All-append P (driver_gifts home flat.drivers) (stimulus_gifts home 0 flat.wires)
    (drivers-sound widths links inside flat.arena (phase_of rows) values rows.stim flat.drivers ok.drivers (all-have widths flat.arena i rows v u values h flat.drivers ok.drivers))
    (stimuli-sound widths links inside values rows.stim s 0 flat.wires (wires-are flat.wires)))
