-- A pass is an event.
use Rattle.std.proofs.Common.{◌≡◌, ℕ, ◌+◌, ◌<◌, Bool, true, false, cond, List, [], length, get_or, map, sym, refl, ap, ◌∙◌, inl, inr, arith, zero-add}
use Rattle.std.specs.Prelude.{Option, None}
use Rattle.std.proofs.lemmas.Bool.{cases_lt}
use Rattle.std.proofs.lemmas.List.{get_or_past, get_or-map, ext_get_or, length-map}
use Rattle.std.proofs.lemmas.List.FromFn.{get_or-map-range_with_len, length-map-range_with_len}
use Rattle.fourvec.specs.declared.Bit.{Bit}
use Rattle.fourvec.specs.declared.Bit.TheVariants.{Unknown}
use Rattle.lhs_alias.specs.declared.segs.WireBit.{WireBit}
use Rattle.lhs_alias.specs.Segs.{bit}
use Rattle.lhs_alias.specs.Lies.{IsBitOf}
use Rattle.lhs_alias.specs.Joined.{all_bits, starts_of, place_of}
use Rattle.settling.specs.Settling.{Link, given_to}
use Rattle.settling.specs.Least.{Giving}
use Rattle.settling.specs.Events.{resolved, event}
use Rattle.svex_shape.specs.Values.{Vector}
use Rattle.event_nets.specs.Gifts.{told_bit}
use Rattle.event_nets.specs.Runs.{is_at}
use Rattle.event_sim.specs.Rows.{passed_bit, Passed}
use Rattle.event_nets.specs.Tables.{store_of, IsValuation, home_of}
use Rattle.event_sim.specs.Sims.{picked}
use Rattle.event_nets.proofs.Homes.{home-at, start-at}

pub width-at : (widths : List ℕ) (rows : List Vector) → IsValuation widths rows → (n : ℕ) → n < length widths → length (get_or rows n []) ≡ get_or widths n 0
width-at widths rows v n h =
    sym (get_or-map (λ row. length row) rows n [] 0 (omega (arith, ap length v, length-map rows (λ (row : Vector). length row), h))) ∙ ap (λ l. get_or l n 0) v

pub as-many : (widths : List ℕ) (rows : List Vector) → IsValuation widths rows → length rows ≡ length widths
as-many widths rows v = sym (length-map rows (λ (row : Vector). length row)) ∙ ap length v

-- outside of the wires all is X
pub store-outside : (widths : List ℕ) (rows : List Vector) → IsValuation widths rows → (n k : ℕ) → (IsBitOf widths (bit n k) → ⊥) → store_of rows n k ≡ Unknown
store-outside widths rows v n k out = elim (cases_lt n (length widths)) [
  | inl lt ↦ elim (cases_lt k (get_or widths n 0)) [
    | inl low ↦ absurd (out (record { wire = lt; place = low }))
    | inr high ↦ get_or_past (get_or rows n []) k Unknown (omega (arith, width-at widths rows v n lt, high))
  ]
  | inr past ↦ ap (λ r. get_or r k Unknown) (get_or_past rows n [] (omega (arith, as-many widths rows v, past)))
]

pub passed-widths : (widths homes starts : List ℕ) (lows : List (Option ℕ)) (net : ℕ) (told : List (Option Bit)) (old new : List Vector)
    → Passed homes starts lows net told old new → IsValuation widths old → IsValuation widths new
passed-widths widths homes starts lows net told old new p v =
    let size : Vector → ℕ = λ row. length row in
    let long : length (map size new) ≡ length old = length-map new size ∙ p.as_many in
    ext_get_or 0 (map size new) (map size old) (long ∙ sym (length-map old size))
    (λ n lt.
    let below : n < length old = omega (arith, lt, long) in
    get_or-map size new n [] 0 (omega (arith, below, p.as_many))
    ∙ ap size (p.rows n below)
    ∙ length-map-range_with_len (λ k. passed_bit homes lows net told (get_or starts n 0 + k) (get_or (get_or old n []) k Unknown)) 0 (length (get_or old n []))
    ∙ sym (get_or-map size old n [] 0 below))
    ∙ v

-- a bit of the wires
passed-bit : (widths homes starts : List ℕ) (lows : List (Option ℕ)) (net : ℕ) (told : List (Option Bit)) (old new : List Vector)
    → Passed homes starts lows net told old new → IsValuation widths old → (n k : ℕ) → IsBitOf widths (bit n k)
    → store_of new n k ≡ passed_bit homes lows net told (get_or starts n 0 + k) (store_of old n k)
passed-bit widths homes starts lows net told old new p v n k i =
    let row = get_or old n [] in
    let long : k < length row = omega (arith, width-at widths old v n i.wire, i.place) in
    ap (λ r. get_or r k Unknown) (p.rows n (omega (arith, as-many widths old v, i.wire)))
    ∙ get_or-map-range_with_len (λ j. passed_bit homes lows net told (get_or starts n 0 + j) (get_or row j Unknown)) 0 (length row) k k Unknown long (zero-add k)

always : (t : Bool) (x : Bit) → cond t x x ≡ x
always true x = refl
always false x = refl

pub passed-event : (widths homes starts : List ℕ) (lows : List (Option ℕ)) (net : ℕ) (told : List (Option Bit)) (old new : List Vector) (links : List Link) (gives : Giving)
    → Passed homes starts lows net told old new → IsValuation widths old
    → starts ≡ starts_of widths → homes ≡ map (home_of links widths) (all_bits widths)
    → ((b : WireBit) → IsBitOf widths b → told_bit (get_or told (home_of links widths b) None) ≡ resolved (given_to links b (gives (store_of old))))
    → ((b : WireBit) → (IsBitOf widths b → ⊥) → given_to links b (gives (store_of old)) ≡ [])
    → (n k : ℕ) → store_of new n k ≡ event links gives (picked links widths lows net) (store_of old) n k
passed-event widths homes starts lows net told old new links gives p v st hm tells none n k = elim (cases_lt n (length widths)) [
  | inl lt ↦ elim (cases_lt k (get_or widths n 0)) [
    | inl low ↦ inside (record { wire = lt; place = low })
    | inr high ↦ outside (λ i. omega (arith, i.place, high))
  ]
  | inr past ↦ outside (λ i. omega (arith, i.wire, past))
]
  where
    inside : IsBitOf widths (bit n k) → store_of new n k ≡ event links gives (picked links widths lows net) (store_of old) n k
    inside i =
        let place : get_or starts n 0 + k ≡ place_of widths (bit n k) = ap (λ s. get_or s n 0 + k) st ∙ start-at widths n k i.wire in
        let home : get_or homes (get_or starts n 0 + k) 0 ≡ home_of links widths (bit n k) = ap (λ l. get_or l (get_or starts n 0 + k) 0) hm ∙ ap (λ q. get_or (map (home_of links widths) (all_bits widths)) q 0) place ∙ home-at widths (home_of links widths) (bit n k) i in
        passed-bit widths homes starts lows net told old new p v n k i
        ∙ ap (λ h. cond (is_at (get_or lows h None) net) (told_bit (get_or told h None)) (store_of old n k)) home
        ∙ ap (λ x. cond (is_at (get_or lows (home_of links widths (bit n k)) None) net) x (store_of old n k)) (tells (bit n k) i)

    outside : (IsBitOf widths (bit n k) → ⊥) → store_of new n k ≡ event links gives (picked links widths lows net) (store_of old) n k
    outside out =
        store-outside widths new (passed-widths widths homes starts lows net told old new p v) n k out
        ∙ sym (always (picked links widths lows net (bit n k)) Unknown)
        ∙ ap (λ x. cond (picked links widths lows net (bit n k)) x Unknown) (sym (ap resolved (none (bit n k) out)))
        ∙ ap (λ x. cond (picked links widths lows net (bit n k)) (resolved (given_to links (bit n k) (gives (store_of old)))) x) (sym (store-outside widths old v n k out))
