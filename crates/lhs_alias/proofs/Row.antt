-- The row of all bits: each bit has a place there.
use Rattle.std.proofs.Common.{◌≡◌, ℕ, zero, suc, ◌+◌, ◌-◌, ◌<◌, List, [], ◌∷◌, ◌++◌, length, get_or, take, sum, refl, sym, ◌∙◌, ap, subst, arith, append_assoc, length-append, add-zero, zero-add}
use Rattle.std.specs.Prelude.{All}
use Rattle.std.proofs.lemmas.List.{take_more, get_or_append_left, get_or-append_right, append-nil, length-take}
use Rattle.std.proofs.lemmas.List.Elements.{All-head, All-rest, All-weaker, All-append, All-nil}
use Rattle.std.proofs.lemmas.List.Sums.{sum_by-cons}
use Rattle.lhs_alias.specs.declared.segs.Seg.{Seg}
use Rattle.lhs_alias.specs.declared.segs.WireBit.{WireBit}
use Rattle.lhs_alias.specs.Segs.{bit, seg_bits}
use Rattle.lhs_alias.specs.Lies.{IsBitOf}
use Rattle.lhs_alias.specs.Joined.{bits_from, all_bits, place_of, starts_from, starts_of, place_in, HasPlace}
use Rattle.lhs_alias.proofs.SegBits.{length-seg_bits, get_or-seg_bits}

-- the places of the bits that are left
pub places-rest : (starts : List ℕ) (n m : ℕ) (b : WireBit) (rest bits : List WireBit) → bits ≡ b ∷ rest → n ≡ m → All (HasPlace starts n) bits → All (HasPlace starts m) rest
places-rest starts n m b rest bits is same all =
    let P : ℕ → Type 0 = λ k. All (HasPlace starts k) rest in
    subst P same (All-rest (HasPlace starts n) b rest bits is all)

-- the place of the next of them
pub place-next : (starts : List ℕ) (n : ℕ) (b : WireBit) (rest bits : List WireBit) → bits ≡ b ∷ rest → All (HasPlace starts n) bits → HasPlace starts n b
place-next starts n b rest bits is all =
    let P : List WireBit → Type 0 = All (HasPlace starts n) in
    All-head (HasPlace starts n) b rest (subst P is all)

-- ---- the bits of wires from a number on

sum-cons : (x : ℕ) (xs : List ℕ) → sum (x ∷ xs) ≡ x + sum xs
sum-cons x xs = sum_by-cons (λ y. y) x xs

length-bits_from : (wire : ℕ) (widths : List ℕ) → length (bits_from wire widths) ≡ sum widths
unfolding bits_from
length-bits_from wire [] = refl
length-bits_from wire (n ∷ widths) =
    let seg = seg_bits (record { wire = wire; lo = 0; width = n }) in
    omega (arith, length-append seg (bits_from (wire + 1) widths), length-seg_bits (record { wire = wire; lo = 0; width = n }), length-bits_from (wire + 1) widths, sum-cons n widths)

pub length-all_bits : (widths : List ℕ) → length (all_bits widths) ≡ sum widths
unfolding all_bits
length-all_bits widths = length-bits_from 0 widths

bits_from-push : (wire : ℕ) (widths : List ℕ) (n : ℕ) → bits_from wire (widths ++ n ∷ []) ≡ bits_from wire widths ++ seg_bits (record { wire = wire + length widths; lo = 0; width = n })
unfolding bits_from
bits_from-push wire [] n =
    append-nil (seg_bits (record { wire = wire; lo = 0; width = n })) ∙ ap (λ w. seg_bits (record { wire = w; lo = 0; width = n })) (sym (add-zero wire))
bits_from-push wire (m ∷ widths) n =
    let seg = seg_bits (record { wire = wire; lo = 0; width = m }) in
    let up : wire + 1 + length widths ≡ wire + length (m ∷ widths) = omega arith in
    ap (λ r. seg ++ r) (bits_from-push (wire + 1) widths n ∙ ap (λ w. bits_from (wire + 1) widths ++ seg_bits (record { wire = w; lo = 0; width = n })) up)
    ∙ sym (append_assoc seg (bits_from (wire + 1) widths) (seg_bits (record { wire = wire + length (m ∷ widths); lo = 0; width = n })))

pub all_bits-take_more : (widths : List ℕ) (i : ℕ) (d : ℕ) → i < length widths → all_bits (take (i + 1) widths) ≡ all_bits (take i widths) ++ seg_bits (record { wire = i; lo = 0; width = get_or widths i d })
unfolding all_bits
all_bits-take_more widths i d h =
    let n = get_or widths i d in
    let before : 0 + length (take i widths) ≡ i = omega (arith, length-take i widths) in
    ap (λ ws. bits_from 0 ws) (take_more widths i d h)
    ∙ bits_from-push 0 (take i widths) n
    ∙ ap (λ w. bits_from 0 (take i widths) ++ seg_bits (record { wire = w; lo = 0; width = n })) before

starts_from-push : (start : ℕ) (widths : List ℕ) (n : ℕ) → starts_from start (widths ++ n ∷ []) ≡ starts_from start widths ++ (start + sum widths) ∷ []
unfolding starts_from
starts_from-push start [] n = ap (λ s. s ∷ []) (sym (add-zero start))
starts_from-push start (m ∷ widths) n =
    let up : start + m + sum widths ≡ start + sum (m ∷ widths) = omega (arith, sum-cons m widths) in
    ap (λ r. start ∷ r) (starts_from-push (start + m) widths n ∙ ap (λ s. starts_from (start + m) widths ++ s ∷ []) up)

pub starts_of-take_more : (widths : List ℕ) (i : ℕ) (d : ℕ) → i < length widths → starts_of (take (i + 1) widths) ≡ starts_of (take i widths) ++ length (all_bits (take i widths)) ∷ []
unfolding starts_of
starts_of-take_more widths i d h =
    let end : 0 + sum (take i widths) ≡ length (all_bits (take i widths)) = omega (arith, length-all_bits (take i widths)) in
    ap (λ ws. starts_from 0 ws) (take_more widths i d h)
    ∙ starts_from-push 0 (take i widths) (get_or widths i d)
    ∙ ap (λ s. starts_from 0 (take i widths) ++ s ∷ []) end

length-starts_from : (start : ℕ) (widths : List ℕ) → length (starts_from start widths) ≡ length widths
unfolding starts_from
length-starts_from start [] = refl
length-starts_from start (n ∷ widths) = ap suc (length-starts_from (start + n) widths)

pub length-starts_of : (widths : List ℕ) → length (starts_of widths) ≡ length widths
unfolding starts_of
length-starts_of widths = length-starts_from 0 widths

-- ---- places

get_or-starts_from : (start : ℕ) (widths : List ℕ) (k : ℕ) → k < length widths → get_or (starts_from start widths) k 0 ≡ start + sum (take k widths)
unfolding starts_from
get_or-starts_from start [] k h = absurd (omega arith)
get_or-starts_from start (n ∷ widths) zero h = sym (add-zero start)
get_or-starts_from start (n ∷ widths) (suc k) h =
    omega (arith, get_or-starts_from (start + n) widths k (omega arith), sum-cons n (take k widths))

pub place_in-starts_of : (widths : List ℕ) (b : WireBit) → b.wire < length widths → place_in (starts_of widths) b ≡ place_of widths b
unfolding place_in starts_of place_of
place_in-starts_of widths b h = ap (λ s. s + b.at) (get_or-starts_from 0 widths b.wire h ∙ zero-add (sum (take b.wire widths)))

place-below_from : (widths : List ℕ) (wire at : ℕ) → wire < length widths → at < get_or widths wire 0 → sum (take wire widths) + at < sum widths
place-below_from [] wire at h low = absurd (omega arith)
place-below_from (n ∷ widths) zero at h low = omega (arith, sum-cons n widths)
place-below_from (n ∷ widths) (suc wire) at h low =
    omega (arith, sum-cons n widths, sum-cons n (take wire widths), place-below_from widths wire at (omega arith) low)

pub place-below : (widths : List ℕ) (b : WireBit) → IsBitOf widths b → place_of widths b < length (all_bits widths)
unfolding place_of
place-below widths b is = omega (arith, length-all_bits widths, place-below_from widths b.wire b.at is.wire is.place)

bit-at_from : (base : ℕ) (widths : List ℕ) (wire at : ℕ) (d : WireBit) → wire < length widths → at < get_or widths wire 0 → get_or (bits_from base widths) (sum (take wire widths) + at) d ≡ bit (base + wire) at
unfolding bits_from
bit-at_from base [] wire at d h low = absurd (omega arith)
bit-at_from base (n ∷ widths) zero at d h low =
    let seg : Seg = record { wire = base; lo = 0; width = n } in
    ap (λ k. get_or (seg_bits seg ++ bits_from (base + 1) widths) k d) (zero-add at)
    ∙ get_or_append_left (seg_bits seg) (bits_from (base + 1) widths) d at (omega (arith, length-seg_bits seg))
    ∙ get_or-seg_bits seg at d low
    ∙ ap (λ k. bit base k) (zero-add at)
    ∙ ap (λ w. bit w at) (sym (add-zero base))
bit-at_from base (n ∷ widths) (suc wire) at d h low =
    let seg : Seg = record { wire = base; lo = 0; width = n } in
    let place = sum (n ∷ take wire widths) + at in
    let past : place - n ≡ sum (take wire widths) + at = omega (arith, sum-cons n (take wire widths)) in
    let up : base + 1 + wire ≡ base + suc wire = omega arith in
    get_or-append_right (seg_bits seg) (bits_from (base + 1) widths) n place d (length-seg_bits seg) (omega (arith, sum-cons n (take wire widths)))
    ∙ ap (λ k. get_or (bits_from (base + 1) widths) k d) past
    ∙ bit-at_from (base + 1) widths wire at d (omega arith) low
    ∙ ap (λ w. bit w at) up

-- the bit at a bit's place is that bit
pub bit-at_place : (widths : List ℕ) (b : WireBit) (d : WireBit) → IsBitOf widths b → get_or (all_bits widths) (place_of widths b) d ≡ b
unfolding place_of all_bits
bit-at_place widths b d is = bit-at_from 0 widths b.wire b.at d is.wire is.place ∙ ap (λ w. bit w b.at) (zero-add b.wire)

-- two bits have two places
pub place-own : (widths : List ℕ) (b c : WireBit) → IsBitOf widths b → IsBitOf widths c → place_of widths b ≡ place_of widths c → b ≡ c
place-own widths b c hb hc is =
    sym (bit-at_place widths b (bit 0 0) hb) ∙ ap (λ p. get_or (all_bits widths) p (bit 0 0)) is ∙ bit-at_place widths c (bit 0 0) hc

bits_from-lie : (base : ℕ) (widths all : List ℕ) → ((k : ℕ) → k < length widths → (base + k < length all) × (get_or all (base + k) 0 ≡ get_or widths k 0)) → All (IsBitOf all) (bits_from base widths)
unfolding bits_from
bits_from-lie base [] all there = All-nil (IsBitOf all)
bits_from-lie base (n ∷ widths) all there =
    let seg : Seg = record { wire = base; lo = 0; width = n } in
    let here = there 0 (omega arith) in
    let width : get_or all base 0 ≡ n = ap (λ j. get_or all j 0) (sym (add-zero base)) ∙ here.1 in
    let P : WireBit → Type 0 = IsBitOf all in
    All-append (IsBitOf all) (seg_bits seg) (bits_from (base + 1) widths)
    (λ k d h.
    let short : k < n = omega (arith, length-seg_bits seg) in
    let inside : base < length all = omega (arith, here.0) in
    let lies : IsBitOf all (bit base (0 + k)) = record { wire = inside; place = omega (arith, width) } in
    subst P (sym (get_or-seg_bits seg k d short)) lies)
    (bits_from-lie (base + 1) widths all
    (λ k h.
    let next = there (suc k) (omega arith) in
    let up : base + 1 + k ≡ base + suc k = omega arith in
    (omega (arith, next.0), ap (λ j. get_or all j 0) up ∙ next.1)))

pub all_bits-lie : (widths : List ℕ) → All (IsBitOf widths) (all_bits widths)
unfolding all_bits
all_bits-lie widths = bits_from-lie 0 widths widths (λ k h. (omega (arith, zero-add k), ap (λ j. get_or widths j 0) (zero-add k)))

-- the bits of the wires have places in the row
pub places-of_bits : (widths starts : List ℕ) (bits : List WireBit) (n : ℕ) → starts ≡ starts_of widths → n ≡ length (all_bits widths) → All (IsBitOf widths) bits → All (HasPlace starts n) bits
places-of_bits widths starts bits n is long all =
    All-weaker (IsBitOf widths) (HasPlace starts n)
    (λ b lies. record {
      wire = omega (arith, ap length is, length-starts_of widths, lies.wire);
      below = omega (arith, ap (λ s. place_in s b) is, place_in-starts_of widths b lies.wire, place-below widths b lies, long);
    })
    bits all
