-- The bits of a segment and of a list of segments, piece by piece.
use Rattle.std.proofs.Common.{◌≡◌, ◌≢◌, ℕ, zero, suc, ◌+◌, ◌-◌, ◌<◌, ◌≤◌, List, [], ◌∷◌, ◌++◌, length, map, sum, Some, get_or, set, take, drop, min, refl, sym, subst, ◌∙◌, ap, arith, append_assoc, length-append, add-zero, zero-add, add-one, inl, inr}
use Rattle.std.specs.Prelude.{slice_get, All, reverse}
use Rattle.std.specs.List.{range_with_len}
use Rattle.std.proofs.lemmas.List.{append-nil, map-append, length-map, take_more, take_all, drop_at, drop_all, drop_more, drop-append-le, length-drop, get_or_append_left, reverse-append, length_push, get_or_at}
use Rattle.std.proofs.lemmas.List.Sums.{sum_by-cons}
use Rattle.std.proofs.lemmas.List.FromFn.{length-map-range_with_len, take-map-range_with_len, get_or-map-range_with_len}
use Rattle.std.proofs.Math.Nat.{zero-sub, sub-zero}
use Rattle.std.proofs.lemmas.Bool.{cases_lt}
use Rattle.lhs_alias.specs.declared.segs.Seg.{Seg}
use Rattle.lhs_alias.specs.declared.segs.WireBit.{WireBit}
use Rattle.lhs_alias.specs.Segs.{bit, seg_bits, lhs_bits, Adjoin, IsSeg, AreSegs}
use Rattle.lhs_alias.specs.Lies.{EndsAbove}

-- a run of numbers in two parts
range-add : (a m n k : ℕ) → m + n ≡ k → range_with_len a k ≡ range_with_len a m ++ range_with_len (a + m) n
range-add a zero n k e = rw (← e, zero-add, add-zero)
range-add a (suc m) n zero e = absurd (omega arith)
range-add a (suc m) n (suc k) e =
    let step : a + 1 + m ≡ a + suc m = omega arith in
    ap (λ r. a ∷ r) (range-add (a + 1) m n k (omega arith) ∙ ap (λ b. range_with_len (a + 1) m ++ range_with_len b n) step)

pub range-push : (n : ℕ) → range_with_len 0 (n + 1) ≡ range_with_len 0 n ++ n ∷ []
range-push n = range-add 0 n 1 (n + 1) refl ∙ ap (λ k. range_with_len 0 n ++ k ∷ []) (zero-add n)

pub ruleset ranges = (range-push)

pub length-seg_bits : (seg : Seg) → length (seg_bits seg) ≡ seg.width
unfolding seg_bits
length-seg_bits seg = length-map-range_with_len (bit seg.wire) seg.lo seg.width

-- two segments that adjoin are one
pub seg_bits-adjoin : (high low : Seg) → Adjoin high low → seg_bits (record { wire = low.wire; lo = low.lo; width = high.width + low.width }) ≡ seg_bits low ++ seg_bits high
unfolding seg_bits
seg_bits-adjoin high low next =
    rw (next.wire, range-add low.lo low.width high.width (high.width + low.width) (omega arith), next.place, map-append)

-- the segment at the end is the lowest
pub lhs_bits-push : (segs : List Seg) (seg : Seg) → lhs_bits (segs ++ seg ∷ []) ≡ seg_bits seg ++ lhs_bits segs
lhs_bits-push [] seg = sym (append-nil (seg_bits seg))
lhs_bits-push (s ∷ segs) seg = ap (λ r. r ++ seg_bits s) (lhs_bits-push segs seg) ∙ append_assoc (seg_bits seg) (lhs_bits segs) (seg_bits s)

united_at : (segs : List Seg) (n : ℕ) (high low : Seg) → n + 1 ≡ length segs → slice_get segs n ≡ Some high → Adjoin high low → lhs_bits (set segs n (record { wire = low.wire; lo = low.lo; width = high.width + low.width })) ≡ seg_bits low ++ lhs_bits segs
united_at [] n high low e is next = absurd (omega arith)
united_at (a ∷ []) zero high low e is next =
    let same : a ≡ high = cc in
    seg_bits-adjoin high low next ∙ ap (λ s. seg_bits low ++ seg_bits s) (sym same)
united_at (a ∷ []) (suc n) high low e is next = absurd (omega arith)
united_at (a ∷ b ∷ segs) zero high low e is next = absurd (omega arith)
united_at (a ∷ b ∷ segs) (suc n) high low e is next =
    ap (λ r. r ++ seg_bits a) (united_at (b ∷ segs) n high low (omega arith) is next) ∙ append_assoc (seg_bits low) (lhs_bits (b ∷ segs)) (seg_bits a)

pub lhs_bits-lowest : (segs : List Seg) (high low : Seg) → slice_get segs (length segs - 1) ≡ Some high → Adjoin high low → lhs_bits (set segs (length segs - 1) (record { wire = low.wire; lo = low.lo; width = high.width + low.width })) ≡ seg_bits low ++ lhs_bits segs
lhs_bits-lowest [] high low is next = cc
lhs_bits-lowest (a ∷ segs) high low is next = united_at (a ∷ segs) (length (a ∷ segs) - 1) high low (omega arith) is next

pub length-lhs_bits : (segs : List Seg) → length (lhs_bits segs) ≡ sum (map (λ s. s.width) segs)
length-lhs_bits [] = refl
length-lhs_bits (s ∷ segs) =
    let widths : List ℕ = map (λ (t : Seg). t.width) segs in
    let parts : length (lhs_bits segs) + length (seg_bits s) ≡ s.width + sum widths = omega (arith, length-seg_bits s, length-lhs_bits segs) in
    length-append (lhs_bits segs) (seg_bits s) ∙ parts ∙ sym (sum_by-cons (λ x. x) s.width widths)

-- one segment more, from the top
pub lhs_bits-take_more : (segs : List Seg) (i : ℕ) (d : Seg) → i < length segs → lhs_bits (take (i + 1) segs) ≡ seg_bits (get_or segs i d) ++ lhs_bits (take i segs)
lhs_bits-take_more segs i d h = ap lhs_bits (take_more segs i d h) ∙ lhs_bits-push (take i segs) (get_or segs i d)

pub lhs_bits-grown : (segs : List Seg) (i : ℕ) (d : Seg) (now before : List WireBit) → now ≡ seg_bits (get_or segs i d) ++ before → before ≡ lhs_bits (take i segs) → i < length segs → now ≡ lhs_bits (take (i + 1) segs)
lhs_bits-grown segs i d now before is so_far h = is ∙ ap (λ r. seg_bits (get_or segs i d) ++ r) so_far ∙ sym (lhs_bits-take_more segs i d h)

pub take-append : {X : Type 0} (n : ℕ) (xs ys : List X) → take n (xs ++ ys) ≡ take n xs ++ take (n - length xs) ys
take-append zero xs ys = rw (zero-sub) refl
take-append (suc n) [] ys = rw (sub-zero) refl
take-append (suc n) (x ∷ xs) ys = ap (λ r. x ∷ r) (take-append n xs ys) ∙ ap (λ k. x ∷ (take n xs ++ take k ys)) (omega arith)

pub drop-append : {X : Type 0} (n : ℕ) (xs ys : List X) → drop n (xs ++ ys) ≡ drop n xs ++ drop (n - length xs) ys
drop-append zero xs ys = rw (zero-sub) refl
drop-append (suc n) [] ys = rw (sub-zero) refl
drop-append (suc n) (x ∷ xs) ys = drop-append n xs ys ∙ ap (λ k. drop n xs ++ drop k ys) (omega arith)

pub lhs_bits-append : (high low : List Seg) → lhs_bits (high ++ low) ≡ lhs_bits low ++ lhs_bits high
lhs_bits-append [] low = sym (append-nil (lhs_bits low))
lhs_bits-append (s ∷ high) low = ap (λ r. r ++ seg_bits s) (lhs_bits-append high low) ∙ append_assoc (lhs_bits low) (lhs_bits high) (seg_bits s)

take-range : (f : ℕ → WireBit) (lo n most : ℕ) → take most (map f (range_with_len lo n)) ≡ map f (range_with_len lo (min most n))
take-range f lo n most = elim (cases_lt most n) [
  | inl short ↦ take-map-range_with_len f lo n most (omega arith) ∙ ap (λ k. map f (range_with_len lo k)) (omega arith)
  | inr long ↦ take_all most (map f (range_with_len lo n)) (omega (arith, length-map-range_with_len f lo n)) ∙ ap (λ k. map f (range_with_len lo k)) (omega arith)
]

drop-range : (f : ℕ → WireBit) (lo n skip : ℕ) → skip ≤ n → drop skip (map f (range_with_len lo n)) ≡ map f (range_with_len (lo + skip) (n - skip))
drop-range f lo n skip within =
    rw (range-add lo skip (n - skip) n (omega arith), map-append)
    (drop_at (map f (range_with_len lo skip)) (map f (range_with_len (lo + skip) (n - skip))) skip (length-map-range_with_len f lo skip))

-- some of a segment's bits
pub seg_bits-part : (seg : Seg) (skip most count : ℕ) → skip < seg.width → count ≡ min most (seg.width - skip) → seg_bits (record { wire = seg.wire; lo = seg.lo + skip; width = count }) ≡ take most (drop skip (seg_bits seg))
unfolding seg_bits
seg_bits-part seg skip most count within is =
    rw (drop-range (bit seg.wire) seg.lo seg.width skip (omega arith), take-range (bit seg.wire) (seg.lo + skip) (seg.width - skip) most, is) refl

-- a segment that grows at its upper end
pub seg_bits-none : (wire lo : ℕ) → seg_bits (record { wire = wire; lo = lo; width = 0 }) ≡ []
unfolding seg_bits
seg_bits-none wire lo = refl

pub seg_bits-more : (wire n : ℕ) → seg_bits (record { wire = wire; lo = 0; width = n + 1 }) ≡ seg_bits (record { wire = wire; lo = 0; width = n }) ++ bit wire n ∷ []
unfolding seg_bits
seg_bits-more wire n = rw (range-push n, map-append)

pub seg_bits-one : (wire lo : ℕ) → seg_bits (record { wire = wire; lo = lo; width = 1 }) ≡ bit wire lo ∷ []
unfolding seg_bits
seg_bits-one wire lo = refl

pub get_or-seg_bits : (seg : Seg) (k : ℕ) (d : WireBit) → k < seg.width → get_or (seg_bits seg) k d ≡ bit seg.wire (seg.lo + k)
unfolding seg_bits
get_or-seg_bits seg k d within = get_or-map-range_with_len (bit seg.wire) seg.lo seg.width k (seg.lo + k) d within refl

-- the next bit of the lowest segment
pub drop-lhs_bits : (segs higher : List Seg) (low : Seg) (used : ℕ) → segs ≡ higher ++ low ∷ [] → used < low.width → drop used (lhs_bits segs) ≡ bit low.wire (low.lo + used) ∷ drop (used + 1) (lhs_bits segs)
drop-lhs_bits segs higher low used is within =
    let bits : lhs_bits segs ≡ seg_bits low ++ lhs_bits higher = rw (is) (lhs_bits-push higher low) in
    let long : used < length (lhs_bits segs) = rw (bits) (omega (arith, length-append (seg_bits low) (lhs_bits higher), length-seg_bits low)) in
    let here : get_or (lhs_bits segs) used (bit 0 0) ≡ bit low.wire (low.lo + used) =
    ap (λ r. get_or r used (bit 0 0)) bits ∙ get_or_append_left (seg_bits low) (lhs_bits higher) (bit 0 0) used (omega (arith, length-seg_bits low)) ∙ get_or-seg_bits low used (bit 0 0) within in
    drop_more (lhs_bits segs) used (bit 0 0) long ∙ ap (λ r. r ∷ drop (used + 1) (lhs_bits segs)) here

-- past the lowest segment
pub drop-lowest : (segs higher : List Seg) (low : Seg) (used : ℕ) → segs ≡ higher ++ low ∷ [] → used + 1 ≡ low.width → drop (used + 1) (lhs_bits segs) ≡ lhs_bits higher
drop-lowest segs higher low used is all =
    rw (is, lhs_bits-push higher low) (drop_at (seg_bits low) (lhs_bits higher) (used + 1) (omega (arith, length-seg_bits low)))

-- a range of bits begins in the lowest segment
pub cut-within : (segs higher : List Seg) (low part : Seg) (skip left : ℕ) → segs ≡ higher ++ low ∷ [] → skip < low.width → seg_bits part ≡ take left (drop skip (seg_bits low)) → part.width ≡ min left (low.width - skip) → seg_bits part ++ take (left - part.width) (lhs_bits higher) ≡ take left (drop skip (lhs_bits segs))
cut-within segs higher low part skip left is within bits width =
    let lowest = seg_bits low in
    let above = lhs_bits higher in
    let fits : skip ≤ length lowest = omega (arith, length-seg_bits low) in
    let left_over : left - length (drop skip lowest) ≡ left - part.width = omega (arith, length-drop skip lowest, length-seg_bits low) in
    let all : lhs_bits segs ≡ lowest ++ above = rw (is) (lhs_bits-push higher low) in
    sym (ap (λ r. take left (drop skip r)) all
    ∙ ap (λ r. take left r) (drop-append-le skip lowest above fits)
    ∙ take-append left (drop skip lowest) above
    ∙ ap (λ k. take left (drop skip lowest) ++ take k above) left_over
    ∙ ap (λ r. r ++ take (left - part.width) above) (sym bits))

-- a range of bits begins above the lowest segment
pub cut-past : (segs higher : List Seg) (low : Seg) (skip left : ℕ) → segs ≡ higher ++ low ∷ [] → low.width ≤ skip → take left (drop (skip - low.width) (lhs_bits higher)) ≡ take left (drop skip (lhs_bits segs))
cut-past segs higher low skip left is past =
    rw (is, lhs_bits-push higher low, drop-append skip (seg_bits low) (lhs_bits higher), drop_all skip (seg_bits low) (omega (arith, length-seg_bits low)), length-seg_bits low) refl

-- one more part of a range, of which the first parts are cut out
pub cut-part : (parts new segs higher : List Seg) (low part : Seg) (skip left : ℕ) (whole : List WireBit) → new ≡ parts ++ part ∷ [] → segs ≡ higher ++ low ∷ [] → skip < low.width → seg_bits part ≡ take left (drop skip (seg_bits low)) → part.width ≡ min left (low.width - skip) → lhs_bits (reverse parts) ++ take left (drop skip (lhs_bits segs)) ≡ whole → lhs_bits (reverse new) ++ take (left - part.width) (lhs_bits higher) ≡ whole
cut-part parts new segs higher low part skip left whole pushed is within bits width so_far =
    let rest = take (left - part.width) (lhs_bits higher) in
    let turned : reverse new ≡ part ∷ reverse parts = ap reverse pushed ∙ reverse-append parts (part ∷ []) in
    ap (λ r. lhs_bits r ++ rest) turned
    ∙ append_assoc (lhs_bits (reverse parts)) (seg_bits part) rest
    ∙ ap (λ r. lhs_bits (reverse parts) ++ r) (cut-within segs higher low part skip left is within bits width)
    ∙ so_far

pub length-lowest : (segs higher : List Seg) (low : Seg) → segs ≡ higher ++ low ∷ [] → length (lhs_bits segs) ≡ low.width + length (lhs_bits higher)
length-lowest segs higher low is =
    ap (λ r. length (lhs_bits r)) is ∙ ap length (lhs_bits-push higher low) ∙ length-append (seg_bits low) (lhs_bits higher) ∙ ap (λ n. n + length (lhs_bits higher)) (length-seg_bits low)

pub used-lowest : (segs higher : List Seg) (low : Seg) (used : ℕ) → segs ≡ higher ++ low ∷ [] → EndsAbove used segs → used < low.width
used-lowest segs higher low used is ends =
    let long : length segs ≡ length higher + 1 = ap length is ∙ length_push higher low in
    let here : get_or segs (length segs - 1) low ≡ low =
    ap (λ r. get_or r (length segs - 1) low) is ∙ get_or_at higher low [] low (length segs - 1) (omega arith) in
    let P : Seg → Type 0 = λ s. used < s.width in
    subst P here (ends low (omega arith))

pub All-front : {X : Type 0} (P : X → Type 0) (xs front : List X) (x : X) → xs ≡ front ++ x ∷ [] → All P xs → All P front
All-front {X} P xs front x is all k d h =
    let Q : List X → Type 0 = All P in
    let whole = subst Q is all in
    let near = whole k d (omega (arith, length_push front x)) in
    subst P (get_or_append_left front (x ∷ []) d k h) near

-- what is left of a list past its lowest segment
pub ends-lower : (segs higher : List Seg) (low : Seg) → segs ≡ higher ++ low ∷ [] → AreSegs segs → AreSegs higher × EndsAbove 0 higher
ends-lower segs higher low is all =
    let front : AreSegs higher = All-front IsSeg segs higher low is all in
    (front, λ d some. omega (arith, (front (length higher - 1) d (omega arith)).some))

-- one bit more of the lowest segment, which was not its last
pub ends-more : (segs higher : List Seg) (low : Seg) (used : ℕ) → segs ≡ higher ++ low ∷ [] → EndsAbove used segs → used + 1 ≢ low.width → EndsAbove (used + 1) segs
ends-more segs higher low used is ends more =
    let below = used-lowest segs higher low used is ends in
    let long : length segs ≡ length higher + 1 = ap length is ∙ length_push higher low in
    let P : Seg → Type 0 = λ s. used + 1 < s.width in
    λ d some.
    let here : get_or segs (length segs - 1) d ≡ low = ap (λ r. get_or r (length segs - 1) d) is ∙ get_or_at higher low [] d (length segs - 1) (omega arith) in
    subst P (sym here) (omega (arith, below, more))

pub ruleset lhs_lengths = (length-lhs_bits)

pub ruleset lhs_pieces = (lhs_bits-push, lhs_bits-append, lhs_bits-lowest, lhs_bits-take_more)

pub ruleset seg_parts = (seg_bits-part)

pub ruleset seg_grows = (seg_bits-none, seg_bits-more, append-nil)
