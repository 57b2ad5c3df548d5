-- Parts of a padded vector are windows of the vector.
use Rattle.std.proofs.Common.{◌≡◌, ℕ, zero, suc, ◌+◌, ◌-◌, ◌*◌, ◌<◌, ◌≤◌, inl, inr, Bool, true, false, cond, List, [], ◌++◌, length, get_or, take, drop, map, replicate, refl, sym, ap, subst, ◌∙◌, arith}
use Rattle.std.specs.Prelude.{ℤ, pos, negsuc, ◌+ℤ◌}
use Rattle.std.proofs.lemmas.Int.{ints}
use Rattle.std.proofs.lemmas.Bool.{cases_lt}
use Rattle.std.proofs.lemmas.List.{length-map, length-append, length-replicate, length-drop, length-take-le, map-append, get_or-map, get_or_append_left, get_or-append_right, get_or_past, get_or-take, get_or-drop, get_or-replicate, ext_get_or}
use Rattle.std.proofs.lemmas.List.FromFn.{get_or-map-range_with_len, length-map-range_with_len}
use Rattle.fourvec.specs.declared.Bit.{Bit}
use Rattle.fourvec.specs.declared.Bit.TheVariants.{Unknown}
use Rattle.fourvec.specs.declared.Spot.{Spot}
use Rattle.fourvec.specs.Bits.{all_x, is_known}
use Rattle.fourvec.specs.Spots.{reached, place_of, bit_from, window, dyn_slice_of}
use Rattle.fourvec.proofs.Widths.{length-window}
use Rattle.fourvec.proofs.Places.{place_parts, parts}
use Rattle.pair_words.specs.declared.pairs.Pair.{Pair}
use Rattle.std.specs.List.{All}
use Rattle.std.proofs.lemmas.List.Elements.{All-append, All-take, All-drop, All-replicate}
use Rattle.std.proofs.lemmas.Nat.{mul-le}
use Rattle.aig.specs.declared.gate.Gate.{Gate}
use Rattle.pair_words.specs.Rails.{bit_at, bits, IsWired, IsVector}
use Rattle.pair_words.specs.Truths.{truths}
use Rattle.pair_words.specs.Ways.{constant_pair}
use Rattle.pair_words.specs.Starts.{picked, back_of, far_of, begin_at, padded, parts_of}
use Rattle.pair_words.proofs.Truths.{known_is}
use Rattle.pair_words.proofs.Moving.{constant_is, constant_wired, replicate_is}
use Rattle.pair_words.proofs.Moving.{slice_is}

abbrev padded_bits : ℕ → List Bit → List Bit
padded_bits p a = replicate p Unknown ++ (a ++ replicate p Unknown)

pub padded_is : (v : ℕ → Bool) (p : ℕ) (a : List Pair) → v 0 ≡ false → bits v (padded p a) ≡ padded_bits p (bits v a)
padded_is v p a h =
    let x : Pair = constant_pair Unknown in
    let xs : bits v (replicate p x) ≡ replicate p Unknown = replicate_is v p x ∙ ap (λ (t : Bit). replicate p t) (constant_is v Unknown h) in
    map-append (bit_at v) (replicate p x) (a ++ replicate p x) ∙ ap (λ (t : List Bit). t ++ bits v (a ++ replicate p x)) xs ∙
    ap (λ (t : List Bit). replicate p Unknown ++ t) (map-append (bit_at v) a (replicate p x) ∙ ap (λ (t : List Bit). bits v a ++ t) xs)

pub length-padded : (p : ℕ) (a : List Pair) → length (padded p a) ≡ p + length a + p
length-padded p a =
    let x : Pair = constant_pair Unknown in
    omega (arith, length-append (replicate p x) (a ++ replicate p x), length-append a (replicate p x), length-replicate p x)

length-padded_bits : (p : ℕ) (a : List Bit) → length (padded_bits p a) ≡ p + length a + p
length-padded_bits p a = omega (arith, length-append (replicate p Unknown) (a ++ replicate p Unknown), length-append a (replicate p Unknown), length-replicate p Unknown)

x_at : (n j : ℕ) → get_or (replicate n Unknown) j Unknown ≡ Unknown
x_at n j = elim (cases_lt j n) [
  | inl lt ↦ get_or-replicate n j Unknown Unknown lt
  | inr le ↦ get_or_past (replicate n Unknown) j Unknown (omega (arith, length-replicate n Unknown))
]

pad_at : (a : List Bit) (p m : ℕ) (z : ℤ) → z +ℤ pos p ≡ pos m → get_or (padded_bits p a) m Unknown ≡ bit_from a z
pad_at a p m (pos i) e =
    let at : m ≡ i + p = omega (arith, ints, e) in
    let back : m - p ≡ i = omega (arith, at) in
    get_or-append_right (replicate p Unknown) (a ++ replicate p Unknown) p m Unknown (length-replicate p Unknown) (omega (arith, at)) ∙
    ap (λ k. get_or (a ++ replicate p Unknown) k Unknown) back ∙
    elim (cases_lt i (length a)) [
      | inl lt ↦ get_or_append_left a (replicate p Unknown) Unknown i lt
      | inr le ↦ get_or-append_right a (replicate p Unknown) (length a) i Unknown refl le ∙ x_at p (i - length a) ∙ sym (get_or_past a i Unknown le)
    ]
pad_at a p m (negsuc i) e =
    let low : m < p = omega (arith, ints, e) in
    get_or_append_left (replicate p Unknown) (a ++ replicate p Unknown) Unknown m (omega (arith, low, length-replicate p Unknown)) ∙ x_at p m

pad_past : (a : List Bit) (p m : ℕ) → p + length a ≤ m → get_or (padded_bits p a) m Unknown ≡ Unknown
pad_past a p m le =
    get_or-append_right (replicate p Unknown) (a ++ replicate p Unknown) p m Unknown (length-replicate p Unknown) (omega arith) ∙
    get_or-append_right a (replicate p Unknown) (length a) (m - p) Unknown refl (omega arith) ∙ x_at p (m - p - length a)

window_at : (a : List Bit) (z : ℤ) (w k : ℕ) (d : Bit) → k < w → get_or (window a z w) k d ≡ bit_from a (z +ℤ pos k)
unfolding window
window_at a z zero k d lt = absurd (omega arith)
window_at a z (suc w) zero d lt = ap (bit_from a) (let e : z ≡ z +ℤ pos 0 = omega (arith, ints) in e)
window_at a z (suc w) (suc k) d lt = window_at a (z +ℤ pos 1) w k d (omega arith) ∙ ap (bit_from a) (let e : z +ℤ pos 1 +ℤ pos k ≡ z +ℤ pos (suc k) = omega (arith, ints) in e)

below_x : (a : List Bit) (y : ℤ) (p n k : ℕ) → y +ℤ pos p ≡ negsuc n +ℤ pos k → k ≤ p → bit_from a y ≡ Unknown
below_x a (pos i) p n k e le = absurd (let h : i + p + n + 1 ≡ k = omega (arith, ints, e) in omega arith)
below_x a (negsuc i) p n k e le = refl

-- the part at a place, where the vector has bits there, is the window, and all others are X
pub windows_are : (v : ℕ → Bool) (a : List Pair) (w : ℕ) (z q : ℤ) → v 0 ≡ false → 0 < length a → 0 < w → z +ℤ pos (w - 1) ≡ q →
    picked (map (bits v) (parts_of w (padded (w - 1) a))) q (all_x w) ≡ window (bits v a) z w
windows_are v a w z (pos n) h more some e =
    let p : ℕ = w - 1 in
    let A : List Bit = bits v a in
    let P : List Pair = padded p a in
    let count : ℕ = length P - w + 1 in
    let f : ℕ → List Pair = λ t. take w (drop t P) in
    let ps : List (List Pair) = parts_of w P in
    let long : length ps ≡ count = length-map-range_with_len f 0 count in
    let wide : length (window A z w) ≡ w = length-window A z w in
    let size : length P ≡ p + length a + p = length-padded p a in
    elim (cases_lt n count) [
      | inl lt ↦
          let inside : n + w ≤ length P = omega (arith, size, more, some, lt) in
          let PB : List Bit = padded_bits p A in
          let pb : bits v P ≡ PB = padded_is v p a h in
          let sb : length (bits v P) ≡ length P = length-map P (bit_at v) in
          let tl : length (take w (drop n (bits v P))) ≡ w = length-take-le w (drop n (bits v P)) (omega (arith, length-drop n (bits v P), sb, inside)) in
          get_or-map (bits v) ps n [] (all_x w) (omega (arith, long, lt)) ∙
          ap (λ (t : List Pair). bits v t) (get_or-map-range_with_len f 0 count n n [] lt (omega arith)) ∙ slice_is v P n w ∙
          ext_get_or Unknown (take w (drop n (bits v P))) (window A z w) (tl ∙ sym wide) (λ k below.
          let kw : k < w = subst (λ m. k < m) tl below in
          get_or-take w (drop n (bits v P)) k Unknown kw ∙ get_or-drop n (bits v P) k Unknown ∙ ap (λ (t : List Bit). get_or t (n + k) Unknown) pb ∙
          pad_at A p (n + k) (z +ℤ pos k) (let g : z +ℤ pos k +ℤ pos p ≡ pos (n + k) = omega (arith, ints, e) in g) ∙ sym (window_at A z w k Unknown kw))
      | inr le ↦
          get_or_past (map (bits v) ps) n (all_x w) (omega (arith, length-map ps (bits v), long, le)) ∙
          ext_get_or Unknown (all_x w) (window A z w) (length-replicate w Unknown ∙ sym wide) (λ k below.
          let kw : k < w = subst (λ m. k < m) (length-replicate w Unknown) below in
          x_at w k ∙ sym (window_at A z w k Unknown kw ∙ sym (pad_at A p (n + k) (z +ℤ pos k) (let g : z +ℤ pos k +ℤ pos p ≡ pos (n + k) = omega (arith, ints, e) in g)) ∙
          pad_past A p (n + k) (omega (arith, length-map a (bit_at v), size, le, more, some))))
    ]
windows_are v a w z (negsuc n) h more some e =
    let A : List Bit = bits v a in
    ext_get_or Unknown (all_x w) (window A z w) (length-replicate w Unknown ∙ sym (length-window A z w)) (λ k below.
    let kw : k < w = subst (λ m. k < m) (length-replicate w Unknown) below in
    x_at w k ∙ sym (window_at A z w k Unknown kw ∙ below_x A (z +ℤ pos k) (w - 1) n k (let g : z +ℤ pos k +ℤ pos (w - 1) ≡ negsuc n +ℤ pos k = omega (arith, ints, e) in g) (omega arith)))

-- where the parts are counted from
pub counted_from : (spot : Spot) (at : List Bit) (back sb : Bool) (far sf : ℕ) → back ≡ back_of spot at → far ≡ far_of spot at → reached sb sf ≡ spot.add +ℤ pos (spot.width - 1) →
    place_of spot at +ℤ pos (spot.width - 1) ≡ begin_at back far spot.each sb sf
counted_from spot at back sb far sf eb ef es =
    let r : ℤ = reached (back_of spot at) (far_of spot at * spot.each) in
    let place : place_of spot at ≡ r +ℤ spot.add = place_parts spot at ∙ ap (λ z. r +ℤ z) (sym (parts spot.add)) in
    let whole : r +ℤ spot.add +ℤ pos (spot.width - 1) ≡ r +ℤ (spot.add +ℤ pos (spot.width - 1)) = omega (arith, ints) in
    ap (λ z. z +ℤ pos (spot.width - 1)) place ∙ whole ∙ ap (λ z. r +ℤ z) (sym es) ∙ (λ i. reached (sym eb i) (sym ef i * spot.each) +ℤ reached sb sf)

pub slice_by : (v : ℕ → Bool) (spot : Spot) (a at : List Pair) (back sb known : Bool) (far sf : ℕ) (plain word none : List Bit) → v 0 ≡ false → 0 < length a → 0 < spot.width → known ≡ is_known (bits v at) →
    back ≡ back_of spot (truths v (map (λ q. q.up) at)) → far ≡ far_of spot (truths v (map (λ q. q.up) at)) → reached sb sf ≡ spot.add +ℤ pos (spot.width - 1) → none ≡ all_x spot.width →
    plain ≡ picked (map (bits v) (parts_of spot.width (padded (spot.width - 1) a))) (begin_at back far spot.each sb sf) none → word ≡ cond known plain (all_x spot.width) →
    word ≡ dyn_slice_of (bits v a) (bits v at) spot
unfolding dyn_slice_of
slice_by v spot a at back sb true far sf plain word none h more some ek eb ef es en ep ew =
    let T : List Bit = truths v (map (λ q. q.up) at) in
    let same : bits v at ≡ T = known_is v at (sym ek) in
    let q : ℤ = begin_at back far spot.each sb sf in
    ew ∙ ep ∙ ap (λ (t : List Bit). picked (map (bits v) (parts_of spot.width (padded (spot.width - 1) a))) q t) en ∙
    windows_are v a spot.width (place_of spot T) q h more some (counted_from spot T back sb far sf eb ef es) ∙
    ap (λ (t : List Bit). window (bits v a) (place_of spot t) spot.width) (sym same) ∙ ap (λ b. cond b (window (bits v a) (place_of spot (bits v at)) spot.width) (all_x spot.width)) ek
slice_by v spot a at back sb false far sf plain word none h more some ek eb ef es en ep ew =
    ew ∙ ap (λ b. cond b (window (bits v a) (place_of spot (bits v at)) spot.width) (all_x spot.width)) ek

pub padded_in : (gates : List Gate) (p : ℕ) (a : List Pair) → 0 < length gates → All (IsWired gates) a → All (IsWired gates) (padded p a)
padded_in gates p a some h =
    let xs : All (IsWired gates) (replicate p (constant_pair Unknown)) = All-replicate (IsWired gates) p (constant_pair Unknown) (constant_wired gates Unknown some) in
    All-append (IsWired gates) (replicate p (constant_pair Unknown)) (a ++ replicate p (constant_pair Unknown)) xs (All-append (IsWired gates) a (replicate p (constant_pair Unknown)) h xs)

pub parts_in : (gates : List Gate) (w m : ℕ) (pad : List Pair) → w ≡ m → w ≤ length pad → All (IsWired gates) pad → All (IsVector gates m) (parts_of w pad)
parts_in gates w m pad same le h = λ k d lt.
    let f : ℕ → List Pair = λ t. take w (drop t pad) in
    let count : ℕ = length pad - w + 1 in
    let below : k < count = omega (arith, length-map-range_with_len f 0 count, lt) in
    let e : get_or (parts_of w pad) k d ≡ f k = get_or-map-range_with_len f 0 count k k d below (omega arith) in
    subst (λ (x : List Pair). IsVector gates m x) (sym e) (record {
      long = length-take-le w (drop k pad) (omega (arith, length-drop k pad)) ∙ same;
      inside = All-take (IsWired gates) w (drop k pad) (All-drop (IsWired gates) k pad h);
    })

pub length-parts : (w : ℕ) (pad : List Pair) → length (parts_of w pad) ≡ length pad - w + 1
length-parts w pad = length-map-range_with_len (λ t. take w (drop t pad)) 0 (length pad - w + 1)

pub places_fit : (a t w n : ℕ) → 0 < w → a ≤ n → t ≤ n → w ≤ n → (2 * t + 3 + 6 * w) * (a + w - 1) + 14 * t + 2 * w ≤ 256 * n * n
places_fit a t w n some la lt lw =
    let few : 2 * t + 3 + 6 * w ≤ 11 * n = omega arith in
    let both : a + w - 1 ≤ 2 * n = omega arith in
    let h = mul-le (2 * t + 3 + 6 * w) (a + w - 1) (11 * n) (2 * n) few both in
    let one = mul-le 1 n n n (omega arith) (omega arith) in
    omega (arith, h, one)
