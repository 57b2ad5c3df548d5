-- A vector with another in place of a part of it.
use Rattle.std.proofs.Common.{◌≡◌, ℕ, zero, suc, ◌+◌, ◌-◌, ◌*◌, ◌<◌, ◌≤◌, inl, inr, Bool, true, false, ◌&&◌, cond, List, [], ◌∷◌, ◌++◌, length, get_or, take, drop, map, replicate, refl, sym, ap, subst, ◌∙◌, arith}
use Rattle.std.specs.Prelude.{ℤ, pos, negsuc, neg_ℤ, ◌+ℤ◌}
use Rattle.std.specs.List.{All}
use Rattle.std.proofs.lemmas.Int.{ints}
use Rattle.std.proofs.lemmas.Bool.{cases_lt}
use Rattle.std.proofs.lemmas.Nat.{mul-le}
use Rattle.std.proofs.lemmas.List.{length-map, length-append, length-replicate, length-drop, length-take-le, map-append, take-map, drop-map, get_or-map, get_or_append_left, get_or-append_right, get_or_past, get_or_default, get_or-take, get_or-drop, ext_get_or, map_more}
use Rattle.std.proofs.lemmas.List.FromFn.{get_or-map-range_with_len, length-map-range_with_len}
use Rattle.std.proofs.lemmas.List.Elements.{All-append, All-take, All-drop}
use Rattle.aig.specs.declared.gate.Gate.{Gate}
use Rattle.fourvec.specs.declared.Bit.{Bit}
use Rattle.fourvec.specs.declared.Bit.TheVariants.{Zero, One, Unknown, Floating}
use Rattle.fourvec.specs.declared.Spot.{Spot}
use Rattle.fourvec.specs.Bits.{each, each_pair, keep_bit, same_bit, is_known}
use Rattle.fourvec.specs.Spots.{reached, place_of, bit_or_else, overlaid, all_are, kept_bit, dyn_put_of}
use Rattle.fourvec.proofs.Tables.{same_on_bits}
use Rattle.fourvec.proofs.Widths.{length-overlaid}
use Rattle.pair_words.specs.declared.pairs.Pair.{Pair}
use Rattle.pair_words.specs.Rails.{bit_at, bits, IsWired, IsVector}
use Rattle.pair_words.specs.Truths.{truths}
use Rattle.pair_words.specs.Starts.{picked, back_of, far_of, begin_at, padded, laid, laid_of}
use Rattle.pair_words.proofs.Truths.{known_is}
use Rattle.pair_words.proofs.Moving.{slice_is}
use Rattle.pair_words.proofs.Windows.{padded_is, length-padded, counted_from}

-- ---- bits that stay under every bit of another vector

all_are-push : (x b : Bit) (ps : List Bit) → all_are x (ps ++ b ∷ []) ≡ (all_are x ps && same_bit x b)
unfolding all_are
all_are-push x b [] = and_end (same_bit x b)
  where
    and_end : (t : Bool) → (t && true) ≡ t
    and_end true = refl
    and_end false = refl
all_are-push x b (p ∷ ps) = ap (λ t. same_bit x p && t) (all_are-push x b ps) ∙ assoc (same_bit x p) (all_are x ps) (same_bit x b)
  where
    assoc : (r s t : Bool) → (r && (s && t)) ≡ ((r && s) && t)
    assoc true s t = refl
    assoc false s t = refl

keep_x : (b : Bit) → keep_bit Unknown b ≡ Unknown
keep_x Zero = refl
keep_x One = refl
keep_x Unknown = refl
keep_x Floating = refl

kept-push : (ps : List Bit) (x b : Bit) → keep_bit (kept_bit ps x) b ≡ kept_bit (ps ++ b ∷ []) x
unfolding kept_bit
kept-push ps x b = by_all (all_are x ps) ∙ ap (λ t. cond t x Unknown) (sym (all_are-push x b ps))
  where
    by_all : (s : Bool) → keep_bit (cond s x Unknown) b ≡ cond (s && same_bit x b) x Unknown
    by_all true = same_on_bits (λ a b. keep_bit a b) (λ a b. cond (same_bit a b) a Unknown) refl x b
    by_all false = keep_x b

pub kept_start : (a : List Bit) → a ≡ each (kept_bit []) a
unfolding each kept_bit all_are
kept_start [] = refl
kept_start (x ∷ a) = ap (λ (t : List Bit). x ∷ t) (kept_start a)

kept_pairs : (ps : List Bit) (b : Bit) (a : List Bit) → each_pair keep_bit (each (kept_bit ps) a) (replicate (length a) b) ≡ each (kept_bit (ps ++ b ∷ [])) a
unfolding each each_pair
kept_pairs ps b [] = refl
kept_pairs ps b (x ∷ a) = ap (λ (t : Bit). t ∷ each_pair keep_bit (each (kept_bit ps) a) (replicate (length a) b)) (kept-push ps x b) ∙ ap (λ (t : List Bit). kept_bit (ps ++ b ∷ []) x ∷ t) (kept_pairs ps b a)

pub kept_more : (v : ℕ → Bool) (a put : List Pair) (j : ℕ) (d : Pair) (word same next : List Bit) → j < length put → word ≡ each (kept_bit (bits v (take j put))) (bits v a) → same ≡ replicate (length a) (bit_at v (get_or put j d)) →
    next ≡ each_pair keep_bit word same → next ≡ each (kept_bit (bits v (take (j + 1) put))) (bits v a)
kept_more v a put j d word same next lt ew es en =
    let ps : List Bit = bits v (take j put) in
    let b : Bit = bit_at v (get_or put j d) in
    en ∙ (λ i. each_pair keep_bit (ew i) (es i)) ∙ ap (λ n. each_pair keep_bit (each (kept_bit ps) (bits v a)) (replicate n b)) (sym (length-map a (bit_at v))) ∙
    kept_pairs ps b (bits v a) ∙ ap (λ (t : List Bit). each (kept_bit t) (bits v a)) (sym (map_more (bit_at v) put j d lt))

-- ---- laid parts

overlaid_at : (a : List Bit) (z : ℤ) (put : List Bit) (k : ℕ) (d : Bit) → k < length a → get_or (overlaid a z put) k d ≡ bit_or_else put (neg_ℤ z +ℤ pos k) (get_or a k d)
unfolding overlaid
overlaid_at [] z put k d lt = absurd (omega arith)
overlaid_at (x ∷ a) z put zero d lt = ap (λ y. bit_or_else put y x) (let e : neg_ℤ z ≡ neg_ℤ z +ℤ pos 0 = omega (arith, ints) in e)
overlaid_at (x ∷ a) z put (suc k) d lt = overlaid_at a (z +ℤ negsuc 0) put k d (omega arith) ∙ ap (λ y. bit_or_else put y (get_or a k d)) (let e : neg_ℤ (z +ℤ negsuc 0) +ℤ pos k ≡ neg_ℤ z +ℤ pos (suc k) = omega (arith, ints) in e)

abbrev laid_bits : List Bit → ℕ → List Bit → ℕ → ℕ → List Bit
laid_bits P t put p n = take n (drop p (take t P ++ (put ++ drop (t + length put) P)))

laid_is : (v : ℕ → Bool) (P put : List Pair) (t p n : ℕ) → bits v (laid P put p n t) ≡ laid_bits (bits v P) t (bits v put) p n
laid_is v P put t p n =
    let tail : bits v (put ++ drop (t + length put) P) ≡ bits v put ++ drop (t + length (bits v put)) (bits v P) =
    map-append (bit_at v) put (drop (t + length put) P) ∙ ap (λ (x : List Bit). bits v put ++ x) (sym (drop-map (bit_at v) (t + length put) P)) ∙ ap (λ m. bits v put ++ drop (t + m) (bits v P)) (sym (length-map put (bit_at v))) in
    slice_is v (take t P ++ (put ++ drop (t + length put) P)) p n ∙
    ap (λ (x : List Bit). take n (drop p x)) (map-append (bit_at v) (take t P) (put ++ drop (t + length put) P) ∙ (λ i. sym (take-map (bit_at v) t P) i ++ tail i))

-- a bit of a padded vector
mid_at : (a : List Bit) (p k : ℕ) (d : Bit) → k < length a → get_or (replicate p Unknown ++ (a ++ replicate p Unknown)) (p + k) d ≡ get_or a k d
mid_at a p k d lt =
    get_or-append_right (replicate p Unknown) (a ++ replicate p Unknown) p (p + k) d (length-replicate p Unknown) (omega arith) ∙
    ap (λ j. get_or (a ++ replicate p Unknown) j d) (let e : p + k - p ≡ k = omega arith in e) ∙ get_or_append_left a (replicate p Unknown) d k lt

-- what is laid at a place
laid_at : (P put : List Bit) (t m : ℕ) (d : Bit) → t + length put ≤ length P → m < length P → get_or (take t P ++ (put ++ drop (t + length put) P)) m d ≡ bit_or_else put (pos m +ℤ neg_ℤ (pos t)) (get_or P m d)
laid_at P put t m d fits inside =
    let front : length (take t P) ≡ t = length-take-le t P (omega arith) in
    elim (cases_lt m t) [
      | inl lt ↦
          let z : pos m +ℤ neg_ℤ (pos t) ≡ negsuc (t - suc m) = omega (arith, ints) in
          get_or_append_left (take t P) (put ++ drop (t + length put) P) d m (omega (arith, front)) ∙ get_or-take t P m d lt ∙ sym (ap (λ y. bit_or_else put y (get_or P m d)) z)
      | inr le ↦
          let z : pos m +ℤ neg_ℤ (pos t) ≡ pos (m - t) = omega (arith, ints) in
          get_or-append_right (take t P) (put ++ drop (t + length put) P) t m d front le ∙
          elim (cases_lt (m - t) (length put)) [
            | inl low ↦ get_or_append_left put (drop (t + length put) P) d (m - t) low ∙ get_or_default put (m - t) d (get_or P m d) low
            | inr high ↦ get_or-append_right put (drop (t + length put) P) (length put) (m - t) d refl high ∙ get_or-drop (t + length put) P (m - t - length put) d ∙
                ap (λ j. get_or P j d) (let e : t + length put + (m - t - length put) ≡ m = omega arith in e) ∙ sym (get_or_past put (m - t) (get_or P m d) high)
          ] ∙ sym (ap (λ y. bit_or_else put y (get_or P m d)) z)
    ]

-- the part at a place, where the vectors overlap, is the overlaid vector, and elsewhere that is the vector
pub laid_are : (v : ℕ → Bool) (a put : List Pair) (z q : ℤ) → v 0 ≡ false → 0 < length a → 0 < length put → z +ℤ pos (length put - 1) ≡ q →
    picked (map (bits v) (laid_of (padded (length put - 1) a) put (length put - 1) (length a))) q (bits v a) ≡ overlaid (bits v a) z (bits v put)
laid_are v a put z (pos n) h more some e =
    let p : ℕ = length put - 1 in
    let A : List Bit = bits v a in
    let B : List Bit = bits v put in
    let P : List Pair = padded p a in
    let count : ℕ = length P - length put + 1 in
    let f : ℕ → List Pair = λ t. laid P put p (length a) t in
    let ps : List (List Pair) = laid_of P put p (length a) in
    let long : length ps ≡ count = length-map-range_with_len f 0 count in
    let wa : length A ≡ length a = length-map a (bit_at v) in
    let wb : length B ≡ length put = length-map put (bit_at v) in
    let wide : length (overlaid A z B) ≡ length A = length-overlaid A z B in
    let size : length P ≡ p + length a + p = length-padded p a in
    elim (cases_lt n count) [
      | inl lt ↦
          let PB : List Bit = bits v P in
          let sb : length PB ≡ length P = length-map P (bit_at v) in
          let fits : n + length B ≤ length PB = omega (arith, size, more, some, lt, wb, sb) in
          let Q : List Bit = take n PB ++ (B ++ drop (n + length B) PB) in
          let ql : length Q ≡ length PB = omega (arith, length-append (take n PB) (B ++ drop (n + length B) PB), length-append B (drop (n + length B) PB), length-take-le n PB (omega (arith, fits)), length-drop (n + length B) PB, fits) in
          let tl : length (take (length a) (drop p Q)) ≡ length a = length-take-le (length a) (drop p Q) (omega (arith, length-drop p Q, ql, sb, size)) in
          get_or-map (bits v) ps n [] A (omega (arith, long, lt)) ∙
          ap (λ (t : List Pair). bits v t) (get_or-map-range_with_len f 0 count n n [] lt (omega arith)) ∙ laid_is v P put n p (length a) ∙
          ext_get_or Unknown (take (length a) (drop p Q)) (overlaid A z B) (tl ∙ sym wa ∙ sym wide) (λ k below.
          let ka : k < length a = subst (λ m. k < m) tl below in
          let kA : k < length A = omega (arith, ka, wa) in
          let at : get_or PB (p + k) Unknown ≡ get_or A k Unknown = ap (λ (t : List Bit). get_or t (p + k) Unknown) (padded_is v p a h) ∙ mid_at A p k Unknown kA in
          let z2 : pos (p + k) +ℤ neg_ℤ (pos n) ≡ neg_ℤ z +ℤ pos k = omega (arith, ints, e) in
          get_or-take (length a) (drop p Q) k Unknown ka ∙ get_or-drop p Q k Unknown ∙ laid_at PB B n (p + k) Unknown fits (omega (arith, sb, size, ka)) ∙
          (λ i. bit_or_else B (z2 i) (at i)) ∙ sym (overlaid_at A z B k Unknown kA))
      | inr le ↦
          get_or_past (map (bits v) ps) n A (omega (arith, length-map ps (bits v), long, le)) ∙
          ext_get_or Unknown A (overlaid A z B) (sym wide) (λ k below.
          let low : neg_ℤ z +ℤ pos k ≡ negsuc (n - suc (p + k)) = omega (arith, ints, e, size, le, more, some, below, wa) in
          sym (overlaid_at A z B k Unknown below ∙ ap (λ y. bit_or_else B y (get_or A k Unknown)) low))
    ]
laid_are v a put z (negsuc n) h more some e =
    let A : List Bit = bits v a in
    let B : List Bit = bits v put in
    let wb : length B ≡ length put = length-map put (bit_at v) in
    ext_get_or Unknown A (overlaid A z B) (sym (length-overlaid A z B)) (λ k below.
    let high : neg_ℤ z +ℤ pos k ≡ pos (k + (length put - 1) + n + 1) = omega (arith, ints, e) in
    sym (overlaid_at A z B k Unknown below ∙ ap (λ y. bit_or_else B y (get_or A k Unknown)) high ∙ get_or_past B (k + (length put - 1) + n + 1) (get_or A k Unknown) (omega (arith, wb, some))))

pub put_by : (v : ℕ → Bool) (spot : Spot) (a at put : List Pair) (back sb known : Bool) (far sf : ℕ) (plain kept word : List Bit) → v 0 ≡ false → 0 < length a → 0 < length put → length put ≡ spot.width → known ≡ is_known (bits v at) →
    back ≡ back_of spot (truths v (map (λ q. q.up) at)) → far ≡ far_of spot (truths v (map (λ q. q.up) at)) → reached sb sf ≡ spot.add +ℤ pos (spot.width - 1) →
    plain ≡ picked (map (bits v) (laid_of (padded (length put - 1) a) put (length put - 1) (length a))) (begin_at back far spot.each sb sf) (bits v a) →
    kept ≡ each (kept_bit (bits v put)) (bits v a) → word ≡ cond known plain kept → word ≡ dyn_put_of (bits v a) (bits v at) spot (bits v put)
unfolding dyn_put_of
put_by v spot a at put back sb true far sf plain kept word h more some wide ek eb ef es ep ec ew =
    let T : List Bit = truths v (map (λ q. q.up) at) in
    let same : bits v at ≡ T = known_is v at (sym ek) in
    let q : ℤ = begin_at back far spot.each sb sf in
    let from : place_of spot T +ℤ pos (length put - 1) ≡ q = ap (λ n. place_of spot T +ℤ pos (n - 1)) wide ∙ counted_from spot T back sb far sf eb ef es in
    ew ∙ ep ∙ laid_are v a put (place_of spot T) q h more some from ∙
    ap (λ (t : List Bit). overlaid (bits v a) (place_of spot t) (bits v put)) (sym same) ∙ ap (λ b. cond b (overlaid (bits v a) (place_of spot (bits v at)) (bits v put)) (each (kept_bit (bits v put)) (bits v a))) ek
put_by v spot a at put back sb false far sf plain kept word h more some wide ek eb ef es ep ec ew =
    ew ∙ ec ∙ ap (λ b. cond b (overlaid (bits v a) (place_of spot (bits v at)) (bits v put)) (each (kept_bit (bits v put)) (bits v a))) ek

pub laid_in : (gates : List Gate) (P put : List Pair) (p n : ℕ) → p + n ≤ length P → length put ≤ length P → All (IsWired gates) P → All (IsWired gates) put → All (IsVector gates n) (laid_of P put p n)
laid_in gates P put p n cut fits h g = λ k d lt.
    let f : ℕ → List Pair = λ t. laid P put p n t in
    let count : ℕ = length P - length put + 1 in
    let below : k < count = omega (arith, length-map-range_with_len f 0 count, lt) in
    let e : get_or (laid_of P put p n) k d ≡ f k = get_or-map-range_with_len f 0 count k k d below (omega arith) in
    let tail : List Pair = put ++ drop (k + length put) P in
    let whole : List Pair = take k P ++ tail in
    let size : length whole ≡ length P = omega (arith, length-append (take k P) tail, length-append put (drop (k + length put) P), length-take-le k P (omega (arith, below, fits)), length-drop (k + length put) P, below, fits) in
    let inside : All (IsWired gates) whole = All-append (IsWired gates) (take k P) tail (All-take (IsWired gates) k P h) (All-append (IsWired gates) put (drop (k + length put) P) g (All-drop (IsWired gates) (k + length put) P h)) in
    subst (λ (x : List Pair). IsVector gates n x) (sym e) (record {
      long = length-take-le n (drop p whole) (omega (arith, length-drop p whole, size, cut));
      inside = All-take (IsWired gates) n (drop p whole) (All-drop (IsWired gates) p whole inside);
    })

pub length-laid : (P put : List Pair) (p n : ℕ) → length (laid_of P put p n) ≡ length P - length put + 1
length-laid P put p n = length-map-range_with_len (laid P put p n) 0 (length P - length put + 1)

pub puts_fit : (a t w n : ℕ) → 0 < w → 0 < a → a ≤ n → t ≤ n → w ≤ n → (2 * t + 3 + 6 * a) * (a + w - 1) + 14 * t + 11 * a * w + 6 * a ≤ 256 * n * n
puts_fit a t w n some more la lt lw =
    let few : 2 * t + 3 + 6 * a ≤ 11 * n = omega arith in
    let both : a + w - 1 ≤ 2 * n = omega arith in
    let h = mul-le (2 * t + 3 + 6 * a) (a + w - 1) (11 * n) (2 * n) few both in
    let one = mul-le 1 n n n (omega arith) (omega arith) in
    let square = mul-le a w n n la lw in
    omega (arith, h, one, square)
