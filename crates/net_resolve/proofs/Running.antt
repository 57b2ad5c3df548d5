-- Runs of bits and their segments, for any test of bits.
use Rattle.std.proofs.Common.{◌≡◌, ℕ, zero, suc, ◌+◌, ◌-◌, ◌<◌, ◌≤◌, Bool, true, false, cond, List, [], ◌∷◌, ◌++◌, length, get_or, map, take, sum, refl, sym, ap, ◌∙◌, subst, inl, inr, arith, zero-add, add-zero, append_assoc, length-append, lt-ltb}
use Rattle.std.specs.Prelude.{All, Option, None, Some, IsTrue, filter, slice_index}
use Rattle.std.specs.List.{Contains, range_with_len}
use Rattle.std.proofs.lemmas.Bool.{cases_eq, cases_lt, eqb-true, eq-eqb, leb-true, le-leb, ltb-true}
use Rattle.std.proofs.lemmas.List.{take_at, length-map, get_or_default, get_or_past, get_or_append_left, get_or-append_right}
use Rattle.std.proofs.lemmas.List.Sums.{sum_by-append, sum_by-cons}
use Rattle.std.proofs.lemmas.List.Elements.{All-filter, filter_passes}
use Rattle.std.proofs.lemmas.List.FromFn.{length-range_with_len, get_or-range_with_len}
use Rattle.fourvec.proofs.Order.{both}
use Rattle.fourvec.proofs.Tables.{left_of, right_of}
use Rattle.lhs_alias.specs.declared.segs.Seg.{Seg}
use Rattle.lhs_alias.specs.declared.segs.WireBit.{WireBit}
use Rattle.lhs_alias.specs.Segs.{bit, seg_bits}
use Rattle.lhs_alias.specs.Lies.{LiesIn, IsBitOf}
use Rattle.lhs_alias.specs.Joined.{all_bits, bits_from, place_of}
use Rattle.lhs_alias.proofs.Row.{all_bits-lie, bit-at_place, place-own}
use Rattle.lhs_alias.proofs.SegBits.{length-seg_bits, get_or-seg_bits}
use Rattle.event_nets.specs.Nets.{lowest}
use Rattle.event_nets.specs.Runs.{is_at, begins}
use Rattle.event_nets.proofs.Homes.{mapped-at}
use Rattle.event_nets.proofs.NetPlaces.{lowest-le}
use Rattle.net_equations.specs.Equations.{has_bit, seg_at}
use Rattle.net_resolve.specs.Runs.{IsRunSeg, AreRunSegs, begins_in}
use Rattle.net_resolve.specs.Resolving.{lowest_bit, run_by, IsRunOf}

-- ---- the lowest place

pub lowest-holds : (p : ℕ → Bool) (k : ℕ) → p k ≡ true → p (lowest p k) ≡ true
unfolding lowest
lowest-holds p zero h = h
lowest-holds p (suc k) h = pick (p k) refl (λ e. lowest-holds p k e)
  where
    pick : (t : Bool) → p k ≡ t → (p k ≡ true → p (lowest p k) ≡ true) → p (cond t (lowest p k) (suc k)) ≡ true
    pick true e next = next e
    pick false e next = h

lowest-again : (p : ℕ → Bool) (k : ℕ) → lowest p (lowest p k) ≡ lowest p k
unfolding lowest
lowest-again p zero = refl
lowest-again p (suc k) = pick (p k) refl (lowest-again p k)
  where
    pick : (t : Bool) → p k ≡ t → lowest p (lowest p k) ≡ lowest p k → lowest p (cond t (lowest p k) (suc k)) ≡ cond t (lowest p k) (suc k)
    pick true e next = next
    pick false e next = ap (λ t. cond t (lowest p k) (suc k)) e

-- each place from the lowest on passes, and has the same lowest
lowest-between : (p : ℕ → Bool) (n m : ℕ) → p n ≡ true → lowest p n ≤ m → m ≤ n → (p m ≡ true) × (lowest p m ≡ lowest p n)
unfolding lowest
lowest-between p zero m h low high =
    let same : m ≡ 0 = omega (arith, high) in
    (ap p same ∙ h, ap (λ k. lowest p k) same)
lowest-between p (suc k) m h low high = elim (cases_eq m (suc k)) [
  | inl same ↦ (ap p same ∙ h, ap (λ j. lowest p j) same)
  | inr ne ↦ pick (p k) refl low (omega (arith, high, ne)) (λ e l le. lowest-between p k m e l le)
]
  where
    pick : (t : Bool) → p k ≡ t → cond (p k) (lowest p k) (suc k) ≤ m → m ≤ k → (p k ≡ true → lowest p k ≤ m → m ≤ k → (p m ≡ true) × (lowest p m ≡ lowest p k))
        → (p m ≡ true) × (lowest p m ≡ cond (p k) (lowest p k) (suc k))
    pick true e l le again =
        let l2 : lowest p k ≤ m = subst (λ u. cond u (lowest p k) (suc k) ≤ m) e l in
        let next = again e l2 le in
        (next.0, next.1 ∙ ap (λ u. cond u (lowest p k) (suc k)) (sym e))
    pick false e l le again =
        let l2 : suc k ≤ m = subst (λ u. cond u (lowest p k) (suc k) ≤ m) e l in
        absurd (omega (arith, l2, le))

-- ---- places in the row

-- the i-th bit of the row has the place i
place-at_from : (n : ℕ) (front rest widths : List ℕ) → widths ≡ front ++ rest → n ≡ length front → (i : ℕ) (d : WireBit) → i < length (bits_from n rest) → place_of widths (get_or (bits_from n rest) i d) ≡ sum front + i
unfolding bits_from place_of
place-at_from n front [] widths e m i d h = absurd (omega (arith, h))
place-at_from n front (w ∷ rest) widths e m i d h =
    let seg : Seg = record { wire = n; lo = 0; width = w } in
    let long = length-seg_bits seg in
    let before : take n widths ≡ front = ap (λ l. take n l) e ∙ take_at front (w ∷ rest) n (sym m) in
    elim (cases_lt i w) [
      | inl lt ↦
          ap (λ b. place_of widths b) (get_or_append_left (seg_bits seg) (bits_from (n + 1) rest) d i (omega (arith, long, lt)) ∙ get_or-seg_bits seg i d lt)
          ∙ ap (λ l. sum l + (0 + i)) before
          ∙ ap (λ k. sum front + k) (zero-add i)
      | inr past ↦
          let next = place-at_from (n + 1) (front ++ w ∷ []) rest widths (e ∙ sym (append_assoc front (w ∷ []) rest)) (omega (arith, m, length-append front (w ∷ []))) (i - w) d
          (omega (arith, h, past, length-append (seg_bits seg) (bits_from (n + 1) rest), long)) in
          ap (λ b. place_of widths b) (get_or-append_right (seg_bits seg) (bits_from (n + 1) rest) w i d long past)
          ∙ next
          ∙ (let total = sum_by-append (λ (k : ℕ). k) front (w ∷ []) in let one = sum_by-cons (λ (k : ℕ). k) w [] in let q : sum (front ++ w ∷ []) + (i - w) ≡ sum front + i = omega (arith, total, one, past) in q)
    ]

pub place-at : (widths : List ℕ) (i : ℕ) (d : WireBit) → i < length (all_bits widths) → place_of widths (get_or (all_bits widths) i d) ≡ i
unfolding all_bits
place-at widths i d h = place-at_from 0 [] widths widths refl refl i d h ∙ zero-add i

-- a bit of a wire so far above another
pub place-up : (widths : List ℕ) (w a j : ℕ) → place_of widths (bit w (a + j)) ≡ place_of widths (bit w a) + j
unfolding place_of
place-up widths w a j = omega arith

place-apart : (widths : List ℕ) (d : WireBit) (w a j : ℕ) → d.wire ≡ w → place_of widths d ≡ place_of widths (bit w a) + j → d ≡ bit w (a + j)
unfolding place_of
place-apart widths d w a j same e =
    let front : sum (take d.wire widths) ≡ sum (take w widths) = ap (λ n. sum (take n widths)) same in
    let at : d.at ≡ a + j = omega (arith, e, front) in
    λ i. record { wire = same i; at = at i }

-- ---- bits of segments

pub has-parts : (seg : Seg) (b : WireBit) → IsTrue (has_bit seg b) → (seg.wire ≡ b.wire) × ((seg.lo ≤ b.at) × (b.at < seg.lo + seg.width))
has-parts seg b h =
    let rest = right_of _ _ h in
    (eqb-true seg.wire b.wire (left_of _ _ h), (leb-true seg.lo b.at (left_of _ _ rest), ltb-true b.at (seg.lo + seg.width) (right_of _ _ rest)))

pub has-from : (seg : Seg) (b : WireBit) → seg.wire ≡ b.wire → seg.lo ≤ b.at → b.at < seg.lo + seg.width → IsTrue (has_bit seg b)
has-from seg b w low high = both _ _ (eq-eqb seg.wire b.wire w) (both _ _ (le-leb seg.lo b.at low) (lt-ltb b.at (seg.lo + seg.width) high))

-- ---- runs by a test

abbrev pub low_by : List ℕ → (WireBit → Bool) → WireBit → Option ℕ
low_by widths test b = cond (test b) (Some (place_of widths (run_by test b))) None

abbrev pub AreLows : List ℕ → (WireBit → Bool) → List (Option ℕ) → Type 0
AreLows widths test lows = lows ≡ map (low_by widths test) (all_bits widths)

low-at : (widths : List ℕ) (test : WireBit → Bool) (lows : List (Option ℕ)) → AreLows widths test lows → (b : WireBit) → IsBitOf widths b → get_or lows (place_of widths b) None ≡ low_by widths test b
low-at widths test lows e b ib = ap (λ l. get_or l (place_of widths b) None) e ∙ mapped-at widths (low_by widths test) b None ib

low-true : (widths : List ℕ) (test : WireBit → Bool) (b : WireBit) (low : ℕ) → is_at (low_by widths test b) low ≡ true → (test b ≡ true) × (place_of widths (run_by test b) ≡ low)
low-true widths test b low h = pick (test b) refl h
  where
    pick : (t : Bool) → test b ≡ t → is_at (cond t (Some (place_of widths (run_by test b))) None) low ≡ true → (test b ≡ true) × (place_of widths (run_by test b) ≡ low)
    pick true e k = (e, eqb-true (place_of widths (run_by test b)) low k)
    pick false e k = let f : false ≡ true = k in cc

low-is : (widths : List ℕ) (test : WireBit → Bool) (b : WireBit) (low : ℕ) → test b ≡ true → place_of widths (run_by test b) ≡ low → is_at (low_by widths test b) low ≡ true
low-is widths test b low t e = ap (λ u. is_at (cond u (Some (place_of widths (run_by test b))) None) low) t ∙ eq-eqb (place_of widths (run_by test b)) low e

run-inside : (widths : List ℕ) (test : WireBit → Bool) (b : WireBit) → IsBitOf widths b → IsBitOf widths (run_by test b)
run-inside widths test b ib =
    let le = lowest-le (λ k. test (bit b.wire k)) b.at in
    let place = ib.place in
    record { wire = ib.wire; place = omega (arith, le, place) }

none-true : (low : ℕ) (lows : List (Option ℕ)) (k : ℕ) → is_at (get_or lows k None) low ≡ true → k < length lows
none-true low lows k h = elim (cases_lt k (length lows)) [
  | inl lt ↦ lt
  | inr past ↦ absurd (differ (ap (λ o. is_at o low) (sym (get_or_past lows k None past)) ∙ h))
]
  where
    differ : false ≡ true → ⊥
    differ e = cc

lows-long : (widths : List ℕ) (test : WireBit → Bool) (lows : List (Option ℕ)) → AreLows widths test lows → length lows ≡ length (all_bits widths)
lows-long widths test lows e = ap (λ l. length l) e ∙ length-map (all_bits widths) (low_by widths test)

-- where a place's run begins at a place, the bit there is this one
bit-of_run : (widths : List ℕ) (test : WireBit → Bool) (lows : List (Option ℕ)) → AreLows widths test lows → (start : WireBit) → IsBitOf widths start → (k : ℕ) → is_at (get_or lows k None) (place_of widths start) ≡ true
    → (d : WireBit) × (IsBitOf widths d × ((place_of widths d ≡ k) × ((test d ≡ true) × (run_by test d ≡ start))))
bit-of_run widths test lows e start istart k h =
    let n = length (all_bits widths) in
    let below : k < length lows = none-true (place_of widths start) lows k h in
    let lt : k < n = omega (arith, below, lows-long widths test lows e) in
    let d = get_or (all_bits widths) k (bit 0 0) in
    let inside : IsBitOf widths d = all_bits-lie widths k (bit 0 0) lt in
    let place : place_of widths d ≡ k = place-at widths k (bit 0 0) lt in
    let here : get_or lows k None ≡ low_by widths test d = ap (λ j. get_or lows j None) (sym place) ∙ low-at widths test lows e d inside in
    let is = low-true widths test d (place_of widths start) (ap (λ o. is_at o (place_of widths start)) (sym here) ∙ h) in
    (d, (inside, (place, (is.0, place-own widths (run_by test d) start (run-inside widths test d inside) istart is.1))))

-- what is known of a run's segment
pub record IsRun (widths : List ℕ) (test : WireBit → Bool) (lows : List (Option ℕ)) (low : ℕ) (seg : Seg) : Type 0 where
  pub lows_are : AreLows widths test lows
  pub narrow : (n : ℕ) → get_or widths n 0 ≤ 128
  pub begins_there : is_at (get_or lows low None) low ≡ true
  pub seg_is : IsRunSeg (all_bits widths) lows low seg

pub run-start : (widths : List ℕ) (test : WireBit → Bool) (lows : List (Option ℕ)) (low : ℕ) (seg : Seg) → IsRun widths test lows low seg → IsBitOf widths (lowest_bit seg) × (place_of widths (lowest_bit seg) ≡ low)
run-start widths test lows low seg r =
    let below : low < length lows = none-true low lows low r.begins_there in
    let lt : low < length (all_bits widths) = omega (arith, below, lows-long widths test lows r.lows_are) in
    (subst (λ b. IsBitOf widths b) (sym r.seg_is.lowest) (all_bits-lie widths low (bit 0 0) lt), ap (λ b. place_of widths b) r.seg_is.lowest ∙ place-at widths low (bit 0 0) lt)

-- each bit of the segment is one of the run
pub run-bit : (widths : List ℕ) (test : WireBit → Bool) (lows : List (Option ℕ)) (low : ℕ) (seg : Seg) → IsRun widths test lows low seg → (j : ℕ) → j < seg.width
    → IsBitOf widths (bit seg.wire (seg.lo + j)) × ((test (bit seg.wire (seg.lo + j)) ≡ true) × (run_by test (bit seg.wire (seg.lo + j)) ≡ lowest_bit seg))
run-bit widths test lows low seg r j lt =
    let start = run-start widths test lows low seg r in
    let at : is_at (get_or lows (low + j) None) (place_of widths (lowest_bit seg)) ≡ true = ap (λ k. is_at (get_or lows (low + j) None) k) start.1 ∙ r.seg_is.width.inside j lt in
    let x = bit-of_run widths test lows r.lows_are (lowest_bit seg) start.0 (low + j) at in
    let d = x.0 in
    let wire : d.wire ≡ seg.wire = ap (λ (b : WireBit). b.wire) x.1.1.1.1 in
    let place : place_of widths d ≡ place_of widths (lowest_bit seg) + j = x.1.1.0 ∙ ap (λ k. k + j) (sym start.1) in
    let is : d ≡ bit seg.wire (seg.lo + j) = place-apart widths d seg.wire seg.lo j wire place in
    subst (λ b. IsBitOf widths b × ((test b ≡ true) × (run_by test b ≡ lowest_bit seg))) is (x.1.0, (x.1.1.1.0, x.1.1.1.1))

-- each bit of the run is one of the segment
run-whole : (widths : List ℕ) (test : WireBit → Bool) (lows : List (Option ℕ)) (low : ℕ) (seg : Seg) → IsRun widths test lows low seg → (b : WireBit) → IsBitOf widths b → test b ≡ true
    → run_by test b ≡ lowest_bit seg → IsTrue (has_bit seg b)
run-whole widths test lows low seg r b ib t is =
    let wire : b.wire ≡ seg.wire = ap (λ (x : WireBit). x.wire) is in
    let lo : lowest p b.at ≡ seg.lo = ap (λ (x : WireBit). x.at) is in
    let le = lowest-le p b.at in
    elim (cases_lt b.at (seg.lo + seg.width)) [
      | inl lt ↦ has-from seg b (sym wire) (omega (arith, lo, le)) lt
      | inr past ↦ absurd (beyond wire lo past)
    ]
  where
    p : ℕ → Bool
    p k = test (bit b.wire k)

    beyond : b.wire ≡ seg.wire → lowest p b.at ≡ seg.lo → seg.lo + seg.width ≤ b.at → ⊥
    beyond wire lo past =
        let place = ib.place in
        let m = seg.lo + seg.width in
        let d = bit b.wire m in
        let inside : IsBitOf widths d = record { wire = ib.wire; place = omega (arith, place, past) } in
        let up = lowest-between p b.at m t (omega (arith, lo)) past in
        let run : run_by test d ≡ lowest_bit seg = ap (λ k. bit b.wire k) (up.1 ∙ lo) ∙ ap (λ n. bit n seg.lo) wire in
        let start = run-start widths test lows low seg r in
        let at : place_of widths d ≡ low + seg.width = ap (λ n. place_of widths (bit n m)) wire ∙ place-up widths seg.wire seg.lo seg.width ∙ ap (λ k. k + seg.width) start.1 in
        let on : is_at (get_or lows (low + seg.width) None) low ≡ true =
        ap (λ k. is_at (get_or lows k None) low) (sym at)
        ∙ ap (λ o. is_at o low) (low-at widths test lows r.lows_are d inside)
        ∙ low-is widths test d low up.0 (ap (λ x. place_of widths x) run ∙ start.1) in
        elim r.seg_is.width.ends [
          | inl full ↦ let narrow = r.narrow b.wire in omega (arith, full, narrow, place, past)
          | inr off ↦ let f : true ≡ false = sym on ∙ off in cc
        ]

pub run-is : (widths : List ℕ) (test : WireBit → Bool) (lows : List (Option ℕ)) (low : ℕ) (seg : Seg) → IsRun widths test lows low seg → IsRunOf widths test seg
run-is widths test lows low seg r b ib = (inwards, λ x. run-whole widths test lows low seg r b ib x.0 x.1)
  where
    inwards : IsTrue (has_bit seg b) → IsTrue (test b) × (run_by test b ≡ lowest_bit seg)
    inwards h =
        let parts = has-parts seg b h in
        let low_le = parts.1.0 in
        let lt = parts.1.1 in
        let at : seg.lo + (b.at - seg.lo) ≡ b.at = omega (arith, low_le) in
        let is : bit seg.wire (seg.lo + (b.at - seg.lo)) ≡ b = λ i. record { wire = parts.0 i; at = at i } in
        (subst (λ c. IsBitOf widths c × ((test c ≡ true) × (run_by test c ≡ lowest_bit seg))) is (run-bit widths test lows low seg r (b.at - seg.lo) (omega (arith, low_le, lt)))).1

pub run-some : (widths : List ℕ) (test : WireBit → Bool) (lows : List (Option ℕ)) (low : ℕ) (seg : Seg) → IsRun widths test lows low seg → 1 ≤ seg.width
run-some widths test lows low seg r = elim (cases_lt 0 seg.width) [
  | inl lt ↦ omega (arith, lt)
  | inr none ↦ elim r.seg_is.width.ends [
    | inl full ↦ omega (arith, full)
    | inr off ↦
        let zero : seg.width ≡ 0 = omega (arith, none) in
        let f : true ≡ false = sym r.begins_there ∙ ap (λ k. is_at (get_or lows k None) low) (sym (add-zero low) ∙ ap (λ k. low + k) (sym zero)) ∙ off in
        cc
  ]
]

pub run-lies : (widths : List ℕ) (test : WireBit → Bool) (lows : List (Option ℕ)) (low : ℕ) (seg : Seg) → IsRun widths test lows low seg → LiesIn widths seg
run-lies widths test lows low seg r =
    let some = run-some widths test lows low seg r in
    let last = run-bit widths test lows low seg r (seg.width - 1) (omega (arith, some)) in
    let place = last.0.place in
    let narrow = r.narrow seg.wire in
    record {
      whole = record { some = some; ends = omega (arith, place, narrow, some) };
      wire = last.0.wire;
      ends = omega (arith, place, some);
    }

-- ---- where runs begin

-- numbers that rise from one on
abbrev Rising : ℕ → List ℕ → Type 0
Rising a [] = Unit {0}
Rising a (x ∷ xs) = (a ≤ x) × Rising (suc x) xs

rising-weaker : (a b : ℕ) (xs : List ℕ) → a ≤ b → Rising b xs → Rising a xs
rising-weaker a b [] le h = tt
rising-weaker a b (x ∷ xs) le h = let low = h.0 in (omega (arith, le, low), h.1)

filter-rising : (p : ℕ → Bool) (a n : ℕ) → Rising a (filter p (range_with_len a n))
filter-rising p a zero = tt
filter-rising p a (suc n) = pick (p a) (filter-rising p (a + 1) n)
  where
    pick : (t : Bool) → Rising (a + 1) (filter p (range_with_len (a + 1) n)) → Rising a (cond t (a ∷ filter p (range_with_len (a + 1) n)) (filter p (range_with_len (a + 1) n)))
    pick true h = (omega arith, rising-weaker (suc a) (a + 1) (filter p (range_with_len (a + 1) n)) (omega arith) h)
    pick false h = rising-weaker a (a + 1) (filter p (range_with_len (a + 1) n)) (omega arith) h

rising-above : (a : ℕ) (xs : List ℕ) → Rising a xs → (i : ℕ) → i < length xs → a ≤ get_or xs i 0
rising-above a [] h i lt = absurd (omega (arith, lt))
rising-above a (x ∷ xs) h zero lt = h.0
rising-above a (x ∷ xs) h (suc i) lt =
    let low = h.0 in
    let next = rising-above (suc x) xs h.1 i (omega (arith, lt)) in
    omega (arith, low, next)

rising-pairs : (a : ℕ) (xs : List ℕ) → Rising a xs → (i j : ℕ) → i < j → j < length xs → get_or xs i 0 < get_or xs j 0
rising-pairs a [] h i j lt l = absurd (omega (arith, l))
rising-pairs a (x ∷ xs) h i zero lt l = absurd (omega (arith, lt))
rising-pairs a (x ∷ xs) h zero (suc j) lt l = let next = rising-above (suc x) xs h.1 j (omega (arith, l)) in omega (arith, next)
rising-pairs a (x ∷ xs) h (suc i) (suc j) lt l = rising-pairs (suc x) xs h.1 i j (omega (arith, lt)) (omega (arith, l))

rising-apart : (a : ℕ) (xs : List ℕ) → Rising a xs → (i j : ℕ) → i < length xs → j < length xs → get_or xs i 0 ≡ get_or xs j 0 → i ≡ j
rising-apart a xs h i j li lj e = elim (cases_eq i j) [
  | inl same ↦ same
  | inr ne ↦ elim (cases_lt i j) [
    | inl lt ↦ let p = rising-pairs a xs h i j lt lj in absurd (omega (arith, p, e))
    | inr ge ↦ let p = rising-pairs a xs h j i (omega (arith, ge, ne)) li in absurd (omega (arith, p, e))
  ]
]

filter-at : {X : Type 0} (p : X → Bool) (xs : List X) (x : X) (k : ℕ) → k < length xs → get_or xs k x ≡ x → p x ≡ true → Contains (filter p xs) x
filter-at p [] x k lt e h = absurd (omega (arith, lt))
filter-at p (y ∷ xs) x zero lt e h =
    let on : p y ≡ true = ap p e ∙ h in
    subst (λ t. Contains (cond t (y ∷ filter p xs) (filter p xs)) x) (sym on) (zero, omega arith, e)
filter-at p (y ∷ xs) x (suc k) lt e h = pick (p y) (filter-at p xs x k (omega (arith, lt)) e h)
  where
    pick : (t : Bool) → Contains (filter p xs) x → Contains (cond t (y ∷ filter p xs) (filter p xs)) x
    pick true c = let l = c.1 in (suc c.0, omega (arith, l), c.2)
    pick false c = c

-- each of these places is in the row, and a run begins there
pub begin-at : (lows : List (Option ℕ)) (i : ℕ) → i < length (begins_in lows) → (slice_index (begins_in lows) i < length lows) × (begins lows (slice_index (begins_in lows) i) ≡ true)
begin-at lows i lt =
    let n = length lows in
    let all : All (λ k. k < n) (range_with_len 0 n) = λ k d l. let long = length-range_with_len 0 n in let is = get_or-range_with_len 0 n k d (omega (arith, l, long)) in omega (arith, l, long, is) in
    (All-filter (begins lows) (λ k. k < n) (range_with_len 0 n) all i 0 lt, filter_passes (begins lows) (range_with_len 0 n) i 0 lt)

begin-there : (lows : List (Option ℕ)) (k : ℕ) → k < length lows → begins lows k ≡ true → Contains (begins_in lows) k
begin-there lows k lt h =
    let n = length lows in
    filter-at (begins lows) (range_with_len 0 n) k k (omega (arith, lt, length-range_with_len 0 n)) (get_or-range_with_len 0 n k k lt ∙ zero-add k) h

-- ---- all runs

pub record AreRuns (widths : List ℕ) (test : WireBit → Bool) (segs : List Seg) : Type 0 where
  pub each : (i : ℕ) → i < length segs → IsRunOf widths test (seg_at segs i)
  pub lie : (i : ℕ) → i < length segs → LiesIn widths (seg_at segs i)
  pub apart : (i j : ℕ) → i < length segs → j < length segs → lowest_bit (seg_at segs i) ≡ lowest_bit (seg_at segs j) → i ≡ j
  pub covers : (b : WireBit) → IsBitOf widths b → test b ≡ true → (i : ℕ) × ((i < length segs) × IsTrue (has_bit (seg_at segs i) b))

pub one-run : (widths : List ℕ) (test : WireBit → Bool) (lows : List (Option ℕ)) (segs : List Seg) → ((n : ℕ) → get_or widths n 0 ≤ 128) → AreLows widths test lows
    → AreRunSegs (all_bits widths) lows (begins_in lows) segs → (i : ℕ) → i < length segs → IsRun widths test lows (slice_index (begins_in lows) i) (seg_at segs i)
one-run widths test lows segs narrow e s i lt =
    let many = s.as_many in
    let lt2 : i < length (begins_in lows) = omega (arith, lt, many) in
    record { lows_are = e; narrow = narrow; begins_there = (begin-at lows i lt2).1; seg_is = s.each i lt2 }

pub runs-are : (widths : List ℕ) (test : WireBit → Bool) (lows : List (Option ℕ)) (segs : List Seg) → ((n : ℕ) → get_or widths n 0 ≤ 128) → AreLows widths test lows
    → AreRunSegs (all_bits widths) lows (begins_in lows) segs → AreRuns widths test segs
runs-are widths test lows segs narrow e s = record {
  each = λ i lt. run-is widths test lows (slice_index runs i) (seg_at segs i) (one-run widths test lows segs narrow e s i lt);
  lie = λ i lt. run-lies widths test lows (slice_index runs i) (seg_at segs i) (one-run widths test lows segs narrow e s i lt);
  apart = λ i j li lj same.
      let a = run-start widths test lows (slice_index runs i) (seg_at segs i) (one-run widths test lows segs narrow e s i li) in
      let b = run-start widths test lows (slice_index runs j) (seg_at segs j) (one-run widths test lows segs narrow e s j lj) in
      let many = s.as_many in
      rising-apart 0 runs (filter-rising (begins lows) 0 (length lows)) i j (omega (arith, li, many)) (omega (arith, lj, many)) (sym a.1 ∙ ap (λ x. place_of widths x) same ∙ b.1);
  covers = λ b ib t.
      let start = run_by test b in
      let inside = run-inside widths test b ib in
      let place = place_of widths start in
      let again : run_by test start ≡ start = ap (λ k. bit b.wire k) (lowest-again (λ k. test (bit b.wire k)) b.at) in
      let on : test start ≡ true = lowest-holds (λ k. test (bit b.wire k)) b.at t in
      let begin : begins lows place ≡ true = ap (λ o. is_at o place) (low-at widths test lows e start inside) ∙ low-is widths test start place on (ap (λ x. place_of widths x) again) in
      let found = begin-there lows place (none-true place lows place begin) begin in
      let many = s.as_many in
      let li = found.1 in
      let lt : found.0 < length segs = omega (arith, li, many) in
      let low : slice_index runs found.0 ≡ place = get_or_default runs found.0 0 place found.1 ∙ found.2 in
      let first : lowest_bit (seg_at segs found.0) ≡ start = (s.each found.0 found.1).lowest ∙ ap (λ k. get_or (all_bits widths) k (bit 0 0)) low ∙ bit-at_place widths start (bit 0 0) inside in
      (found.0, (lt, (run-is widths test lows (slice_index runs found.0) (seg_at segs found.0) (one-run widths test lows segs narrow e s found.0 lt) b ib).1 (t, sym first)));
}
  where
    runs : List ℕ
    runs = begins_in lows
