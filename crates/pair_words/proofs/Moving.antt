-- Vectors whose bits move, and one move after another.
use Rattle.std.proofs.Common.{◌≡◌, ℕ, zero, suc, ◌+◌, ◌-◌, ◌*◌, ◌^◌, ◌<◌, ◌≤◌, inl, inr, Bool, true, false, not, cond, ltb, min, List, [], ◌∷◌, ◌++◌, length, get_or, take, drop, map, replicate, refl, sym, ap, subst, ◌∙◌, arith}
use Rattle.std.proofs.Math.Nat.{pow-suc}
use Rattle.std.proofs.lemmas.Bool.{cases_lt, le-leb}
use Rattle.std.proofs.lemmas.List.{length-map, length-append, length-replicate, length-drop, length-take-le, map-append, take-map, drop-map, take_all, take-append-le, get_or-take, get_or-drop, get_or-replicate, get_or_append_left, get_or-append_right, get_or_past, get_or_default, ext_get_or}
use Rattle.std.proofs.lemmas.List.Elements.{All-append, All-take, All-drop, All-replicate}
use Rattle.std.specs.List.{All}
use Rattle.aig.specs.declared.gate.Gate.{Gate}
use Rattle.aig.specs.declared.gate.Lit.{Lit}
use Rattle.aig.specs.Graph.{holds, constant_lit, Grows}
use Rattle.aig_words.specs.Words.{number, weight}
use Rattle.std.proofs.lemmas.Nat.{mul-le}
use Rattle.aig_words.proofs.Numbers.{number-more, number-push-at, number-split}
use Rattle.fourvec.specs.declared.Bit.{Bit}
use Rattle.fourvec.specs.declared.Bit.TheVariants.{Zero, One, Unknown, Floating}
use Rattle.fourvec.specs.Bits.{bit_of, moved_up, moved_down, is_known, all_x, slice_of}
use Rattle.fourvec.specs.Bits as vectors
use Rattle.fourvec.proofs.Widths.{length-moved_up, length-moved_down}
use Rattle.pair_words.specs.declared.pairs.Pair.{Pair}
use Rattle.pair_words.specs.declared.shifts.Way.{Way}
use Rattle.pair_words.specs.declared.shifts.Way.TheVariants.{Up, Down}
use Rattle.pair_words.specs.Rails.{bit_at, bits, IsWired}
use Rattle.pair_words.specs.Ways.{constant_pair, moved, moved_bits, FillsFrom}
use Rattle.pair_words.proofs.Truths.{known_is, number-truths}
use Rattle.pair_words.proofs.Growing.{IsWired-later}

holds_constant : (v : ℕ → Bool) (b : Bool) → v 0 ≡ false → holds v (constant_lit b) ≡ b
holds_constant v true h = ap (λ (t : Bool). not t) h
holds_constant v false h = h

-- a constant pair is its bit
pub constant_is : (v : ℕ → Bool) (b : Bit) → v 0 ≡ false → bit_at v (constant_pair b) ≡ b
constant_is v Zero h = ap (λ (t : Bool). bit_of t t) (holds_constant v false h)
constant_is v One h = ap (λ (t : Bool). bit_of t t) (holds_constant v true h)
constant_is v Unknown h = ap (λ (t : Bool). bit_of (holds v (constant_lit true)) t) (holds_constant v false h) ∙ ap (λ (t : Bool). bit_of t false) (holds_constant v true h)
constant_is v Floating h = ap (λ (t : Bool). bit_of (holds v (constant_lit false)) t) (holds_constant v true h) ∙ ap (λ (t : Bool). bit_of t true) (holds_constant v false h)

pub constant_wired : (gates : List Gate) (b : Bit) → 0 < length gates → IsWired gates (constant_pair b)
constant_wired gates Zero some = record { up = some; low = some }
constant_wired gates One some = record { up = some; low = some }
constant_wired gates Unknown some = record { up = some; low = some }
constant_wired gates Floating some = record { up = some; low = some }

map_replicate : (v : ℕ → Bool) (n : ℕ) (p : Pair) → bits v (replicate n p) ≡ replicate n (bit_at v p)
map_replicate v zero p = refl
map_replicate v (suc n) p = ap (λ (t : List Bit). bit_at v p ∷ t) (map_replicate v n p)

pub replicate_is : (v : ℕ → Bool) (n : ℕ) (p : Pair) → bits v (replicate n p) ≡ replicate n (bit_at v p)
replicate_is v n p = map_replicate v n p

-- ---- by place

up_low : (n i : ℕ) (a : List Bit) (d : Bit) → i < length a → i < n → get_or (moved_up n a) i d ≡ Zero
up_low n i a d lt low =
    get_or-take (length a) (replicate n Zero ++ a) i d lt ∙
    get_or_append_left (replicate n Zero) a d i (subst (λ k. i < k) (sym (length-replicate n Zero)) low) ∙ get_or-replicate n i Zero d low

up_high : (n i : ℕ) (a : List Bit) (d : Bit) → i < length a → n ≤ i → get_or (moved_up n a) i d ≡ get_or a (i - n) d
up_high n i a d lt le = get_or-take (length a) (replicate n Zero ++ a) i d lt ∙ get_or-append_right (replicate n Zero) a n i d (length-replicate n Zero) le

down_at : (fill : Bit) (n i : ℕ) (a : List Bit) (d : Bit) → i < length a → get_or (moved_down fill n a) i d ≡ get_or a (n + i) fill
down_at fill n i a d lt =
    get_or-take (length a) (drop n a ++ replicate (length a) fill) i d lt ∙
    elim (cases_lt (n + i) (length a)) [
      | inl low ↦ get_or_append_left (drop n a) (replicate (length a) fill) d i (subst (λ k. i < k) (sym (length-drop n a)) (omega arith)) ∙ get_or-drop n a i d ∙ get_or_default a (n + i) d fill low
      | inr past ↦ get_or-append_right (drop n a) (replicate (length a) fill) (length a - n) i d (length-drop n a) (omega arith) ∙
          get_or-replicate (length a) (i - (length a - n)) fill d (omega arith) ∙ sym (get_or_past a (n + i) fill past)
    ]

-- ---- one move after another

up_twice : (m p : ℕ) (a : List Bit) → moved_up p (moved_up m a) ≡ moved_up (m + p) a
up_twice m p a =
    let long : length (moved_up m a) ≡ length a = length-moved_up m a in
    ext_get_or Zero (moved_up p (moved_up m a)) (moved_up (m + p) a) (length-moved_up p (moved_up m a) ∙ long ∙ sym (length-moved_up (m + p) a)) (λ i lt.
    let here : i < length (moved_up m a) = subst (λ k. i < k) (length-moved_up p (moved_up m a)) lt in
    let in' : i < length a = subst (λ k. i < k) long here in
    elim (cases_lt i p) [
      | inl low ↦ up_low p i (moved_up m a) Zero here low ∙ sym (up_low (m + p) i a Zero in' (omega arith))
      | inr high ↦ up_high p i (moved_up m a) Zero here high ∙ elim (cases_lt i (m + p)) [
        | inl low ↦ up_low m (i - p) a Zero (omega arith) (omega arith) ∙ sym (up_low (m + p) i a Zero in' low)
        | inr more ↦ up_high m (i - p) a Zero (omega arith) (omega arith) ∙ ap (λ k. get_or a k Zero) (let e : i - p - m ≡ i - (m + p) = omega arith in e) ∙ sym (up_high (m + p) i a Zero in' more)
      ]
    ])

down_twice : (fill : Bit) (m p : ℕ) (a : List Bit) → moved_down fill p (moved_down fill m a) ≡ moved_down fill (m + p) a
down_twice fill m p a =
    let long : length (moved_down fill m a) ≡ length a = length-moved_down fill m a in
    ext_get_or fill (moved_down fill p (moved_down fill m a)) (moved_down fill (m + p) a) (length-moved_down fill p (moved_down fill m a) ∙ long ∙ sym (length-moved_down fill (m + p) a)) (λ i lt.
    let here : i < length (moved_down fill m a) = subst (λ k. i < k) (length-moved_down fill p (moved_down fill m a)) lt in
    let in' : i < length a = subst (λ k. i < k) long here in
    let same : m + (p + i) ≡ m + p + i = omega arith in
    down_at fill p i (moved_down fill m a) fill here ∙
    elim (cases_lt (p + i) (length a)) [
      | inl low ↦ down_at fill m (p + i) a fill low ∙ ap (λ k. get_or a k fill) same
      | inr past ↦ get_or_past (moved_down fill m a) (p + i) fill (subst (λ k. k ≤ p + i) (sym long) past) ∙ sym (get_or_past a (m + p + i) fill (omega arith))
    ] ∙ sym (down_at fill (m + p) i a fill in'))

pub moved_twice : (v : ℕ → Bool) (way : Way) (m p : ℕ) (a : List Bit) → moved_bits v way p (moved_bits v way m a) ≡ moved_bits v way (m + p) a
moved_twice v Up m p a = up_twice m p a
moved_twice v (Down fill) m p a = down_twice (bit_at v fill) m p a

up_none : (a : List Bit) → moved_up 0 a ≡ a
up_none a = take_all (length a) a (omega arith)

down_none : (fill : Bit) (a : List Bit) → moved_down fill 0 a ≡ a
down_none fill a = take-append-le (length a) a (replicate (length a) fill) (omega arith) ∙ take_all (length a) a (omega arith)

pub moved_none : (v : ℕ → Bool) (way : Way) (a : List Bit) → moved_bits v way 0 a ≡ a
moved_none v Up a = up_none a
moved_none v (Down fill) a = down_none (bit_at v fill) a

-- a move by more than the length is one by the length
up_far : (n : ℕ) (a : List Bit) → moved_up (min n (length a)) a ≡ moved_up n a
up_far n a =
    ext_get_or Zero (moved_up (min n (length a)) a) (moved_up n a) (length-moved_up (min n (length a)) a ∙ sym (length-moved_up n a)) (λ i lt.
    let in' : i < length a = subst (λ k. i < k) (length-moved_up (min n (length a)) a) lt in
    elim (cases_lt i n) [
      | inl low ↦ up_low (min n (length a)) i a Zero in' (omega arith) ∙ sym (up_low n i a Zero in' low)
      | inr high ↦ ap (λ k. get_or (moved_up k a) i Zero) (let e : min n (length a) ≡ n = omega arith in e)
    ])

down_far : (fill : Bit) (n : ℕ) (a : List Bit) → moved_down fill (min n (length a)) a ≡ moved_down fill n a
down_far fill n a =
    ext_get_or fill (moved_down fill (min n (length a)) a) (moved_down fill n a) (length-moved_down fill (min n (length a)) a ∙ sym (length-moved_down fill n a)) (λ i lt.
    let in' : i < length a = subst (λ k. i < k) (length-moved_down fill (min n (length a)) a) lt in
    down_at fill (min n (length a)) i a fill in' ∙
    elim (cases_lt n (length a)) [
      | inl low ↦ ap (λ k. get_or a (k + i) fill) (let e : min n (length a) ≡ n = omega arith in e)
      | inr high ↦ get_or_past a (min n (length a) + i) fill (omega arith) ∙ sym (get_or_past a (n + i) fill (omega arith))
    ] ∙ sym (down_at fill n i a fill in'))

pub moved_far : (v : ℕ → Bool) (way : Way) (n : ℕ) (a : List Bit) → moved_bits v way (min n (length a)) a ≡ moved_bits v way n a
moved_far v Up n a = up_far n a
moved_far v (Down fill) n a = down_far (bit_at v fill) n a

-- ---- pairs

pub length-moved : (way : Way) (k : ℕ) (a : List Pair) → k ≤ length a → length (moved way k a) ≡ length a
length-moved Up k a le = omega (arith, length-append (replicate k (constant_pair Zero)) (take (length a - k) a), length-replicate k (constant_pair Zero), length-take-le (length a - k) a (omega arith))
length-moved (Down fill) k a le = omega (arith, length-append (drop k a) (replicate k fill), length-replicate k fill, length-drop k a)

pub moved_in : (gates : List Gate) (way : Way) (k : ℕ) (a : List Pair) → 0 < length gates → FillsFrom gates way → All (IsWired gates) a → All (IsWired gates) (moved way k a)
moved_in gates Up k a lt fills h = All-append (IsWired gates) (replicate k (constant_pair Zero)) (take (length a - k) a) (All-replicate (IsWired gates) k (constant_pair Zero) (constant_wired gates Zero lt)) (All-take (IsWired gates) (length a - k) a h)
moved_in gates (Down fill) k a lt fills h = All-append (IsWired gates) (drop k a) (replicate k fill) (All-drop (IsWired gates) k a h) (All-replicate (IsWired gates) k fill fills)

pub fills-later : (old new : List Gate) (way : Way) → Grows old new → FillsFrom old way → FillsFrom new way
fills-later old new Up g h = tt
fills-later old new (Down fill) g h = IsWired-later old new fill g h

up_pairs : (v : ℕ → Bool) (k : ℕ) (a : List Pair) → v 0 ≡ false → k ≤ length a → bits v (moved Up k a) ≡ moved_up k (bits v a)
up_pairs v k a h le =
    let z : Pair = constant_pair Zero in
    let front : bits v (replicate k z) ≡ replicate k Zero = map_replicate v k z ∙ ap (λ (t : Bit). replicate k t) (constant_is v Zero h) in
    let long : length (bits v a) ≡ length a = length-map a (bit_at v) in
    map-append (bit_at v) (replicate k z) (take (length a - k) a) ∙
    ap (λ (t : List Bit). t ++ bits v (take (length a - k) a)) front ∙
    ap (λ (t : List Bit). replicate k Zero ++ t) (sym (take-map (bit_at v) (length a - k) a)) ∙
    sym (ap (λ n. take n (replicate k Zero ++ bits v a)) long ∙ front_take k (length a) (bits v a) le)
  where
    front_take : (k n : ℕ) (xs : List Bit) → k ≤ n → take n (replicate k Zero ++ xs) ≡ replicate k Zero ++ take (n - k) xs
    front_take zero n xs le = ap (λ m. take m xs) (let e : n ≡ n - 0 = omega arith in e)
    front_take (suc k) zero xs le = absurd (omega arith)
    front_take (suc k) (suc n) xs le = ap (λ (t : List Bit). Zero ∷ t) (front_take k n xs (omega arith)) ∙ ap (λ m. Zero ∷ (replicate k Zero ++ take m xs)) (let e : n - k ≡ suc n - suc k = omega arith in e)

down_pairs : (v : ℕ → Bool) (fill : Pair) (k : ℕ) (a : List Pair) → k ≤ length a → bits v (moved (Down fill) k a) ≡ moved_down (bit_at v fill) k (bits v a)
down_pairs v fill k a le =
    let f : Bit = bit_at v fill in
    let long : length (bits v a) ≡ length a = length-map a (bit_at v) in
    let low : bits v (moved (Down fill) k a) ≡ drop k (bits v a) ++ replicate k f =
    map-append (bit_at v) (drop k a) (replicate k fill) ∙ ap (λ (t : List Bit). t ++ bits v (replicate k fill)) (sym (drop-map (bit_at v) k a)) ∙ ap (λ (t : List Bit). drop k (bits v a) ++ t) (map_replicate v k fill) in
    let wide : length (drop k (bits v a) ++ replicate k f) ≡ length a = length-append (drop k (bits v a)) (replicate k f) ∙ (let d = length-drop k (bits v a) in let r = length-replicate k f in omega (arith, d, r, long)) in
    low ∙ ext_get_or f (drop k (bits v a) ++ replicate k f) (moved_down f k (bits v a)) (wide ∙ sym long ∙ sym (length-moved_down f k (bits v a))) (λ i lt.
    let in' : i < length (bits v a) = subst (λ n. i < n) (wide ∙ sym long) lt in
    elim (cases_lt (k + i) (length (bits v a))) [
      | inl low ↦ get_or_append_left (drop k (bits v a)) (replicate k f) f i (subst (λ n. i < n) (sym (length-drop k (bits v a))) (omega arith)) ∙ get_or-drop k (bits v a) i f
      | inr past ↦ get_or-append_right (drop k (bits v a)) (replicate k f) (length (bits v a) - k) i f (length-drop k (bits v a)) (omega arith) ∙
          get_or-replicate k (i - (length (bits v a) - k)) f f (omega (arith, long)) ∙ sym (get_or_past (bits v a) (k + i) f past)
    ] ∙ sym (down_at f k i (bits v a) f in'))

-- moved pairs are the moved bits
pub moved_is : (v : ℕ → Bool) (way : Way) (k : ℕ) (a : List Pair) → v 0 ≡ false → k ≤ length a → bits v (moved way k a) ≡ moved_bits v way k (bits v a)
moved_is v Up k a h le = up_pairs v k a h le
moved_is v (Down fill) k a h le = down_pairs v fill k a le

-- ---- a move in stages

stage : (v : ℕ → Bool) (way : Way) (a next : List Bit) (m p : ℕ) (x : Bool) → next ≡ cond x (moved_bits v way p (moved_bits v way m a)) (moved_bits v way m a) → next ≡ moved_bits v way (m + p * weight x) a
stage v way a next m p true e = e ∙ moved_twice v way m p a ∙ ap (λ k. moved_bits v way k a) (let h : m + p ≡ m + p * 1 = omega arith in h)
stage v way a next m p false e = e ∙ ap (λ k. moved_bits v way k a) (let h : m ≡ m + p * 0 = omega arith in h)

-- one bit more of the distance
pub shift_more : (v : ℕ → Bool) (way : Way) (b : List Lit) (d : Lit) (a : List Bit) (word : List Pair) (next : List Bit) (j k : ℕ) → j < length b → length word ≡ length a → k ≡ min (2 ^ j) (length a) →
    bits v word ≡ moved_bits v way (number v (take j b)) a → next ≡ cond (holds v (get_or b j d)) (moved_bits v way k (bits v word)) (bits v word) →
    next ≡ moved_bits v way (number v (take (j + 1) b)) a
shift_more v way b d a word next j k lt long ek before here =
    let x : Bool = holds v (get_or b j d) in
    let m : ℕ = number v (take j b) in
    let wide : length (bits v word) ≡ length a = length-map word (bit_at v) ∙ long in
    let cap : k ≡ min (2 ^ j) (length (bits v word)) = ek ∙ ap (λ n. min (2 ^ j) n) (sym wide) in
    let one : moved_bits v way k (bits v word) ≡ moved_bits v way (2 ^ j) (bits v word) = ap (λ n. moved_bits v way n (bits v word)) cap ∙ moved_far v way (2 ^ j) (bits v word) in
    let both : next ≡ cond x (moved_bits v way (2 ^ j) (moved_bits v way m a)) (moved_bits v way m a) = here ∙ ap (λ (t : List Bit). cond x t (bits v word)) one ∙ ap (λ (t : List Bit). cond x (moved_bits v way (2 ^ j) t) t) before in
    stage v way a next m (2 ^ j) x both ∙ ap (λ n. moved_bits v way n a) (sym (number-more v b j d lt))

pub doubled_is : (j n k : ℕ) → k ≡ min (2 ^ j) n → min (2 * k) n ≡ min (2 ^ (j + 1)) n
doubled_is j n k e = let p : 2 ^ suc j ≡ 2 ^ j * 2 = pow-suc 2 j in let s : 2 ^ (j + 1) ≡ 2 ^ j * 2 = (let q : j + 1 ≡ suc j = omega arith in ap (λ k. 2 ^ k) q) ∙ p in omega (arith, e, s)

-- a shift by a vector, where that is known
pub shift_by : (v : ℕ → Bool) (way : Way) (b : List Pair) (a p r : List Bit) (t : Bool) (w : ℕ) → t ≡ is_known (bits v b) → p ≡ moved_bits v way (number v (map (λ q. q.up) b)) a → r ≡ cond t p (all_x w) →
    r ≡ cond (is_known (bits v b)) (moved_bits v way (vectors.number (bits v b)) a) (all_x w)
shift_by v way b a p r true w et ep er =
    let n : vectors.number (bits v b) ≡ number v (map (λ q. q.up) b) = ap (λ (xs : List Bit). vectors.number xs) (known_is v b (sym et)) ∙ number-truths v (map (λ q. q.up) b) in
    er ∙ ep ∙ ap (λ n. moved_bits v way n a) (sym n) ∙ ap (λ t. cond t (moved_bits v way (vectors.number (bits v b)) a) (all_x w)) et
shift_by v way b a p r false w et ep er = er ∙ ap (λ t. cond t (moved_bits v way (vectors.number (bits v b)) a) (all_x w)) et

pub slice_is : (v : ℕ → Bool) (a : List Pair) (lo width : ℕ) → bits v (take width (drop lo a)) ≡ slice_of (bits v a) lo width
slice_is v a lo width = sym (ap (take width) (drop-map (bit_at v) lo a) ∙ take-map (bit_at v) width (drop lo a))

-- bits past a weight count as one
pub capped_by : (v : ℕ → Bool) (b word : List Lit) (n : ℕ) (far : Lit) (most : ℕ) → n < length b → most ≤ 2 ^ n → word ≡ take n b ++ far ∷ [] → holds v far ≡ ltb 0 (number v (drop n b)) →
    min (number v word) most ≡ min (number v b) most
capped_by v b word n far most lt le ew ef =
    let low : ℕ = number v (take n b) in
    let long : length (take n b) ≡ n = length-take-le n b (omega arith) in
    let whole : number v b ≡ low + 2 ^ n * number v (drop n b) = number-split v b n (omega arith) in
    let short : number v word ≡ low + 2 ^ n * weight (ltb 0 (number v (drop n b))) = ap (λ (t : List Lit). number v t) ew ∙ number-push-at v (take n b) far n long ∙ ap (λ t. low + 2 ^ n * weight t) ef in
    by_high (number v (drop n b)) low (2 ^ n) most (number v word) (number v b) le short whole
  where
    by_high : (high low p most w k : ℕ) → most ≤ p → w ≡ low + p * weight (ltb 0 high) → k ≡ low + p * high → min w most ≡ min k most
    by_high zero low p most w k le ew ek = ap (λ t. min t most) (ew ∙ sym ek)
    by_high (suc high) low p most w k le ew ek =
        let one : p * 1 ≤ p * suc high = mul-le p 1 p (suc high) (omega arith) (omega arith) in
        let e : w ≡ low + p * 1 = ew ∙ ap (λ (t : Bool). low + p * weight t) (le-leb 1 (suc high) (omega arith)) in
        omega (arith, le, e, ek, one)

pub moved_same : (v : ℕ → Bool) (way : Way) (a : List Bit) (m n : ℕ) → min m (length a) ≡ min n (length a) → moved_bits v way m a ≡ moved_bits v way n a
moved_same v way a m n e = sym (moved_far v way m a) ∙ ap (λ k. moved_bits v way k a) e ∙ moved_far v way n a
