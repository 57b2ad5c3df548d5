-- Places to which an index leads.
use Rattle.std.proofs.Common.{◌≡◌, ℕ, zero, suc, ◌+◌, ◌-◌, ◌*◌, ◌/◌, ◌%◌, ◌^◌, ◌<◌, ◌≤◌, ◌≢◌, inl, inr, Bool, true, false, not, ◌&&◌, cond, eqb, List, [], ◌∷◌, ◌++◌, length, get_or, take, map, refl, sym, ap, subst, ◌∙◌, arith}
use Rattle.std.specs.Prelude.{ℤ, pos, negsuc, neg_ℤ, ◌+ℤ◌}
use Rattle.std.specs.Bool.{beq}
use Rattle.std.proofs.Math.Nat.{pow-suc, mul-mod_left, div-div-eq-div-mul, mod-eq_of_lt, pow-le-pow_right}
use Rattle.std.proofs.lemmas.Int.{ints}
use Rattle.std.proofs.lemmas.Bool.{cases_lt, cases_eq, eq-eqb, ne_eqb}
use Rattle.std.proofs.lemmas.Nat.{mod_below, div-add-mod', mod-mul-add, pow_pos, pow_below, mul-le}
use Rattle.std.proofs.lemmas.List.{length-map, length-append, length-take-le, map_more, get_or_push, get_or_append_left, get_or_past, get_or_default, take_all}
use Rattle.aig.specs.declared.gate.Lit.{Lit}
use Rattle.aig.specs.Graph.{holds, negation}
use Rattle.aig.proofs.Values.{differs}
use Rattle.aig_words.specs.Words.{number, weight, differ}
use Rattle.aig_words.proofs.Numbers.{number-more, number-nil, number-take-below, number-below}
use Rattle.aig_words.proofs.Steps.{eqb_same, same_step, quotient_is}
use Rattle.aig_words.proofs.Tables.{holds-negation}
use Rattle.fourvec.specs.declared.Bit.{Bit}
use Rattle.fourvec.specs.declared.Spot.{Spot}
use Rattle.fourvec.specs.Bits.{is_negative}
use Rattle.fourvec.specs.Spots.{reached}
use Rattle.pair_words.specs.declared.pairs.Pair.{Pair}
use Rattle.pair_words.specs.Rails.{bits}
use Rattle.pair_words.specs.Starts.{is_there, IsPlace, picked, back_of, begin_at}

pub flipped_is : (v : ℕ → Bool) (l m : Lit) (yes : Bool) → m ≡ cond yes (negation l) l → holds v m ≡ not (beq (holds v l) yes)
flipped_is v l m true e = holds-negation v l m e ∙ sym (differs (holds v l) true)
flipped_is v l m false e = ap (λ (t : Lit). holds v t) e ∙ sym (differs (holds v l) false)

-- ---- whether a word stands for a number

odd_weight : (r : ℕ) → weight (not (eqb (r % 2) 0)) ≡ r % 2
odd_weight r = elim (cases_eq (r % 2) 0) [
  | inl even ↦ ap (λ t. weight (not t)) (eq-eqb (r % 2) 0 even) ∙ sym even
  | inr odd ↦ let e : r % 2 ≡ 1 = omega (arith, mod_below r 2 (omega arith)) in ap (λ t. weight (not t)) (ne_eqb (r % 2) 0 odd) ∙ sym e
]

mod_more : (k p : ℕ) → 0 < p → k % (p * 2) ≡ k % p + p * ((k / p) % 2)
mod_more k p some =
    let q : ℕ = k / p in
    let s : ℕ = k % p in
    let low : s < p = mod_below k p some in
    let b : ℕ = q % 2 in
    let few : b < 2 = mod_below q 2 (omega arith) in
    let whole : k ≡ q * p + s = (let h = div-add-mod' k p in omega (arith, h)) in
    let half : q ≡ q / 2 * 2 + b = (let h = div-add-mod' q 2 in omega (arith, h)) in
    let both : k ≡ q / 2 * (p * 2) + (s + p * b) = whole ∙ (let h : q * p ≡ (q / 2 * 2 + b) * p = ap (λ n. n * p) half in grind (arith, h)) in
    let under : s + p * b < p * 2 = by_few p s b low few in
    ap (λ n. n % (p * 2)) both ∙ mod-mul-add (q / 2) (p * 2) (s + p * b) under
  where
    by_few : (p s b : ℕ) → s < p → b < 2 → s + p * b < p * 2
    by_few p s zero low few = omega arith
    by_few p s (suc zero) low few = omega arith
    by_few p s (suc (suc b)) low few = absurd (omega arith)

agree : (x y : Bool) → not (beq x (not y)) ≡ not (differ x y)
agree true true = refl
agree true false = refl
agree false true = refl
agree false false = refl

not_not : (b : Bool) → not (not b) ≡ b
not_not true = refl
not_not false = refl

pub rest_start : (k : ℕ) → k ≡ k / 2 ^ 0
rest_start k = omega arith

pub number_start : (v : ℕ → Bool) (k : ℕ) (last : Bool) → last ≡ true → last ≡ eqb (number v []) (k % 2 ^ 0)
number_start v k last e = e ∙ sym (eq-eqb (number v []) (k % 2 ^ 0) (number-nil v ∙ (let h : 0 ≡ k % 2 ^ 0 = omega arith in h)))

pub number_more : (v : ℕ → Bool) (word : List Lit) (i : ℕ) (d : Lit) (k r : ℕ) (last bit next : Bool) → i < length word → r ≡ k / 2 ^ i → last ≡ eqb (number v (take i word)) (k % 2 ^ i) →
    bit ≡ not (beq (holds v (get_or word i d)) (eqb (r % 2) 0)) → next ≡ (last && bit) → next ≡ eqb (number v (take (i + 1) word)) (k % 2 ^ (i + 1))
number_more v word i d k r last bit next lt er el eb en =
    let p : ℕ = 2 ^ i in
    let some : 0 < p = pow_pos i in
    let x : Bool = holds v (get_or word i d) in
    let y : Bool = not (eqb (r % 2) 0) in
    let m : ℕ = number v (take i word) in
    let next_power : 2 ^ (i + 1) ≡ p * 2 = (ap (λ n. 2 ^ n) (let q : i + 1 ≡ suc i = omega arith in q)) ∙ pow-suc 2 i in
    let low : k % 2 ^ (i + 1) ≡ k % p + p * weight y = ap (λ n. k % n) next_power ∙ mod_more k p some ∙ ap (λ n. k % p + p * n) (ap (λ n. n % 2) (sym er) ∙ sym (odd_weight r)) in
    let same : bit ≡ not (differ x y) = eb ∙ ap (λ t. not (beq x t)) (sym (not_not (eqb (r % 2) 0))) ∙ agree x y in
    en ∙ ap (λ t. t && bit) el ∙ ap (λ t. eqb m (k % p) && t) same ∙
    sym (same_step p m (k % p) x y (number-take-below v word i (omega arith)) (mod_below k p some)) ∙
    ap (λ n. eqb n (k % p + p * weight y)) (sym (number-more v word i d lt)) ∙ ap (λ n. eqb (number v (take (i + 1) word)) n) (sym low)

pub rest_more : (k i r : ℕ) → r ≡ k / 2 ^ i → r / 2 ≡ k / 2 ^ (i + 1)
rest_more k i r e =
    let p : ℕ = 2 ^ i in
    let next_power : 2 ^ (i + 1) ≡ p * 2 = (ap (λ n. 2 ^ n) (let q : i + 1 ≡ suc i = omega arith in q)) ∙ pow-suc 2 i in
    ap (λ n. n / 2) e ∙ div-div-eq-div-mul k p 2 ∙ sym (ap (λ n. k / n) next_power)

-- at the end: what is left of the number has to be 0
pub number_end : (v : ℕ → Bool) (word : List Lit) (i k r : ℕ) (last : Bool) → i ≡ length word → r ≡ k / 2 ^ i → r ≡ 0 → last ≡ eqb (number v (take i word)) (k % 2 ^ i) → last ≡ eqb (number v word) k
number_end v word i k r last ei er none e =
    let p : ℕ = 2 ^ i in
    let small : k ≡ k % p = (let h = div-add-mod' k p in let z : k / p ≡ 0 = sym er ∙ none in let zz : k / p * p ≡ 0 = ap (λ n. n * p) z ∙ (let n : 0 * p ≡ 0 = omega arith in n) in omega (arith, h, zz)) in
    e ∙ ap (λ (xs : List Lit). eqb (number v xs) (k % p)) (take_all i word (omega (arith, ei))) ∙ ap (λ n. eqb (number v word) n) (sym small)

pub number_past : (v : ℕ → Bool) (word : List Lit) (i k r : ℕ) → i ≡ length word → r ≡ k / 2 ^ i → r ≢ 0 → false ≡ eqb (number v word) k
number_past v word i k r ei er some =
    let p : ℕ = 2 ^ i in
    let below : number v word < p = subst (λ n. number v word < 2 ^ n) (sym ei) (number-below v word) in
    let h = div-add-mod' k p in
    let q : 1 ≤ k / p = omega (arith, er) in
    let big : p ≤ k / p * p = at_least (k / p) p q in
    sym (ne_eqb (number v word) k (λ e. omega (arith, h, big, below, e)))
  where
    at_least : (q p : ℕ) → 1 ≤ q → p ≤ q * p
    at_least zero p le = absurd (omega arith)
    at_least (suc q) p le = omega arith

-- ---- products

pub product_none : (m each n : ℕ) → each ≡ 0 → eqb n 0 ≡ eqb (m * each) n
product_none m each n e = let z : m * each ≡ 0 = ap (λ k. m * k) e ∙ (let h : m * 0 ≡ 0 = omega arith in h) in eqb_same n 0 (m * each) n (λ h. omega (arith, h, z)) (λ h. omega (arith, h, z))

pub product_apart : (m each n : ℕ) → 0 < each → n % each ≢ 0 → false ≡ eqb (m * each) n
product_apart m each n some apart = sym (ne_eqb (m * each) n (λ e. apart (ap (λ k. k % each) (sym e) ∙ mul-mod_left m each)))

pub product_is : (m each n : ℕ) → 0 < each → n % each ≡ 0 → eqb m (n / each) ≡ eqb (m * each) n
product_is m each n some whole =
    let parts = div-add-mod' n each in
    eqb_same m (n / each) (m * each) n (λ e. (let h : m * each ≡ n / each * each = ap (λ k. k * each) e in omega (arith, h, parts, whole)))
    (λ e. quotient_is n m each 0 (omega (arith, e)) some)

-- ---- places

pub up_back : (p far t : ℕ) → eqb p (t + far) ≡ is_there (reached false p +ℤ reached true far) t
up_back p far t = elim (cases_lt p far) [
  | inl lt ↦ let e : pos p +ℤ neg_ℤ (pos far) ≡ negsuc (far - suc p) = omega (arith, ints) in ne_eqb p (t + far) (λ h. omega arith) ∙ sym (ap (λ z. is_there z t) e)
  | inr le ↦ let e : pos p +ℤ neg_ℤ (pos far) ≡ pos (p - far) = omega (arith, ints) in eqb_same p (t + far) (p - far) t (λ h. omega arith) (λ h. omega arith) ∙ sym (ap (λ z. is_there z t) e)
]

pub up_some : (p far t : ℕ) → far ≤ t → eqb p (t - far) ≡ is_there (reached false p +ℤ reached false far) t
up_some p far t le = eqb_same p (t - far) (p + far) t (λ h. omega arith) (λ h. omega arith)

pub up_none : (p far t : ℕ) → t < far → false ≡ is_there (reached false p +ℤ reached false far) t
up_none p far t lt = sym (ne_eqb (p + far) t (λ h. omega arith))

pub down_back : (p far t : ℕ) → t + far ≡ 0 → eqb p 0 ≡ is_there (reached true p +ℤ reached true far) t
down_back zero far t e = let z : neg_ℤ (pos 0) +ℤ neg_ℤ (pos far) ≡ pos 0 = omega (arith, ints) in let h : 0 ≡ t = omega arith in sym (ap (λ z. is_there z t) z ∙ eq-eqb 0 t h)
down_back (suc p) far t e = let z : negsuc p +ℤ neg_ℤ (pos far) ≡ negsuc (p + far) = omega (arith, ints) in ne_eqb (suc p) 0 (λ h. omega arith) ∙ sym (ap (λ z. is_there z t) z)

pub down_back_none : (p far t : ℕ) → t + far ≢ 0 → false ≡ is_there (reached true p +ℤ reached true far) t
down_back_none p far t ne = elim (cases_eq (p + far) 0) [
  | inl none ↦ let z : neg_ℤ (pos p) +ℤ neg_ℤ (pos far) ≡ pos 0 = omega (arith, ints) in sym (ap (λ z. is_there z t) z ∙ ne_eqb 0 t (λ h. ne (omega arith)))
  | inr some ↦ let z : neg_ℤ (pos p) +ℤ neg_ℤ (pos far) ≡ negsuc (p + far - 1) = omega (arith, ints) in sym (ap (λ z. is_there z t) z)
]

pub down_some : (p far t : ℕ) → t ≤ far → eqb p (far - t) ≡ is_there (reached true p +ℤ reached false far) t
down_some p far t le = elim (cases_lt far p) [
  | inl lt ↦ let z : neg_ℤ (pos p) +ℤ pos far ≡ negsuc (p - suc far) = omega (arith, ints) in ne_eqb p (far - t) (λ h. omega arith) ∙ sym (ap (λ z. is_there z t) z)
  | inr more ↦ let z : neg_ℤ (pos p) +ℤ pos far ≡ pos (far - p) = omega (arith, ints) in eqb_same p (far - t) (far - p) t (λ h. omega arith) (λ h. omega arith) ∙ sym (ap (λ z. is_there z t) z)
]

pub down_none : (p far t : ℕ) → far < t → false ≡ is_there (reached true p +ℤ reached false far) t
down_none p far t lt = elim (cases_lt far p) [
  | inl less ↦ let z : neg_ℤ (pos p) +ℤ pos far ≡ negsuc (p - suc far) = omega (arith, ints) in sym (ap (λ z. is_there z t) z)
  | inr more ↦ let z : neg_ℤ (pos p) +ℤ pos far ≡ pos (far - p) = omega (arith, ints) in sym (ap (λ z. is_there z t) z ∙ ne_eqb (far - p) t (λ h. omega arith))
]

pub leads_by : (s d u r : Bool) (x each : ℕ) (b : Bool) (far t : ℕ) → u ≡ is_there (begin_at false x each b far) t → d ≡ is_there (begin_at true x each b far) t → r ≡ cond s d u → r ≡ is_there (begin_at s x each b far) t
leads_by true d u r x each b far t eu ed er = er ∙ ed
leads_by false d u r x each b far t eu ed er = er ∙ eu

-- ---- one part more

pub picked_more : (xs : List (List Bit)) (x d : List Bit) (z : ℤ) → picked (xs ++ x ∷ []) z d ≡ cond (is_there z (length xs)) x (picked xs z d)
picked_more xs x d (negsuc n) = refl
picked_more xs x d (pos n) = elim (cases_eq n (length xs)) [
  | inl same ↦ get_or_push xs x d n (sym same) ∙ sym (ap (λ t. cond t x (get_or xs n d)) (eq-eqb n (length xs) same))
  | inr ne ↦ elim (cases_lt n (length xs)) [
    | inl lt ↦ get_or_append_left xs (x ∷ []) d n lt ∙ sym (ap (λ t. cond t x (get_or xs n d)) (ne_eqb n (length xs) ne))
    | inr le ↦ get_or_past (xs ++ x ∷ []) n d (omega (arith, length-append xs (x ∷ []), ne)) ∙ sym (ap (λ t. cond t x (get_or xs n d)) (ne_eqb n (length xs) ne) ∙ get_or_past xs n d le)
  ]
]

pub led_more : (v : ℕ → Bool) (parts : List (List Pair)) (t : ℕ) (z : ℤ) (there : Bool) (none before next : List Bit) → t < length parts → there ≡ is_there z t → before ≡ picked (map (bits v) (take t parts)) z none →
    next ≡ cond there (bits v (get_or parts t [])) before → next ≡ picked (map (bits v) (take (t + 1) parts)) z none
led_more v parts t z there none before next lt et eb en =
    let long : length (map (bits v) (take t parts)) ≡ t = length-map (take t parts) (bits v) ∙ length-take-le t parts (omega arith) in
    en ∙ ap (λ (b : Bool). cond b (bits v (get_or parts t [])) before) et ∙ ap (λ (xs : List Bit). cond (is_there z t) (bits v (get_or parts t [])) xs) eb ∙
    sym (ap (λ (xs : List (List Bit)). picked xs z none) (map_more (bits v) parts t [] lt) ∙ picked_more (map (bits v) (take t parts)) (bits v (get_or parts t [])) none z ∙
    ap (λ n. cond (is_there z n) (bits v (get_or parts t [])) (picked (map (bits v) (take t parts)) z none)) long)

pub led_start : (v : ℕ → Bool) (z : ℤ) (none : List Bit) → none ≡ picked (map (bits v) []) z none
led_start v (pos n) none = sym (get_or_past [] n none (omega arith))
led_start v (negsuc n) none = refl

-- ---- indices that always lead to a part

pub picked_there : (xs : List (List Bit)) (z : ℤ) (d e : List Bit) → IsPlace (length xs) z → picked xs z d ≡ picked xs z e
picked_there xs (pos n) d e lt = get_or_default xs n d e lt
picked_there xs (negsuc n) d e no_place = absurd no_place

far_most : (bits far each : ℕ) → far < 2 ^ bits → far * each ≤ (2 ^ bits - 1) * each
far_most bits far each lt = mul-le far each (2 ^ bits - 1) each (omega (arith, lt)) (omega arith)

pub always_up : (bits each start most parts : ℕ) → most ≡ (2 ^ bits - 1) * each → start + most < parts → (far : ℕ) → far < 2 ^ bits → IsPlace parts (begin_at false far each false start)
always_up bits each start most parts e lt = λ far below. omega (arith, far_most bits far each below, e, lt)

pub always_down : (bits each start most parts : ℕ) → most ≡ (2 ^ bits - 1) * each → most ≤ start → start < parts → (far : ℕ) → far < 2 ^ bits → IsPlace parts (begin_at true far each false start)
always_down bits each start most parts e le lt = λ far below.
    let few : far * each ≤ start = omega (arith, far_most bits far each below, e, le) in
    let z : neg_ℤ (pos (far * each)) +ℤ pos start ≡ pos (start - far * each) = omega (arith, ints, few) in
    subst (IsPlace parts) (sym z) (omega (arith, lt))

-- an index without a sign counts as the spot says
pub back_plain : (spot : Spot) (at : List Bit) → spot.signed ≡ false → back_of spot at ≡ spot.negate
back_plain spot at e = ap (λ s. not (beq (s && is_negative at) spot.negate)) e ∙ twice spot.negate
  where
    twice : (b : Bool) → not (beq false b) ≡ b
    twice true = refl
    twice false = refl

pub shifted_one : (bits : ℕ) → bits ≤ 8 → 1 * 2 ^ bits % 2 ^ 128 ≡ 2 ^ bits
shifted_one bits le = let h : 1 * 2 ^ bits ≡ 2 ^ bits = omega arith in ap (λ n. n % 2 ^ 128) h ∙ mod-eq_of_lt (pow_below bits 128 (omega (arith, le)))

pub few_bits : (bits : ℕ) → bits ≤ 8 → 2 ^ bits ≤ 256
few_bits bits le = pow-le-pow_right {n = 2} (omega arith) le
