-- Words of literals as vectors of known bits.
use Rattle.std.proofs.Common.{◌≡◌, ℕ, ◌+◌, ◌-◌, ◌*◌, ◌/◌, ◌%◌, ◌^◌, ◌<◌, ◌≤◌, ◌≢◌, Bool, true, false, ◌&&◌, cond, ltb, List, [], ◌∷◌, length, get_or, take, map, refl, sym, ap, subst, ◌∙◌, arith}
use Rattle.std.specs.Bool.{beq}
use Rattle.std.specs.Prelude.{pos, negsuc, neg_ℤ, int_lt, int_div, int_rem, unsigned_abs}
use Rattle.std.proofs.lemmas.Bool.{lt-ltb, le-ltb, eq-eqb, ne_eqb}
use Rattle.std.proofs.Math.Nat.{mod-eq_of_lt}
use Rattle.std.proofs.lemmas.List.{length-map, get_or-map, take_all}
use Rattle.aig.specs.declared.gate.Lit.{Lit}
use Rattle.aig.specs.Graph.{holds, constant_lit, IsIn}
use Rattle.aig_words.specs.Words.{number, weight, differ}
use Rattle.aig_words.specs.Words as words
use Rattle.aig_words.proofs.Numbers.{number-below, number-more, number-take-below}
use Rattle.aig_words.proofs.Tables.{and_true}
use Rattle.fourvec.specs.declared.Bit.{Bit}
use Rattle.fourvec.specs.declared.Bit.TheVariants.{Zero}
use Rattle.fourvec.specs.Bits.{truth_bit, is_odd, is_one, vector, is_known, is_known_bit, all_x, top, is_negative, add_of, sub_of, mul_of, div_of, rem_of, neg_of, sdiv_of, srem_of, lt_of, slt_of, signed_vector, bit_of}
use Rattle.fourvec.specs.Bits as bits
use Rattle.fourvec.proofs.Basic.{vector-mod, number-vector, number-lt}
use Rattle.fourvec.proofs.Signed.{magnitude_by_sign, negative_some, divisor_some, divided, left_over, neg_vector}
use Rattle.pair_words.specs.declared.pairs.Pair.{Pair}
use Rattle.pair_words.specs.Rails.{bit_at, IsWired}
use Rattle.std.specs.List.{All}
use Rattle.aig.specs.declared.gate.Gate.{Gate}
use Rattle.pair_words.specs.Rails as rails
use Rattle.pair_words.specs.declared.numbers.Number.{Number}
use Rattle.pair_words.specs.declared.numbers.Number.TheVariants.{Add, Sub, Mul, Div, Rem, Sdiv, Srem, Lt, Slt}
use Rattle.pair_words.specs.Truths.{truths, known_pair, number_value, number_width, is_defined}

pub length-truths : (v : ℕ → Bool) (a : List Lit) → length (truths v a) ≡ length a
length-truths v a = length-map a (λ l. truth_bit (holds v l))

known_truth : (b : Bool) → is_known_bit (truth_bit b) ≡ true
known_truth true = refl
known_truth false = refl

pub known-truths : (v : ℕ → Bool) (a : List Lit) → is_known (truths v a) ≡ true
unfolding is_known
known-truths v [] = refl
known-truths v (l ∷ a) = rw (known_truth (holds v l)) (known-truths v a)

weight_truth : (b : Bool) → bits.weight (truth_bit b) ≡ weight b
weight_truth true = refl
weight_truth false = refl

pub number-truths : (v : ℕ → Bool) (a : List Lit) → bits.number (truths v a) ≡ number v a
unfolding number bits.number
number-truths v [] = refl
number-truths v (l ∷ a) = omega (arith, weight_truth (holds v l), number-truths v a)

odd_step : (b : Bool) (n : ℕ) → is_odd (weight b + 2 * n) ≡ b
odd_step true n = let e : (1 + 2 * n) % 2 ≡ 1 = omega arith in eq-eqb ((1 + 2 * n) % 2) 1 e
odd_step false n = let e : (0 + 2 * n) % 2 ≢ 1 = omega arith in ne_eqb ((0 + 2 * n) % 2) 1 e

half_step : (b : Bool) (n : ℕ) → (weight b + 2 * n) / 2 ≡ n
half_step true n = omega arith
half_step false n = omega arith

-- a word is the vector of its number
pub truths-vector : (v : ℕ → Bool) (a : List Lit) → truths v a ≡ vector (length a) (number v a)
unfolding number vector
truths-vector v [] = refl
truths-vector v (l ∷ a) =
    let odd = odd_step (holds v l) (number v a) in
    let half = half_step (holds v l) (number v a) in
    ap (λ (t : List Bit). truth_bit (holds v l) ∷ t) (truths-vector v a) ∙
    ap (λ (n : ℕ). truth_bit (holds v l) ∷ vector (length a) n) (sym half) ∙
    ap (λ (b : Bool). truth_bit b ∷ vector (length a) ((weight (holds v l) + 2 * number v a) / 2)) (sym odd)

-- a word of that width with that number, up to the power of the width
pub truths-of : (v : ℕ → Bool) (r : List Lit) (w n : ℕ) → length r ≡ w → number v r ≡ n → truths v r ≡ vector w n
truths-of v r w n long e = truths-vector v r ∙ ap (λ k. vector k (number v r)) long ∙ ap (λ k. vector w k) e

pub truths-mod : (v : ℕ → Bool) (r : List Lit) (w n : ℕ) → length r ≡ w → number v r ≡ n % 2 ^ w → truths v r ≡ vector w n
truths-mod v r w n long e = truths-of v r w (n % 2 ^ w) long e ∙ vector-mod w n

both_known : (v : ℕ → Bool) (a b : List Lit) → (is_known (truths v a) && is_known (truths v b)) ≡ true
both_known v a b = rw (known-truths v a, known-truths v b) refl

-- ---- the operators on words

pub added : (v : ℕ → Bool) (a b r : List Lit) → length r ≡ length a → number v r ≡ (number v a + number v b) % 2 ^ length a → truths v r ≡ add_of (truths v a) (truths v b)
unfolding add_of
added v a b r long e =
    rw (known-truths v a, known-truths v b, length-truths v a, number-truths v a, number-truths v b) (truths-mod v r (length a) (number v a + number v b) long e)

pub taken : (v : ℕ → Bool) (a b r : List Lit) → length r ≡ length a → number v r ≡ (number v a + (2 ^ length a - number v b)) % 2 ^ length a → truths v r ≡ sub_of (truths v a) (truths v b)
unfolding sub_of
taken v a b r long e =
    rw (known-truths v a, known-truths v b, length-truths v a, number-truths v a, number-truths v b) (truths-mod v r (length a) (number v a + (2 ^ length a - number v b)) long e)

pub multiplied : (v : ℕ → Bool) (a b r : List Lit) → length r ≡ length a → number v r ≡ (number v a * number v b) % 2 ^ length a → truths v r ≡ mul_of (truths v a) (truths v b)
unfolding mul_of
multiplied v a b r long e =
    rw (known-truths v a, known-truths v b, length-truths v a, number-truths v a, number-truths v b) (truths-mod v r (length a) (number v a * number v b) long e)

pub quotient_is : (v : ℕ → Bool) (a b r : List Lit) → length r ≡ length a → 0 < number v b → number v r ≡ number v a / number v b → truths v r ≡ div_of (truths v a) (truths v b)
unfolding div_of
quotient_is v a b r long some e =
    rw (known-truths v a, known-truths v b, length-truths v a, number-truths v a, number-truths v b, lt-ltb 0 (number v b) some) (truths-of v r (length a) (number v a / number v b) long e)

pub rest_is : (v : ℕ → Bool) (a b r : List Lit) → length r ≡ length a → 0 < number v b → number v r ≡ number v a % number v b → truths v r ≡ rem_of (truths v a) (truths v b)
unfolding rem_of
rest_is v a b r long some e =
    rw (known-truths v a, known-truths v b, length-truths v a, number-truths v a, number-truths v b, lt-ltb 0 (number v b) some) (truths-of v r (length a) (number v a % number v b) long e)

pub less_is : (v : ℕ → Bool) (a b : List Lit) (r : Lit) → holds v r ≡ ltb (number v a) (number v b) → truths v (r ∷ []) ≡ lt_of (truths v a) (truths v b)
unfolding lt_of
less_is v a b r e =
    rw (known-truths v a, known-truths v b, number-truths v a, number-truths v b) (ap (λ (t : Bool). truth_bit t ∷ []) e)

-- ---- signs

one_truth : (b : Bool) → is_one (truth_bit b) ≡ b
one_truth true = refl
one_truth false = refl

pub negative_is : (v : ℕ → Bool) (a : List Lit) (d : Lit) → 0 < length a → is_negative (truths v a) ≡ holds v (get_or a (length a - 1) d)
negative_is v a d some =
    ap (λ (n : ℕ). is_one (get_or (truths v a) (n - 1) Zero)) (length-truths v a) ∙
    ap is_one (get_or-map (λ l. truth_bit (holds v l)) a (length a - 1) d Zero (omega arith)) ∙ one_truth (holds v (get_or a (length a - 1) d))

-- a number turned into its two's complement
pub turned_is : (v : ℕ → Bool) (a o r : List Lit) (t : Bool) → length r ≡ length a → number v o ≡ (2 ^ length a - number v a) % 2 ^ length a → number v r ≡ cond t (number v o) (number v a) →
    truths v r ≡ cond t (neg_of (truths v a)) (truths v a)
unfolding neg_of
turned_is v a o r true long e f = rw (known-truths v a, length-truths v a, number-truths v a) (truths-mod v r (length a) (2 ^ length a - number v a) long (f ∙ e))
turned_is v a o r false long e f = truths-of v r (length a) (number v a) long f ∙ sym (truths-vector v a)

neg_number : (v : ℕ → Bool) (a : List Lit) → 0 < number v a → bits.number (neg_of (truths v a)) ≡ 2 ^ length a - 1 - number v a + 1
unfolding neg_of
neg_number v a some =
    rw (known-truths v a, length-truths v a, number-truths v a, number-vector (length a) (2 ^ length a - number v a)) (
    let lt : number v a < 2 ^ length a = number-below v a in
    mod-eq_of_lt (let k : 2 ^ length a - number v a < 2 ^ length a = omega arith in k) ∙ (let k : 2 ^ length a - number v a ≡ 2 ^ length a - 1 - number v a + 1 = omega arith in k))

magnitude_by : (v : ℕ → Bool) (a p : List Lit) (t : Bool) → is_negative (truths v a) ≡ t → truths v p ≡ cond t (neg_of (truths v a)) (truths v a) →
    bits.number (truths v p) ≡ cond t (2 ^ length a - 1 - number v a + 1) (number v a)
magnitude_by v a p true s e =
    ap (λ (xs : List Bit). bits.number xs) e ∙ neg_number v a (subst (λ n. 0 < n) (number-truths v a) (negative_some (truths v a) s))
magnitude_by v a p false s e = ap (λ (xs : List Bit). bits.number xs) e ∙ number-truths v a

-- the distance from 0
pub magnitude_is : (v : ℕ → Bool) (a p : List Lit) (t : Bool) → is_negative (truths v a) ≡ t → truths v p ≡ cond t (neg_of (truths v a)) (truths v a) →
    number v p ≡ unsigned_abs (bits.signed (truths v a))
magnitude_is v a p t s e =
    sym (number-truths v p) ∙ magnitude_by v a p t s e ∙
    sym (magnitude_by_sign (truths v a) (number-lt (truths v a)) ∙
    rw (s, length-truths v a, number-truths v a) refl)

-- the quotient of two's complement numbers, by the signs s and t and the distances p and q from 0
pub sdiv_by : (v : ℕ → Bool) (a b r : List Lit) (w p q : ℕ) (s t : Bool) → w ≡ length a → is_negative (truths v a) ≡ s → is_negative (truths v b) ≡ t → 0 < number v b →
    p ≡ unsigned_abs (bits.signed (truths v a)) → q ≡ unsigned_abs (bits.signed (truths v b)) →
    truths v r ≡ cond (differ s t) (neg_of (vector w (p / q))) (vector w (p / q)) → truths v r ≡ sdiv_of (truths v a) (truths v b)
unfolding sdiv_of
sdiv_by v a b r w p q s t la sa sb some ep eq f =
    let n : ℕ = unsigned_abs (bits.signed (truths v a)) / unsigned_abs (bits.signed (truths v b)) in
    let A : List Bit = truths v a in
    let B : List Bit = truths v b in
    let k : ((is_known A && is_known B) && ltb 0 (bits.number B)) ≡ true = rw (known-truths v a, known-truths v b, number-truths v b) (lt-ltb 0 (number v b) some) in
    f ∙ (λ i. cond (differ s t) (neg_of (vector w (ep i / eq i))) (vector w (ep i / eq i))) ∙
    sym (ap (λ c. cond c (signed_vector (length A) (int_div (bits.signed A) (bits.signed B))) (all_x (length A))) k ∙
    ap (λ m. signed_vector m (int_div (bits.signed A) (bits.signed B))) (length-truths v a ∙ sym la) ∙
    ap (λ z. signed_vector w z) (divided A B ∙ (λ i. cond (beq (sa i) (sb i)) (pos n) (neg_ℤ (pos n)))) ∙ by_sign w n s t)
  where
    by_sign : (w n : ℕ) (s t : Bool) → signed_vector w (cond (beq s t) (pos n) (neg_ℤ (pos n))) ≡ cond (differ s t) (neg_of (vector w n)) (vector w n)
    by_sign w n true true = refl
    by_sign w n true false = sym (neg_vector w n)
    by_sign w n false true = sym (neg_vector w n)
    by_sign w n false false = refl

pub srem_by : (v : ℕ → Bool) (a b r : List Lit) (w p q : ℕ) (s : Bool) → w ≡ length a → is_negative (truths v a) ≡ s → 0 < number v b →
    p ≡ unsigned_abs (bits.signed (truths v a)) → q ≡ unsigned_abs (bits.signed (truths v b)) →
    truths v r ≡ cond s (neg_of (vector w (p % q))) (vector w (p % q)) → truths v r ≡ srem_of (truths v a) (truths v b)
unfolding srem_of
srem_by v a b r w p q s la sa some ep eq f =
    let n : ℕ = unsigned_abs (bits.signed (truths v a)) % unsigned_abs (bits.signed (truths v b)) in
    let A : List Bit = truths v a in
    let B : List Bit = truths v b in
    let k : ((is_known A && is_known B) && ltb 0 (bits.number B)) ≡ true = rw (known-truths v a, known-truths v b, number-truths v b) (lt-ltb 0 (number v b) some) in
    f ∙ (λ i. cond s (neg_of (vector w (ep i % eq i))) (vector w (ep i % eq i))) ∙
    sym (ap (λ c. cond c (signed_vector (length A) (int_rem (bits.signed A) (bits.signed B))) (all_x (length A))) k ∙
    ap (λ m. signed_vector m (int_rem (bits.signed A) (bits.signed B))) (length-truths v a ∙ sym la) ∙
    ap (λ z. signed_vector w z) (left_over A B ∙ (λ i. cond (sa i) (neg_ℤ (pos n)) (pos n))) ∙ by_sign w n s)
  where
    by_sign : (w n : ℕ) (s : Bool) → signed_vector w (cond s (neg_ℤ (pos n)) (pos n)) ≡ cond s (neg_of (vector w n)) (vector w n)
    by_sign w n true = sym (neg_vector w n)
    by_sign w n false = refl

pub divisor_is : (v : ℕ → Bool) (b : List Lit) → 0 < number v b → 0 < unsigned_abs (bits.signed (truths v b))
divisor_is v b some = divisor_some (truths v b) (number-lt (truths v b)) (subst (λ n. 0 < n) (sym (number-truths v b)) some)

-- two's complement by the top bit is two's complement by the number
by_top : (w n m p : ℕ) (x : Bool) → p ≡ 2 ^ (w - 1) → m < p → n ≡ m + p * weight x → cond (ltb n (2 ^ (w - 1))) (pos n) (negsuc (2 ^ w - 1 - n)) ≡ cond x (negsuc (2 ^ w - 1 - n)) (pos n)
by_top w n m p true e lt f = ap (λ (t : Bool). cond t (pos n) (negsuc (2 ^ w - 1 - n))) (le-ltb n (2 ^ (w - 1)) (omega (arith, e, f)))
by_top w n m p false e lt f = ap (λ (t : Bool). cond t (pos n) (negsuc (2 ^ w - 1 - n))) (lt-ltb n (2 ^ (w - 1)) (omega (arith, e, f)))

signed_same : (v : ℕ → Bool) (a : List Lit) → 0 < length a → words.signed (length a) (number v a) ≡ bits.signed (truths v a)
signed_same v a some =
    let j : ℕ = length a - 1 in
    let d : Lit = constant_lit false in
    let x : Bool = holds v (get_or a j d) in
    let top : number v (take (j + 1) a) ≡ number v (take j a) + 2 ^ j * weight x = number-more v a j d (omega arith) in
    let whole : take (j + 1) a ≡ a = take_all (j + 1) a (omega arith) in
    let n : number v a ≡ number v (take j a) + 2 ^ j * weight x = ap (λ (xs : List Lit). number v xs) (sym whole) ∙ top in
    by_top (length a) (number v a) (number v (take j a)) (2 ^ j) x refl (number-take-below v a j (omega arith)) n ∙
    sym (rw (negative_is v a d some, length-truths v a, number-truths v a) refl)

pub signed_less_is : (v : ℕ → Bool) (a b : List Lit) (r : Lit) → 0 < length a → length a ≡ length b →
    holds v r ≡ int_lt (words.signed (length a) (number v a)) (words.signed (length a) (number v b)) → truths v (r ∷ []) ≡ slt_of (truths v a) (truths v b)
unfolding slt_of
signed_less_is v a b r some same e =
    rw (known-truths v a, known-truths v b) (ap (λ (t : Bool). truth_bit t ∷ []) (e ∙
    ap (λ z. int_lt z (words.signed (length a) (number v b))) (signed_same v a some) ∙
    ap (λ z. int_lt (bits.signed (truths v a)) z) (ap (λ n. words.signed n (number v b)) same ∙ signed_same v b (subst (λ n. 0 < n) same some))))

-- ---- guards

known_table : (b : Bool) → bit_of b b ≡ truth_bit b
known_table true = refl
known_table false = refl

-- a word as pairs
pub pairs_are : (v : ℕ → Bool) (word : List Lit) → rails.bits v (map known_pair word) ≡ truths v word
pairs_are v [] = refl
pairs_are v (l ∷ word) = ap (λ (t : List Bit). bit_of (holds v l) (holds v l) ∷ t) (pairs_are v word) ∙ ap (λ (t : Bit). t ∷ truths v word) (known_table (holds v l))

pub pairs_in : (gates : List Gate) (word : List Lit) → All (IsIn gates) word → All (IsWired gates) (map known_pair word)
pairs_in gates word h = λ k d lt. let below : k < length word = subst (λ n. k < n) (length-map word known_pair) lt in
    let e = get_or-map known_pair word k (constant_lit false) d below in
    let i = h k (constant_lit false) below in
    subst (λ (p : Pair). IsWired gates p) (sym e) (record { up = i; low = i })

-- ---- vectors of known bits

up_known : (x y : Bool) → is_known_bit (bit_of x y) ≡ true → bit_of x y ≡ truth_bit x
up_known true true e = refl
up_known true false e = cc
up_known false true e = cc
up_known false false e = refl

left_of : (x y : Bool) → (x && y) ≡ true → x ≡ true
left_of true y e = refl
left_of false y e = e

right_of : (x y : Bool) → (x && y) ≡ true → y ≡ true
right_of true y e = e
right_of false y e = cc

-- a known vector is that of its upper rail
pub known_is : (v : ℕ → Bool) (a : List Pair) → is_known (rails.bits v a) ≡ true → rails.bits v a ≡ truths v (map (λ p. p.up) a)
unfolding is_known
known_is v [] e = refl
known_is v (p ∷ a) e =
    let x : Bool = is_known_bit (bit_at v p) in
    let h : bit_at v p ≡ truth_bit (holds v p.up) = up_known (holds v p.up) (holds v p.low) (left_of x (is_known (rails.bits v a)) e) in
    ap (λ (t : List Bit). bit_at v p ∷ t) (known_is v a (right_of x (is_known (rails.bits v a)) e)) ∙ ap (λ (t : Bit). t ∷ truths v (map (λ p. p.up) a)) h

-- where a bit is unknown, or the operator has no result, each bit is X
nothing : (op : Number) (a b : List Bit) → ((is_known a && is_known b) && is_defined op (bits.number b)) ≡ false → number_value op a b ≡ all_x (number_width op (length a))
unfolding add_of sub_of mul_of div_of rem_of sdiv_of srem_of lt_of slt_of
nothing Add a b e = rw (sym (and_true (is_known a && is_known b)) ∙ e) refl
nothing Sub a b e = rw (sym (and_true (is_known a && is_known b)) ∙ e) refl
nothing Mul a b e = rw (sym (and_true (is_known a && is_known b)) ∙ e) refl
nothing Div a b e = rw e refl
nothing Rem a b e = rw e refl
nothing Sdiv a b e = rw e refl
nothing Srem a b e = rw e refl
nothing Lt a b e = rw (sym (and_true (is_known a && is_known b)) ∙ e) refl
nothing Slt a b e = rw (sym (and_true (is_known a && is_known b)) ∙ e) refl

-- an operator on words, where a condition is true and it has a result
pub guarded_by : (c d all : Bool) (w n r : List Bit) (long wide : ℕ) → all ≡ (c && d) → (d ≡ true → w ≡ n) → long ≡ wide → r ≡ cond all w (all_x long) → r ≡ cond (c && d) n (all_x wide)
guarded_by true true all w n r long wide ea ew el er = er ∙ ap (λ (t : Bool). cond t w (all_x long)) ea ∙ ew refl
guarded_by true false all w n r long wide ea ew el er = er ∙ ap (λ (t : Bool). cond t w (all_x long)) ea ∙ ap (λ k. all_x k) el
guarded_by false d all w n r long wide ea ew el er = er ∙ ap (λ (t : Bool). cond t w (all_x long)) ea ∙ ap (λ k. all_x k) el

-- an operator, guarded by what is known
pub numbers_at : (op : Number) (a b x y r : List Bit) (m : ℕ) (j : Bool) → (is_known a ≡ true → a ≡ x) → (is_known b ≡ true → b ≡ y) → j ≡ (is_known a && is_known b) → bits.number y ≡ m →
    r ≡ cond (j && is_defined op m) (number_value op x y) (all_x (number_width op (length a))) → r ≡ number_value op a b
numbers_at op a b x y r m j ka kb ej em er = by_known (is_known a) (is_known b) (is_defined op m) refl refl refl
  where
    by_known : (s t d : Bool) → is_known a ≡ s → is_known b ≡ t → is_defined op m ≡ d → r ≡ number_value op a b
    by_known true true true es et ed =
        er ∙ ap (λ (q : Bool). cond q (number_value op x y) (all_x (number_width op (length a)))) (λ i. (ej ∙ (λ k. es k && et k)) i && ed i) ∙
        sym (ap (λ (q : List Bit). number_value op q b) (ka es) ∙ ap (λ (q : List Bit). number_value op x q) (kb et))
    by_known true true false es et ed =
        let by : b ≡ y = kb et in
        let no : ((is_known a && is_known b) && is_defined op (bits.number b)) ≡ false =
        (λ i. (es i && et i) && is_defined op (bits.number (by i))) ∙ ap (λ n. is_defined op n) em ∙ ed in
        er ∙ ap (λ (q : Bool). cond q (number_value op x y) (all_x (number_width op (length a)))) (λ i. (ej ∙ (λ k. es k && et k)) i && ed i) ∙ sym (nothing op a b no)
    by_known true false d es et ed =
        let no : ((is_known a && is_known b) && is_defined op (bits.number b)) ≡ false = λ i. (es i && et i) && is_defined op (bits.number b) in
        er ∙ ap (λ (q : Bool). cond q (number_value op x y) (all_x (number_width op (length a)))) (λ i. (ej ∙ (λ k. es k && et k)) i && is_defined op m) ∙ sym (nothing op a b no)
    by_known false t d es et ed =
        let no : ((is_known a && is_known b) && is_defined op (bits.number b)) ≡ false = λ i. (es i && is_known b) && is_defined op (bits.number b) in
        er ∙ ap (λ (q : Bool). cond q (number_value op x y) (all_x (number_width op (length a)))) (λ i. (ej ∙ (λ k. es k && is_known b)) i && is_defined op m) ∙ sym (nothing op a b no)

pub narrow : (op : Number) (w : ℕ) → 0 < w → number_width op w ≤ w
narrow Add w h = omega arith
narrow Sub w h = omega arith
narrow Mul w h = omega arith
narrow Div w h = omega arith
narrow Rem w h = omega arith
narrow Sdiv w h = omega arith
narrow Srem w h = omega arith
narrow Lt w h = omega arith
narrow Slt w h = omega arith

pub uppers_in : (gates : List Gate) (a : List Pair) → All (IsWired gates) a → All (IsIn gates) (map (λ p. p.up) a)
uppers_in gates a h = λ k d lt. let below : k < length a = subst (λ n. k < n) (length-map a (λ p. p.up)) lt in
    let e = get_or-map (λ (p : Pair). p.up) a k (record { up = d; low = d }) d below in
    subst (IsIn gates) (sym e) ((h k (record { up = d; low = d }) below).up)
