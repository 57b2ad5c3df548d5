-- The bits that digits give, one digit after the other.
use Rattle.std.proofs.Common.{◌≡◌, ℕ, zero, suc, ◌+◌, ◌-◌, ◌*◌, ◌/◌, ◌^◌, ◌<◌, ◌≤◌, Bool, true, false, cond, not, ◌&&◌, ◌||◌, eqb, List, [], ◌∷◌, ◌++◌, length, get_or, take, drop, replicate, refl, sym, ap, ◌∙◌, arith, append_assoc}
use Rattle.std.specs.Int.Bits.{bit_and}
use Rattle.std.specs.Char.{digit_value}
use Rattle.std.proofs.lemmas.Bool.Decides.{nat_tests}
use Rattle.std.proofs.lemmas.List.{take-take, take-replicate, drop-replicate, drop-take, length-take-le, length-append, length-replicate, append-nil}
use Rattle.std.proofs.Math.Seq.{take-append-add, drop-append-add}
use Rattle.fourvec.specs.declared.Bit.{Bit}
use Rattle.fourvec.specs.declared.Bit.TheVariants.{Zero, One, Unknown, Floating}
use Rattle.fourvec.specs.Bits.{slice_of, planes, up_plane, low_plane, vector, is_zero, all_zero, up_bit, low_bit}
use Rattle.fourvec.proofs.Basic.{vector_on_planes, length-vector}
use Rattle.fourvec.proofs.Planes.{planes-mod, low_bits, low_bits_below, mask_is}
use Rattle.sv_outside.specs.Literals.{is_unknown, is_decimal_base}
use Rattle.sv_literal.specs.Value.{digits_in, fill_bit, digit_bits, bits_of, given_bits, fitted, digit_width, base_of, leftmost, decimal, vector_of}
use Rattle.sv_literal.proofs.Decimals.{digits_more}

-- ---- a number cut by the mask of a width

pub masked_below : (w n : ℕ) → w ≤ 128 → bit_and n (340282366920938463463374607431768211455 / 2 ^ (128 - w)) < 2 ^ w
masked_below w n h = low_bits_below w n _ (mask_is w h)

pub masked_planes : (w n : ℕ) → w ≤ 128 → planes w (bit_and n (340282366920938463463374607431768211455 / 2 ^ (128 - w))) (bit_and n (340282366920938463463374607431768211455 / 2 ^ (128 - w))) ≡ vector w n
masked_planes w n h = ap (λ x. planes w x x) (low_bits w n _ (mask_is w h)) ∙ planes-mod w n n ∙ vector_on_planes w n

pub ruleset masked = (masked_below, masked_planes)

-- ---- zeros

none : (n : ℕ) → eqb (0 + 2 * n) 0 ≡ eqb n 0
none n = grind (arith, nat_tests)

some : (n : ℕ) → eqb (1 + 2 * n) 0 ≡ false
some n = grind (arith, nat_tests)

-- a bit below others, whose planes are u and l
behind : (b : Bit) (zeros : Bool) (u l : ℕ) → zeros ≡ (eqb u 0 && eqb l 0) → (is_zero b && zeros) ≡ (eqb (up_bit b + 2 * u) 0 && eqb (low_bit b + 2 * l) 0)
behind Zero zeros u l e = rw (none u, none l) e
behind One zeros u l e = rw (some u) refl
behind Unknown zeros u l e = rw (some u) refl
behind Floating zeros u l e = rw (some l, none u) (last (eqb u 0))
  where
    last : (k : Bool) → false ≡ (k && false)
    last true = refl
    last false = refl

pub is_zero_on_planes : (a : List Bit) → all_zero a ≡ (eqb (up_plane a) 0 && eqb (low_plane a) 0)
unfolding all_zero up_plane low_plane
is_zero_on_planes [] = refl
is_zero_on_planes (b ∷ more) = behind b (all_zero more) (up_plane more) (low_plane more) (is_zero_on_planes more)

zeros_only : (n : ℕ) → all_zero (replicate n Zero) ≡ true
unfolding all_zero
zeros_only zero = refl
zeros_only (suc n) = zeros_only n

-- ---- digits

pub length-digit_bits : (each b : ℕ) → length (digit_bits each b) ≡ each
unfolding digit_bits
length-digit_bits each b = either (is_unknown b)
  where
    either : (unknown : Bool) → length (cond unknown (replicate each (fill_bit b)) (vector each (digit_value b))) ≡ each
    either true = length-replicate each (fill_bit b)
    either false = length-vector each (digit_value b)

bits_of_push : (each : ℕ) (ds : List ℕ) (d : ℕ) → bits_of each (ds ++ d ∷ []) ≡ digit_bits each d ++ bits_of each ds
unfolding bits_of
bits_of_push each [] d = sym (append-nil (digit_bits each d))
bits_of_push each (b ∷ bs) d = ap (λ v. v ++ digit_bits each b) (bits_of_push each bs d) ∙ append_assoc (digit_bits each d) (bits_of each bs) (digit_bits each b)

-- the bits of one byte more
pub given_more : (each : ℕ) (t : List ℕ) (i : ℕ) → i < length t → given_bits each (take (i + 1) t) ≡ cond (eqb (get_or t i 0) 95) (given_bits each (take i t)) (digit_bits each (get_or t i 0) ++ given_bits each (take i t))
unfolding given_bits
given_more each t i h = ap (bits_of each) (digits_more t i h) ∙ passed (eqb (get_or t i 0) 95) (digits_in (take i t)) (get_or t i 0)
  where
    passed : (mark : Bool) (so_far : List ℕ) (b : ℕ) → bits_of each (cond mark so_far (so_far ++ b ∷ [])) ≡ cond mark (bits_of each so_far) (digit_bits each b ++ bits_of each so_far)
    passed true so_far b = refl
    passed false so_far b = bits_of_push each so_far b

-- ---- vectors of a width

-- a digit behind a vector
pub pushed : (digit last : List Bit) → length digit ≤ length last → digit ++ take (length last - length digit) (drop 0 last) ≡ take (length last) (digit ++ last)
pushed digit last h =
    let whole : length digit + (length last - length digit) ≡ length last = omega arith in
    sym (take-append-add digit last (length last - length digit)) ∙ ap (λ n. take n (digit ++ last)) whole

pub length-fitted : (width : ℕ) (fill : Bit) (bits : List Bit) → length (fitted width fill bits) ≡ width
unfolding fitted
length-fitted width fill bits = length-take-le width (bits ++ replicate width fill) (omega (arith, length-append bits (replicate width fill), length-replicate width fill))

pub ruleset length_of_fitted = (length-fitted)

pub fitted_none : (width each : ℕ) (fill : Bit) → fitted width fill (given_bits each []) ≡ replicate width fill
unfolding fitted given_bits bits_of
fitted_none width each fill = take-replicate width width fill (omega arith)

take_behind : (v w : ℕ) (front back : List Bit) → v ≤ w → take v (front ++ take w back) ≡ take v (front ++ back)
take_behind v w [] back h = take-take v w back h
take_behind zero w (b ∷ front) back h = refl
take_behind (suc v) w (b ∷ front) back h = ap (λ bs. b ∷ bs) (take_behind v w front back (omega arith))

-- a digit more in a vector of a width
pub fitted_push : (width : ℕ) (fill : Bit) (digit bits : List Bit) → take width (digit ++ fitted width fill bits) ≡ fitted width fill (digit ++ bits)
unfolding fitted
fitted_push width fill digit bits =
    take_behind width width digit (bits ++ replicate width fill) (omega arith) ∙ ap (take width) (sym (append_assoc digit bits (replicate width fill)))

take_filled : (narrow wide : ℕ) (fill : Bit) (bits : List Bit) → narrow ≤ wide → take narrow (bits ++ replicate wide fill) ≡ take narrow (bits ++ replicate narrow fill)
take_filled narrow wide fill bits h =
    sym (take_behind narrow narrow bits (replicate wide fill) (omega arith)) ∙ ap (λ bs. take narrow (bits ++ bs)) (take-replicate narrow wide fill h)

-- a narrower vector is a part of a wider one
pub fitted_part : (narrow wide : ℕ) (fill : Bit) (bits : List Bit) → narrow ≤ wide → take narrow (drop 0 (fitted wide fill bits)) ≡ fitted narrow fill bits
unfolding fitted
fitted_part narrow wide fill bits h = take-take narrow wide (bits ++ replicate wide fill) h ∙ take_filled narrow wide fill bits h

pub ruleset lasts = (length-digit_bits, length-fitted, fitted_none, given_more, fitted_push)

-- ---- what is pushed past a position

pub passing_none : (each : ℕ) → all_zero (drop 32 (given_bits each [])) ≡ true
unfolding given_bits bits_of all_zero
passing_none each = refl

-- bits are all 0 where some first ones are, filled with 0, and the others
zeros_split : (n filled : ℕ) (bits : List Bit) → n ≤ filled → all_zero bits ≡ (all_zero (take n (bits ++ replicate filled Zero)) && all_zero (drop n bits))
unfolding all_zero
zeros_split zero filled bits h = refl
zeros_split (suc n) filled [] h = sym (ap (λ bs. all_zero bs && true) (take-replicate (suc n) filled Zero h) ∙ ap (λ b. b && true) (zeros_only (suc n)))
zeros_split (suc n) filled (b ∷ bits) h =
    ap (λ rest. is_zero b && rest) (zeros_split n filled bits (omega arith)) ∙ regroup (is_zero b) (all_zero (take n (bits ++ replicate filled Zero))) (all_zero (drop n bits))
  where
    regroup : (p q r : Bool) → (p && (q && r)) ≡ ((p && q) && r)
    regroup true q r = refl
    regroup false q r = refl

zeros_split_at : (k n filled : ℕ) (bits : List Bit) → k + n ≤ filled → all_zero (drop k bits) ≡ (all_zero (take n (drop k (bits ++ replicate filled Zero))) && all_zero (drop (k + n) bits))
unfolding all_zero
zeros_split_at zero n filled bits h = zeros_split n filled bits (omega arith) ∙ ap (λ v. all_zero (take n (bits ++ replicate filled Zero)) && all_zero (drop v bits)) (let e : n ≡ zero + n = omega arith in e)
zeros_split_at (suc k) n filled [] h =
    let rest : take n (drop (suc k) (replicate filled Zero)) ≡ replicate n Zero =
    ap (take n) (drop-replicate (suc k) filled Zero) ∙ take-replicate n (filled - suc k) Zero (omega arith) in
    let count : suc (k + n) ≡ suc k + n = omega arith in
    sym (ap (λ bs. all_zero bs && all_zero (drop (suc k + n) [])) rest ∙ ap (λ b. b && all_zero (drop (suc k + n) [])) (zeros_only n) ∙ ap (λ v. all_zero (drop v [])) (sym count))
zeros_split_at (suc k) n filled (b ∷ bits) h =
    let count : suc (k + n) ≡ suc k + n = omega arith in
    zeros_split_at k n filled bits (omega arith) ∙ ap (λ v. all_zero (take n (drop k (bits ++ replicate filled Zero))) && all_zero (drop v (b ∷ bits))) count

-- what a digit more pushes past a position
pub passing_more : (width each : ℕ) (digit bits : List Bit) → length digit ≡ each → each ≤ width → all_zero (drop width (digit ++ bits)) ≡ (all_zero (take each (drop (width - each) (fitted width Zero bits))) && all_zero (drop width bits))
unfolding fitted
passing_more width each digit bits e h =
    let whole : length digit + (width - each) ≡ width = omega arith in
    let parts : (width - each) + each ≡ width = omega arith in
    let pushed_out : drop width (digit ++ bits) ≡ drop (width - each) bits = ap (λ n. drop n (digit ++ bits)) (sym whole) ∙ drop-append-add digit bits (width - each) in
    let filled = bits ++ replicate width Zero in
    let kept : take each (drop (width - each) (take width filled)) ≡ take each (drop (width - each) filled) =
    ap (λ n. take each (drop (width - each) (take n filled))) (sym parts) ∙ ap (take each) (drop-take (width - each) each filled) ∙ take-take each each (drop (width - each) filled) (omega arith) in
    ap all_zero pushed_out ∙ zeros_split_at (width - each) each width bits (omega arith)
    ∙ ap (λ n. all_zero (take each (drop (width - each) filled)) && all_zero (drop n bits)) parts
    ∙ ap (λ bs. all_zero bs && all_zero (drop width bits)) (sym kept)

-- the same of a digit, and turned
pub passing_digit : (each d : ℕ) (bits : List Bit) → each ≤ 32 → not (all_zero (drop 32 (digit_bits each d ++ bits))) ≡ (not (all_zero (drop 32 bits)) || not (all_zero (take each (drop (32 - each) (fitted 32 Zero bits)))))
passing_digit each d bits h =
    ap not (passing_more 32 each (digit_bits each d) bits (length-digit_bits each d) h) ∙ turned (all_zero (take each (drop (32 - each) (fitted 32 Zero bits)))) (all_zero (drop 32 bits))
  where
    turned : (p q : Bool) → not (p && q) ≡ (not q || not p)
    turned true true = refl
    turned true false = refl
    turned false true = refl
    turned false false = refl

pub ruleset passing = (length-digit_bits, length-fitted, fitted_none, given_more, fitted_push, passing_none, passing_digit)

-- ---- the vector of a value by its parts

pub vector_of-digits : (width base first each : ℕ) (text digits : List ℕ) (fill : Bit) (last v : List Bit) → base ≡ base_of text → first ≡ leftmost text → digits ≡ drop 1 text
    → is_decimal_base base ≡ false → each ≡ digit_width base → fill ≡ fill_bit first → last ≡ fitted 128 fill (given_bits each digits) → width ≤ 128 → v ≡ slice_of last 0 width → v ≡ vector_of width text
unfolding vector_of
vector_of-digits width base first each text digits fill last v b f d other e g l h is =
    let parts : fitted width fill (given_bits each digits) ≡ fitted width (fill_bit (leftmost text)) (given_bits (digit_width (base_of text)) (drop 1 text)) =
    ap (λ x. fitted width x (given_bits each digits)) (g ∙ ap (λ n. fill_bit n) f)
    ∙ ap (λ n. fitted width (fill_bit (leftmost text)) (given_bits n digits)) (e ∙ ap (λ n. digit_width n) b)
    ∙ ap (λ ds. fitted width (fill_bit (leftmost text)) (given_bits (digit_width (base_of text)) ds)) d in
    let choice : is_decimal_base (base_of text) ≡ false = ap (λ n. is_decimal_base n) (sym b) ∙ other in
    is ∙ ap (λ x. take width (drop 0 x)) l ∙ fitted_part width 128 fill (given_bits each digits) h ∙ parts
    ∙ sym (ap (λ k. cond k (cond (is_unknown (leftmost text)) (replicate width (fill_bit (leftmost text))) (vector width (decimal (drop 1 text)))) (fitted width (fill_bit (leftmost text)) (given_bits (digit_width (base_of text)) (drop 1 text)))) choice)

pub vector_of-unknown : (width base first : ℕ) (text : List ℕ) (fill : Bit) (v : List Bit) → base ≡ base_of text → first ≡ leftmost text
    → is_decimal_base base ≡ true → is_unknown first ≡ true → fill ≡ fill_bit first → v ≡ replicate width fill → v ≡ vector_of width text
unfolding vector_of
vector_of-unknown width base first text fill v b f one unknown g is =
    let choice : is_decimal_base (base_of text) ≡ true = ap (λ n. is_decimal_base n) (sym b) ∙ one in
    let alone : is_unknown (leftmost text) ≡ true = ap (λ n. is_unknown n) (sym f) ∙ unknown in
    let numbers = vector width (decimal (drop 1 text)) in
    let filled = replicate width (fill_bit (leftmost text)) in
    is ∙ ap (λ x. replicate width x) (g ∙ ap (λ n. fill_bit n) f)
    ∙ sym (ap (λ k. cond k (cond (is_unknown (leftmost text)) filled numbers) (fitted width (fill_bit (leftmost text)) (given_bits (digit_width (base_of text)) (drop 1 text)))) choice
    ∙ ap (λ k. cond k filled numbers) alone)
