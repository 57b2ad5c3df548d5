-- What the planes of a vector say of it.
use Rattle.std.proofs.Common.{List, ◌≡◌, ℕ, zero, suc, ◌+◌, ◌-◌, ◌*◌, ◌/◌, ◌%◌, ◌^◌, ◌<◌, ◌≤◌, Bool, true, false, ◌&&◌, eqb, [], ◌∷◌, length, replicate, get_or, refl, sym, ap, ◌∙◌, subst, inl, inr, arith}
use Rattle.std.specs.Prelude.{slice_get, Some}
use Rattle.std.specs.Bool.{beq}
use Rattle.std.proofs.lemmas.Option.{slice_get-get_or}
use Rattle.std.proofs.Math.Pow.{mod-mod-pow}
use Rattle.std.proofs.Math.Nat.{pow-suc}
use Rattle.std.proofs.lemmas.Nat.{pow-add, pow_pos, mod_below}
use Rattle.std.specs.Int.Bits.{bit_and}
use Rattle.std.proofs.lemmas.Nat.Bits.{bit_at_ones, bit_at-zero, shr_and_one}
use Rattle.std.proofs.lemmas.Bool.{cases_eq, eqb-true, eq-eqb, ne_eqb, eqb-false}
use Rattle.fourvec.specs.declared.Bit.{Bit}
use Rattle.fourvec.specs.declared.Bit.TheVariants.{Zero, One, Unknown, Floating}
use Rattle.fourvec.specs.Bits.{bit_of, is_odd, planes, is_known_bit, is_known, all_x, truth_bit, weight, number, vector, up_bit, low_bit, up_plane, low_plane}
use Rattle.fourvec.specs.PlanesBack.{length-planes, up_plane-planes, low_plane-planes, half_below}
use Rattle.fourvec.proofs.Tables.{left_of, right_of}
use Rattle.fourvec.proofs.Planes.{has, at, at_lowest, at-suc, planes_low, planes-mod}

pub ruleset views = (length-planes, up_plane-planes, low_plane-planes)

-- a known vector shows a number on both planes
pub vector_on_planes : (w n : ℕ) → planes w n n ≡ vector w n
unfolding planes vector
vector_on_planes zero n = refl
vector_on_planes (suc w) n =
    let rest = vector_on_planes w (n / 2) in
    let first = one_bit (is_odd n) in
    cc
  where
    one_bit : (b : Bool) → bit_of b b ≡ truth_bit b
    one_bit true = refl
    one_bit false = refl

pub same_on_planes : (b : Bit) (w u l : ℕ) → ((k : ℕ) → k < w → at u l k ≡ b) → planes w u l ≡ replicate w b
unfolding planes
same_on_planes b zero u l h = refl
same_on_planes b (suc w) u l h =
    let first : bit_of (is_odd u) (is_odd l) ≡ b = sym (at_lowest u l) ∙ h 0 (omega arith) in
    let rest = same_on_planes b w (u / 2) (l / 2) (λ k lt. sym (at-suc u l k) ∙ h (suc k) (omega arith)) in
    cc

pub all_x_on_planes : (w : ℕ) → w ≤ 128 → planes w 340282366920938463463374607431768211455 0 ≡ all_x w
all_x_on_planes w h =
    same_on_planes Unknown w _ 0 (λ k lt. ap (λ n. bit_of (eqb n 1) (has 0 k)) (bit_at_ones 128 k (omega arith)) ∙ ap (λ n. bit_of true (eqb n 1)) (bit_at-zero k))

pub truth_on_planes : (n : ℕ) → planes 1 n n ≡ truth_bit (is_odd n) ∷ []
unfolding planes
truth_on_planes n = one_bit (is_odd n)
  where
    one_bit : (b : Bool) → bit_of b b ∷ [] ≡ truth_bit b ∷ []
    one_bit true = refl
    one_bit false = refl

-- a vector is known where its planes agree
known-bit : (a b : Bool) → is_known_bit (bit_of a b) ≡ beq a b
known-bit true true = refl
known-bit true false = refl
known-bit false true = refl
known-bit false false = refl

halves_differ : (u l : ℕ) (a b : Bool) → (u ≡ l → ⊥) → a ≡ is_odd u → b ≡ is_odd l → (beq a b && eqb (u / 2) (l / 2)) ≡ false
halves_differ u l true true ne p q =
    let odd_u : u % 2 ≡ 1 = eqb-true (u % 2) 1 (sym p) in
    let odd_l : l % 2 ≡ 1 = eqb-true (l % 2) 1 (sym q) in
    ne_eqb (u / 2) (l / 2) (λ e. ne (omega arith))
halves_differ u l false false ne p q =
    let even_u = eqb-false (u % 2) 1 (sym p) in
    let even_l = eqb-false (l % 2) 1 (sym q) in
    ne_eqb (u / 2) (l / 2) (λ e. ne (omega arith))
halves_differ u l true false ne p q = refl
halves_differ u l false true ne p q = refl

halves_agree : (u l : ℕ) → (beq (is_odd u) (is_odd l) && eqb (u / 2) (l / 2)) ≡ eqb u l
halves_agree u l = elim (cases_eq u l) [ inl e ↦ rw e (joined (is_odd l) (l / 2)) ∙ sym (eq-eqb u l e) | inr ne ↦ halves_differ u l (is_odd u) (is_odd l) ne refl refl ∙ sym (ne_eqb u l ne) ]
  where
    joined : (b : Bool) (n : ℕ) → (beq b b && eqb n n) ≡ true
    joined true n = eq-eqb n n refl
    joined false n = eq-eqb n n refl

pub is_known_on_planes : (w u l : ℕ) → u < 2 ^ w → l < 2 ^ w → is_known (planes w u l) ≡ eqb u l
unfolding planes is_known
is_known_on_planes zero u l p q = sym (eq-eqb u l (omega arith))
is_known_on_planes (suc w) u l p q =
    let first = known-bit (is_odd u) (is_odd l) in
    let rest = is_known_on_planes w (u / 2) (l / 2) (half_below w u p) (half_below w l q) in
    let joined = halves_agree u l in
    cc

-- the number of a known vector is each of its planes
pub number_same : (w n : ℕ) → n < 2 ^ w → number (planes w n n) ≡ n
unfolding planes number
number_same zero n h = omega arith
number_same (suc w) n h =
    let first : weight (bit_of (is_odd n) (is_odd n)) ≡ n % 2 = weighed (n % 2) (omega arith) in
    let rest = number_same w (n / 2) (half_below w n h) in
    omega (arith, first, rest)
  where
    weighed : (x : ℕ) → x < 2 → weight (bit_of (eqb x 1) (eqb x 1)) ≡ x
    weighed zero lt = refl
    weighed (suc zero) lt = refl
    weighed (suc (suc x)) lt = absurd (omega arith)

pub number_on_planes : (w u l : ℕ) → u < 2 ^ w → l < 2 ^ w → is_known (planes w u l) ≡ true → number (planes w u l) ≡ l
number_on_planes w u l p q k =
    let same : u ≡ l = eqb-true u l (sym (is_known_on_planes w u l p q) ∙ k) in
    rw same (number_same w l q)

-- a bit of two planes
pub get_or-planes : (w u l k : ℕ) (d : Bit) → k < w → get_or (planes w u l) k d ≡ at u l k
unfolding planes
get_or-planes zero u l k d h = absurd (omega arith)
get_or-planes (suc w) u l zero d h = sym (at_lowest u l)
get_or-planes (suc w) u l (suc k) d h = get_or-planes w (u / 2) (l / 2) k d (omega arith) ∙ sym (at-suc u l k)

pub bit_on_planes : (w u l k : ℕ) → k < length (planes w u l) → slice_get (planes w u l) k ≡ Some (bit_of (eqb (bit_and (u / 2 ^ k) 1) 1) (eqb (bit_and (l / 2 ^ k) 1) 1))
bit_on_planes w u l k h =
    slice_get-get_or (planes w u l) k Zero h ∙ ap Some (get_or-planes w u l k Zero (subst (λ n. k < n) (length-planes w u l) h) ∙ simp (← shr_and_one) refl)

-- ---- numbers

pub vector_low : (w q r : ℕ) → vector w (q * 2 ^ w + r) ≡ vector w r
vector_low w q r = sym (vector_on_planes w _) ∙ planes_low w q r q r ∙ vector_on_planes w r

pub vector-mod : (w n : ℕ) → vector w (n % 2 ^ w) ≡ vector w n
vector-mod w n = sym (vector_on_planes w _) ∙ planes-mod w n n ∙ vector_on_planes w n

pub cut_twice : (w n : ℕ) → w ≤ 128 → n % 2 ^ 128 % 2 ^ w ≡ n % 2 ^ w
cut_twice w n h = let whole : (128 - w) + w ≡ 128 = omega arith in subst (λ v. n % 2 ^ v % 2 ^ w ≡ n % 2 ^ w) whole (mod-mod-pow n (128 - w) w)

-- a number cut to 128 bits shows the same vector
pub vector_cut : (w n : ℕ) → w ≤ 128 → vector w (n % 340282366920938463463374607431768211456) ≡ vector w n
vector_cut w n h = sym (vector-mod w _) ∙ ap (vector w) (cut_twice w n h) ∙ vector-mod w n

-- a difference cut to 128 bits
pub vector_cut_sub : (w a b : ℕ) → w ≤ 128 → b < 2 ^ w → vector w ((a + (340282366920938463463374607431768211456 - b)) % 340282366920938463463374607431768211456) ≡ vector w (a + (2 ^ w - b))
vector_cut_sub w a b h lt =
    let over = 2 ^ (128 - w) - 1 in
    let whole : (128 - w) + w ≡ 128 = omega arith in
    let powers : 2 ^ 128 ≡ 2 ^ (128 - w) * 2 ^ w = ap (λ n. 2 ^ n) (sym whole) ∙ pow-add 2 (128 - w) w in
    let some = pow_pos (128 - w) in
    let parted : 2 ^ (128 - w) * 2 ^ w ≡ (2 ^ (128 - w) - 1) * 2 ^ w + 2 ^ w = one_off (2 ^ (128 - w)) (2 ^ (128 - w) - 1) (2 ^ w) (omega arith) in
    let summed : a + (2 ^ 128 - b) ≡ (2 ^ (128 - w) - 1) * 2 ^ w + (a + (2 ^ w - b)) = omega arith in
    vector_cut w _ h ∙ ap (vector w) summed ∙ vector_low w (2 ^ (128 - w) - 1) (a + (2 ^ w - b))
  where
    one_off : (p r q : ℕ) → p ≡ r + 1 → p * q ≡ r * q + q
    one_off p r q e = rw e (omega arith)

ones_has : (k : ℕ) → k < 128 → has 340282366920938463463374607431768211455 k ≡ true
ones_has k h = ap (λ n. eqb n 1) (bit_at_ones 128 k h)

zero_has : (k : ℕ) → has 0 k ≡ false
zero_has k = ap (λ n. eqb n 1) (bit_at-zero k)

-- copies of one bit
pub filled_zero : (w : ℕ) → planes w 0 0 ≡ replicate w Zero
filled_zero w = same_on_planes Zero w 0 0 (λ k lt. simp zero_has refl)

pub filled_one : (w : ℕ) → w ≤ 128 → planes w 340282366920938463463374607431768211455 340282366920938463463374607431768211455 ≡ replicate w One
filled_one w h = same_on_planes One w _ _ (λ k lt. let in_word : k < 128 = omega arith in simp ones_has refl)

pub filled_floating : (w : ℕ) → w ≤ 128 → planes w 0 340282366920938463463374607431768211455 ≡ replicate w Floating
filled_floating w h = same_on_planes Floating w _ _ (λ k lt. let in_word : k < 128 = omega arith in simp (ones_has, zero_has) refl)

pub ruleset filled_on_planes = (filled_zero, filled_one, filled_floating, all_x_on_planes)

-- a number taken from 0, cut to 128 bits
pub vector_cut_neg : (w b : ℕ) → w ≤ 128 → b < 2 ^ w → vector w ((340282366920938463463374607431768211456 - b) % 340282366920938463463374607431768211456) ≡ vector w (2 ^ w - b)
vector_cut_neg w b h lt =
    let left : 0 + (340282366920938463463374607431768211456 - b) ≡ 340282366920938463463374607431768211456 - b = omega arith in
    let right : 0 + (2 ^ w - b) ≡ 2 ^ w - b = omega arith in
    ap (λ n. vector w (n % 340282366920938463463374607431768211456)) (sym left) ∙ vector_cut_sub w 0 b h lt ∙ ap (vector w) right

pub length-vector : (w n : ℕ) → length (vector w n) ≡ w
unfolding vector
length-vector zero n = refl
length-vector (suc w) n = ap suc (length-vector w (n / 2))

truth_known : (b : Bool) → is_known_bit (truth_bit b) ≡ true
truth_known true = refl
truth_known false = refl

pub is_known-vector : (w n : ℕ) → is_known (vector w n) ≡ true
unfolding vector is_known
is_known-vector zero n = refl
is_known-vector (suc w) n = rw (truth_known (is_odd n)) (is_known-vector w (n / 2))

pub number-vector : (w n : ℕ) → number (vector w n) ≡ n % 2 ^ w
number-vector w n =
    ap number (sym (vector_on_planes w n) ∙ sym (planes-mod w n n)) ∙ number_same w (n % 2 ^ w) (mod_below n (2 ^ w) (pow_pos w))

-- ---- a vector is known by its width and its planes

next_odd : (x r : ℕ) → x < 2 → is_odd (x + 2 * r) ≡ eqb x 1
next_odd x r h = let e : (x + 2 * r) % 2 ≡ x = omega arith in ap (λ n. eqb n 1) e

half_of : (x r : ℕ) → x < 2 → (x + 2 * r) / 2 ≡ r
half_of x r h = omega arith

bit_back : (b : Bit) → (up_bit b < 2) × (low_bit b < 2) × (bit_of (eqb (up_bit b) 1) (eqb (low_bit b) 1) ≡ b)
bit_back Zero = (omega arith, omega arith, refl)
bit_back One = (omega arith, omega arith, refl)
bit_back Unknown = (omega arith, omega arith, refl)
bit_back Floating = (omega arith, omega arith, refl)

pub planes_of : (a : List Bit) → planes (length a) (up_plane a) (low_plane a) ≡ a
unfolding planes up_plane low_plane
planes_of [] = refl
planes_of (b ∷ more) =
    let back = bit_back b in
    let odd_up = next_odd (up_bit b) (up_plane more) back.0 in
    let odd_low = next_odd (low_bit b) (low_plane more) back.1 in
    let half_up = half_of (up_bit b) (up_plane more) back.0 in
    let half_low = half_of (low_bit b) (low_plane more) back.1 in
    let rest = planes_of more in
    rw (odd_up, odd_low, half_up, half_low, back.2, rest) refl

pub same_from_planes : (a b : List Bit) → length a ≡ length b → up_plane a ≡ up_plane b → low_plane a ≡ low_plane b → a ≡ b
same_from_planes a b w u l = sym (planes_of a) ∙ (let e : planes (length a) (up_plane a) (low_plane a) ≡ planes (length b) (up_plane b) (low_plane b) = cc in e) ∙ planes_of b

-- what `==` tells of two vectors
pub same_when_equal : (a b : List Bit) → (eqb (length a) (length b) && (eqb (up_plane a) (up_plane b) && eqb (low_plane a) (low_plane b))) ≡ true → a ≡ b
same_when_equal a b h =
    same_from_planes a b (eqb-true _ _ (left_of _ _ h)) (eqb-true _ _ (left_of _ _ (right_of _ _ h))) (eqb-true _ _ (right_of _ _ (right_of _ _ h)))

pub equal_when_same : (a b : List Bit) → a ≡ b → (eqb (length a) (length b) && (eqb (up_plane a) (up_plane b) && eqb (low_plane a) (low_plane b))) ≡ true
equal_when_same a b e = rw (e, eq-eqb (length b) (length b) refl, eq-eqb (up_plane b) (up_plane b) refl, eq-eqb (low_plane b) (low_plane b) refl) refl

up_bit-lt : (b : Bit) → up_bit b < 2
up_bit-lt b = (bit_back b).0

low_bit-lt : (b : Bit) → low_bit b < 2
low_bit-lt b = (bit_back b).1

-- a plane has no bit above its vector
pub up_plane-lt : (a : List Bit) → up_plane a < 2 ^ length a
unfolding up_plane
up_plane-lt [] = omega arith
up_plane-lt (b ∷ more) = let rest = up_plane-lt more in let head = up_bit-lt b in omega (arith, pow-suc 2 (length more))

pub low_plane-lt : (a : List Bit) → low_plane a < 2 ^ length a
unfolding low_plane
low_plane-lt [] = omega arith
low_plane-lt (b ∷ more) = let rest = low_plane-lt more in let head = low_bit-lt b in omega (arith, pow-suc 2 (length more))

pub number-lt : (a : List Bit) → number a < 2 ^ length a
unfolding number
number-lt [] = omega arith
number-lt (b ∷ more) = let rest = number-lt more in let head = weighs b in omega (arith, pow-suc 2 (length more))
  where
    weighs : (c : Bit) → weight c < 2
    weighs Zero = omega arith
    weighs One = omega arith
    weighs Unknown = omega arith
    weighs Floating = omega arith
