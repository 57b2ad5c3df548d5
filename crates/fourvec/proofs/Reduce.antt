-- The reductions.
use Rattle.std.proofs.Common.{◌≡◌, ℕ, zero, suc, ◌+◌, ◌*◌, ◌/◌, ◌%◌, ◌^◌, ◌<◌, Bool, true, false, not, ◌&&◌, ◌||◌, cond, eqb, List, [], ◌∷◌, length, refl, sym, ap, ◌∙◌, inl, inr, arith}
use Rattle.std.specs.Prelude.{count_ones}
use Rattle.std.specs.Int.Count.{ones}
use Rattle.std.proofs.lemmas.Nat.{and_shr, or_shr, ones_cat}
use Rattle.std.proofs.lemmas.Nat.Bits.{bit_at_lowest}
use Rattle.std.proofs.lemmas.Bool.{cases_eq, eqb-true, eq-eqb, ne_eqb, eqb-false}
use Rattle.fourvec.proofs.Tables.{same_on_four, same_on_bits, same_on_mixed, left_of, right_of}
use Rattle.std.specs.Int.Bits.{bit_and, bit_or}
use Rattle.fourvec.specs.declared.Bit.{Bit}
use Rattle.fourvec.specs.declared.Bit.TheVariants.{Zero, One, Unknown, Floating}
use Rattle.fourvec.specs.Bits.{bit_of, is_odd, planes, each, each_pair, over, clash_bit, is_known_bit, weight, not_bit, and_bit, or_bit, xor_bit, is_known, truth_bit, number, some_clash, eq_of, is_one, is_zero, some_one, all_zero, truth_of, red_or_of}
use Rattle.fourvec.specs.PlanesBack.{half_below}
use Rattle.fourvec.proofs.Planes.{has, has-and, has-or}

-- a number is 0 where its lowest bit and its half are
pub zero_test : (n : ℕ) → eqb n 0 ≡ (not (is_odd n) && eqb (n / 2) 0)
zero_test n = by_lowest (is_odd n) refl
  where
    by_lowest : (b : Bool) → b ≡ is_odd n → eqb n 0 ≡ (not b && eqb (n / 2) 0)
    by_lowest true e =
        let odd : n % 2 ≡ 1 = eqb-true (n % 2) 1 (sym e) in
        ne_eqb n 0 (λ z. absurd (omega arith))
    by_lowest false e =
        let even = eqb-false (n % 2) 1 (sym e) in
        elim (cases_eq n 0) [ inl z ↦ eq-eqb n 0 z ∙ sym (eq-eqb (n / 2) 0 (omega arith)) | inr nz ↦ ne_eqb n 0 nz ∙ sym (ne_eqb (n / 2) 0 (λ h. nz (omega arith))) ]

odd-and : (u l : ℕ) → is_odd (bit_and u l) ≡ (is_odd u && is_odd l)
odd-and u l =
    ap (λ n. eqb n 1) (sym (bit_at_lowest (bit_and u l))) ∙ has-and u l 0 ∙ ap (λ n. eqb n 1 && has l 0) (bit_at_lowest u) ∙ ap (λ n. is_odd u && eqb n 1) (bit_at_lowest l)

odd-or : (u l : ℕ) → is_odd (bit_or u l) ≡ (is_odd u || is_odd l)
odd-or u l =
    ap (λ n. eqb n 1) (sym (bit_at_lowest (bit_or u l))) ∙ has-or u l 0 ∙ ap (λ n. eqb n 1 || has l 0) (bit_at_lowest u) ∙ ap (λ n. is_odd u || eqb n 1) (bit_at_lowest l)

and_zero : (u l : ℕ) → eqb (bit_and u l) 0 ≡ (not (is_odd u && is_odd l) && eqb (bit_and (u / 2) (l / 2)) 0)
and_zero u l =
    zero_test (bit_and u l) ∙ ap (λ b. not b && eqb (bit_and u l / 2) 0) (odd-and u l) ∙ ap (λ n. not (is_odd u && is_odd l) && eqb n 0) (and_shr u l 1)

or_zero : (u l : ℕ) → eqb (bit_or u l) 0 ≡ (not (is_odd u || is_odd l) && eqb (bit_or (u / 2) (l / 2)) 0)
or_zero u l =
    zero_test (bit_or u l) ∙ ap (λ b. not b && eqb (bit_or u l / 2) 0) (odd-or u l) ∙ ap (λ n. not (is_odd u || is_odd l) && eqb n 0) (or_shr u l 1)

pub red_or_on_planes : (w u l : ℕ) → u < 2 ^ w → l < 2 ^ w → over or_bit Zero (planes w u l) ≡ cond (eqb (bit_and u l) 0) (cond (eqb (bit_or u l) 0) Zero Unknown) One
unfolding planes over
red_or_on_planes zero u l p q =
    let zu : u ≡ 0 = omega arith in
    let zl : l ≡ 0 = omega arith in
    rw (zu, zl) refl
red_or_on_planes (suc w) u l p q =
    let rest = red_or_on_planes w (u / 2) (l / 2) (half_below w u p) (half_below w l q) in
    ap (or_bit (bit_of (is_odd u) (is_odd l))) rest ∙ rw (and_zero u l, or_zero u l) (same_on_four (λ a b p q. or_bit (bit_of a b) (cond p (cond q Zero Unknown) One)) (λ a b p q. cond (not (a && b) && p) (cond (not (a || b) && q) Zero Unknown) One) refl (is_odd u) (is_odd l) (eqb (bit_and (u / 2) (l / 2)) 0) (eqb (bit_or (u / 2) (l / 2)) 0))

abbrev truth_bit_of : Bool → Bool → Bit
truth_bit_of p q = cond p One (cond q Zero Unknown)

or_over : (a : List Bit) → truth_bit_of (some_one a) (all_zero a) ≡ over or_bit Zero a
unfolding over some_one all_zero
or_over [] = refl
or_over (a ∷ more) =
    same_on_mixed (λ x y c p q. truth_bit_of (is_one x || p) (is_zero x && q)) (λ x y c p q. or_bit x (truth_bit_of p q)) refl a a true (some_one more) (all_zero more)
    ∙ ap (or_bit a) (or_over more)

-- the truth of a vector is `or` over its bits
pub truth_is_red_or : (a : List Bit) → truth_of a ≡ red_or_of a
unfolding truth_of
truth_is_red_or a = ap (λ x. x ∷ []) (or_over a)

and_by_not : (a : List Bit) → over and_bit One a ≡ not_bit (over or_bit Zero (each not_bit a))
unfolding over each
and_by_not [] = refl
and_by_not (a ∷ more) =
    ap (and_bit a) (and_by_not more) ∙ same_on_bits (λ x t. and_bit x (not_bit t)) (λ x t. not_bit (or_bit (not_bit x) t)) refl a (over or_bit Zero (each not_bit more))

pub red_and_by_not : (a : List Bit) → over and_bit One a ∷ [] ≡ each not_bit (over or_bit Zero (each not_bit a) ∷ [])
unfolding each
red_and_by_not a = ap (λ x. x ∷ []) (and_by_not a)

ones_double : (b m : ℕ) → b < 2 → count_ones (b + 2 * m) ≡ count_ones m + count_ones b
ones_double b m h = let e : b + 2 * m ≡ m * 2 ^ 1 + b = omega arith in ap count_ones e ∙ ones_cat 1 m b h

zero_xor : (b : Bool) → xor_bit Zero (truth_bit b) ≡ truth_bit b
zero_xor true = refl
zero_xor false = refl

one_xor : (b : Bool) → xor_bit One (truth_bit b) ≡ truth_bit (not b)
one_xor true = refl
one_xor false = refl

odd_next : (c : ℕ) → is_odd (c + 1) ≡ not (is_odd c)
odd_next c = by_parity (is_odd c) refl
  where
    by_parity : (b : Bool) → b ≡ is_odd c → is_odd (c + 1) ≡ not b
    by_parity true e = let odd : c % 2 ≡ 1 = eqb-true (c % 2) 1 (sym e) in ne_eqb ((c + 1) % 2) 1 (λ z. absurd (omega arith))
    by_parity false e = let even = eqb-false (c % 2) 1 (sym e) in eq-eqb ((c + 1) % 2) 1 (omega arith)

known_parity : (x : Bit) (c : ℕ) → is_known_bit x ≡ true → xor_bit x (truth_bit (is_odd c)) ≡ truth_bit (is_odd (c + weight x))
known_parity Zero c h = let same : c ≡ c + 0 = omega arith in zero_xor (is_odd c) ∙ ap (λ n. truth_bit (is_odd n)) same
known_parity One c h = one_xor (is_odd c) ∙ ap truth_bit (sym (odd_next c))
known_parity Unknown c h = cc
known_parity Floating c h = cc

pub red_xor_known : (a : List Bit) → is_known a ≡ true → over xor_bit Zero a ≡ truth_bit (is_odd (count_ones (number a)))
unfolding over is_known number ones
red_xor_known [] h = refl
red_xor_known (a ∷ more) h =
    ap (xor_bit a) (red_xor_known more (right_of _ _ h)) ∙ known_parity a (count_ones (number more)) (left_of _ _ h) ∙ ap (λ n. truth_bit (is_odd n)) (counted a)
  where
    counted : (x : Bit) → count_ones (number more) + weight x ≡ count_ones (weight x + 2 * number more)
    counted Zero = sym (ones_double 0 (number more) (omega arith))
    counted One = sym (ones_double 1 (number more) (omega arith))
    counted Unknown = sym (ones_double 0 (number more) (omega arith))
    counted Floating = sym (ones_double 0 (number more) (omega arith))

pub red_xor_unknown : (a : List Bit) → is_known a ≡ false → over xor_bit Zero a ≡ Unknown
unfolding over is_known
red_xor_unknown [] h = cc
red_xor_unknown (Unknown ∷ more) h = refl
red_xor_unknown (Floating ∷ more) h = refl
red_xor_unknown (Zero ∷ more) h = ap (xor_bit Zero) (red_xor_unknown more h)
red_xor_unknown (One ∷ more) h = ap (xor_bit One) (red_xor_unknown more h)

abbrev eq_bit : Bool → Bool → Bool → Bit
eq_bit c p q = cond c Zero (cond (p && q) One Unknown)

eq_over : (a b : List Bit) → length a ≡ length b → eq_bit (some_clash a b) (is_known a) (is_known b) ≡ not_bit (over or_bit Zero (each_pair xor_bit a b))
unfolding over each_pair some_clash is_known
eq_over [] [] h = refl
eq_over [] (b ∷ more) h = cc
eq_over (a ∷ more) [] h = cc
eq_over (a ∷ more) (b ∷ others) h =
    let rest = eq_over more others cc in
    let rest_bit = over or_bit Zero (each_pair xor_bit more others) in
    same_on_mixed (λ x y c p q. eq_bit (clash_bit x y || c) (is_known_bit x && p) (is_known_bit y && q)) (λ x y c p q. and_bit (not_bit (xor_bit x y)) (eq_bit c p q)) refl a b (some_clash more others) (is_known more) (is_known others)
    ∙ ap (and_bit (not_bit (xor_bit a b))) rest
    ∙ same_on_bits (λ x t. and_bit (not_bit x) (not_bit t)) (λ x t. not_bit (or_bit x t)) refl (xor_bit a b) (over or_bit Zero (each_pair xor_bit more others))

pub eq_by_xor : (a b : List Bit) → length a ≡ length b → eq_of a b ≡ each not_bit (over or_bit Zero (each_pair xor_bit a b) ∷ [])
unfolding each eq_of
eq_by_xor a b h = ap (λ x. x ∷ []) (eq_over a b h)
