-- Whole numbers that so many bits hold.
use Rattle.std.proofs.Common.{◌≡◌, ℕ, ◌-◌, ◌/◌, ◌^◌, ◌<◌, ◌≤◌, Bool, true, false, ◌&&◌, nat_lt, nat_eq, refl, sym, ap, ◌∙◌, arith, ℤ, pos, negsuc, int_lt, int_le}
use Rattle.std.proofs.lemmas.Bool.{false≢true}
use Rattle.std.proofs.lemmas.Bool.Decides.{nat_tests}
use Rattle.std.proofs.lemmas.Nat.{pow_pos}
use Rattle.std.proofs.Math.Nat.{pow-le-pow_right, le-div_iff_mul-le, mod-eq_of_lt}
use Rattle.fourvec.specs.Bits.{vector, signed_vector}
use Rattle.sv_meaning.specs.Forms.{can_hold}
use Rattle.sv_types.specs.declared.whole.Whole.{Whole}
use Rattle.sv_types.specs.Types.{whole_is}

eq_true : (a b : ℕ) → nat_eq a b ≡ true → a ≡ b
eq_true a b h = grind (arith, nat_tests)

eq_false : (a : ℕ) → nat_eq a 0 ≡ false → 1 ≤ a
eq_false a h = grind (arith, nat_tests)

lt_true : (a b : ℕ) → nat_lt a b ≡ true → a < b
lt_true a b h = grind (arith, nat_tests)

lt_false : (a b : ℕ) → nat_lt a b ≡ false → b ≤ a
lt_false a b h = grind (arith, nat_tests)

-- a number has no bits from a place on where it is below the power
pub shifted_out : (n b : ℕ) → nat_eq (n / 2 ^ b) 0 ≡ nat_lt n (2 ^ b)
shifted_out n b = go (nat_eq (n / 2 ^ b) 0) (nat_lt n (2 ^ b)) refl refl
  where
    go : (c d : Bool) → nat_eq (n / 2 ^ b) 0 ≡ c → nat_lt n (2 ^ b) ≡ d → nat_eq (n / 2 ^ b) 0 ≡ nat_lt n (2 ^ b)
    go true true e f = e ∙ sym f
    go false false e f = e ∙ sym f
    go true false e f =
        let p = pow_pos b in
        let l = lt_false n (2 ^ b) f in
        let k = (le-div_iff_mul-le {k = 2 ^ b} {x = 1} {y = n} p).1 (omega arith) in
        let z = eq_true (n / 2 ^ b) 0 e in
        absurd (omega arith)
    go false true e f =
        let p = pow_pos b in
        let l = lt_true n (2 ^ b) f in
        let k = (le-div_iff_mul-le {k = 2 ^ b} {x = 1} {y = n} p).0 (eq_false (n / 2 ^ b) e) in
        absurd (omega arith)

most_power : (k : ℕ) → k ≤ 128 → 2 ^ k ≤ 2 ^ 128
most_power k h = pow-le-pow_right {n = 2} (omega arith) h

not_below : (a b : ℕ) → b ≤ a → int_lt (pos a) (pos b) ≡ false
not_below a b h = grind (arith, nat_tests)

and_false : (a b : Bool) → b ≡ false → (a && b) ≡ false
and_false true b h = h
and_false false b h = refl

and_left : (a b : Bool) → (a && b) ≡ true → a ≡ true
and_left true b h = refl
and_left false b h = h

pub past : (w : ℕ) (s : Bool) → w ≤ 128 → can_hold w s (pos (2 ^ 128)) ≡ false
past w true h = and_false (int_le (negsuc (2 ^ (w - 1) - 1)) (pos (2 ^ 128))) (int_lt (pos (2 ^ 128)) (pos (2 ^ (w - 1)))) (not_below (2 ^ 128) (2 ^ (w - 1)) (most_power (w - 1) (omega arith)))
past w false h = and_false (int_le (pos 0) (pos (2 ^ 128))) (int_lt (pos (2 ^ 128)) (pos (2 ^ w))) (not_below (2 ^ 128) (2 ^ w) (most_power w h))

pub never_past : (w : ℕ) (s : Bool) (n : Whole) (z : ℤ) → w ≤ 128 → whole_is n ≡ z → z ≡ pos (2 ^ 128) → can_hold w s (whole_is n) ≡ true → ⊥
never_past w s n z most e i h = false≢true (sym (ap (can_hold w s) (e ∙ i) ∙ past w s most) ∙ h)

below_least : (a n : ℕ) → int_le (negsuc a) (negsuc n) ≡ true → n ≤ a
below_least a n h = grind (arith, nat_tests)

half_power : (w : ℕ) → 2 ^ (w - 1) ≤ 2 ^ w
half_power w = pow-le-pow_right {n = 2} (omega arith) (omega arith)

pub below_held : (w : ℕ) (s : Bool) (n : ℕ) → can_hold w s (negsuc n) ≡ true → n < 2 ^ w
below_held w true n h =
    let k = below_least (2 ^ (w - 1) - 1) n (and_left _ _ h) in
    let p = pow_pos (w - 1) in
    let q = half_power w in
    omega arith
below_held w false n h = absurd (false≢true h)

pub below_vector : (w n : ℕ) → n < 2 ^ w → vector w (2 ^ w - 1 - n) ≡ signed_vector w (negsuc n)
below_vector w n h = ap (λ (k : ℕ). vector w (2 ^ w - 1 - k)) (sym (mod-eq_of_lt h))
