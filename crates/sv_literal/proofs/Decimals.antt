-- The number of decimal digits, one byte after the other.
use Rattle.std.proofs.Common.{◌≡◌, ℕ, ◌+◌, ◌*◌, ◌%◌, ◌<◌, Bool, true, false, cond, not, eqb, min, List, [], ◌∷◌, ◌++◌, length, get_or, take, refl, ap, ◌∙◌, arith}
use Rattle.std.specs.Char.{digit_value}
use Rattle.std.specs.Str.Parse.{digits_value}
use Rattle.std.proofs.lemmas.Int.Digits.{digits_value_push}
use Rattle.std.proofs.lemmas.List.Elements.{filter_more}
use Rattle.std.proofs.lemmas.List.{append-nil}
use Rattle.std.proofs.lemmas.Nat.{mul-mod_first}
use Rattle.std.proofs.Math.Nat.{mod-add-mod}
use Rattle.sv_literal.specs.Value.{digits_in, decimal}

-- the digits of one byte more
pub digits_more : (t : List ℕ) (i : ℕ) → i < length t → digits_in (take (i + 1) t) ≡ cond (eqb (get_or t i 0) 95) (digits_in (take i t)) (digits_in (take i t) ++ get_or t i 0 ∷ [])
digits_more t i h = filter_more (λ b. not (eqb b 95)) t i 0 h ∙ passed (eqb (get_or t i 0) 95) (get_or t i 0) (digits_in (take i t))
  where
    passed : (mark : Bool) (b : ℕ) (so_far : List ℕ) → so_far ++ cond (not mark) (b ∷ []) [] ≡ cond mark so_far (so_far ++ b ∷ [])
    passed true b so_far = append-nil so_far
    passed false b so_far = refl

pub decimal_none : decimal [] ≡ 0
unfolding decimal
decimal_none = refl

-- the number of one byte more
pub decimal_more : (t : List ℕ) (i : ℕ) → i < length t → decimal (take (i + 1) t) ≡ cond (eqb (get_or t i 0) 95) (decimal (take i t)) (decimal (take i t) * 10 + digit_value (get_or t i 0))
unfolding decimal
decimal_more t i h = ap (digits_value 10) (digits_more t i h) ∙ passed (eqb (get_or t i 0) 95) (get_or t i 0) (digits_in (take i t))
  where
    passed : (mark : Bool) (b : ℕ) (so_far : List ℕ) → digits_value 10 (cond mark so_far (so_far ++ b ∷ [])) ≡ cond mark (digits_value 10 so_far) (digits_value 10 so_far * 10 + digit_value b)
    passed true b so_far = refl
    passed false b so_far = digits_value_push 10 so_far b

-- a number that is held at 64 bits
pub capped_step : (n d : ℕ) → min (min (min n 18446744073709551615 * 10) 18446744073709551615 + d) 18446744073709551615 ≡ min (n * 10 + d) 18446744073709551615
capped_step n d = omega arith

-- a number modulo 2 ^ 128
pub wrapped_step : (n d m : ℕ) → (n % m * 10 % m + d) % m ≡ (n * 10 + d) % m
wrapped_step n d m = ap (λ x. (x + d) % m) (mul-mod_first n 10 m) ∙ mod-add-mod (n * 10) m d
