-- Products within 64 bits.
use Rattle.std.proofs.Common.{◌≡◌, ℕ, ◌+◌, ◌*◌, ◌%◌, ◌^◌, ap, ◌∙◌, arith}
use Rattle.std.proofs.lemmas.Nat.{mul-mod_first, mul-mod_second}

pub product_wraps : (n factor : ℕ) → n * ((n * 2 % 2 ^ 64 + 1) % 2 ^ 64) % 2 ^ 64 * factor % 2 ^ 64 ≡ n * (n * 2 + 1) * factor % 2 ^ 64
product_wraps n factor =
    let odd : (n * 2 % 2 ^ 64 + 1) % 2 ^ 64 ≡ (n * 2 + 1) % 2 ^ 64 = omega arith in
    ap (λ (r : ℕ). r * factor % 2 ^ 64) (ap (λ (r : ℕ). n * r % 2 ^ 64) odd ∙ mul-mod_second n (n * 2 + 1) (2 ^ 64)) ∙ mul-mod_first (n * (n * 2 + 1)) factor (2 ^ 64)
