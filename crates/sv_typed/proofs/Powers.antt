-- Powers modulo a number, by squares.
use Rattle.std.proofs.Common.{◌≡◌, ℕ, suc, ◌+◌, ◌*◌, ◌/◌, ◌%◌, ◌^◌, sym, ap, ◌∙◌, arith}
use Rattle.std.proofs.Math.Nat.{pow-suc, mul_assoc, mul_comm}
use Rattle.std.proofs.lemmas.Nat.{mul-mod_first, mul-mod_second, pow-mod, mul-pow, pow-add}

-- a square's powers stand for powers of twice as much
halved : (s r : ℕ) → r % 2 ≡ 0 → s ^ r ≡ (s * s) ^ (r / 2)
halved s r h =
    let q : ℕ = r / 2 in
    let e : r ≡ q + q = omega arith in
    ap (λ (x : ℕ). s ^ x) e ∙ pow-add s q q ∙ sym (mul-pow s s q)

odd_halved : (s r : ℕ) → r % 2 ≡ 1 → s ^ r ≡ (s * s) ^ (r / 2) * s
odd_halved s r h =
    let q : ℕ = r / 2 in
    let e : r ≡ suc (q + q) = omega arith in
    ap (λ (x : ℕ). s ^ x) e ∙ pow-suc s (q + q) ∙ ap (λ (x : ℕ). x * s) (pow-add s q q ∙ sym (mul-pow s s q))

-- remainders on the way change no remainder
cut_power : (a t q m : ℕ) → (a * (t % m) ^ q) % m ≡ (a * t ^ q) % m
cut_power a t q m = sym (mul-mod_second a ((t % m) ^ q) m) ∙ ap (λ (x : ℕ). (a * x) % m) (pow-mod t q m) ∙ mul-mod_second a (t ^ q) m

pub even_step : (a s r b m : ℕ) → r % 2 ≡ 0 → (a * s ^ r) % m ≡ b → (a * ((s * s) % m) ^ (r / 2)) % m ≡ b
even_step a s r b m h e = cut_power a (s * s) (r / 2) m ∙ ap (λ (x : ℕ). (a * x) % m) (sym (halved s r h)) ∙ e

pub odd_step : (a s r b m : ℕ) → r % 2 ≡ 1 → (a * s ^ r) % m ≡ b → ((a * s) % m * ((s * s) % m) ^ (r / 2)) % m ≡ b
odd_step a s r b m h e =
    let t : ℕ = (s * s) ^ (r / 2) in
    let turn : (a * s) * t ≡ a * (t * s) = mul_assoc a s t ∙ ap (λ (x : ℕ). a * x) (mul_comm s t) in
    mul-mod_first (a * s) (((s * s) % m) ^ (r / 2)) m ∙ cut_power (a * s) (s * s) (r / 2) m
    ∙ ap (λ (x : ℕ). x % m) turn ∙ ap (λ (x : ℕ). (a * x) % m) (sym (odd_halved s r h)) ∙ e
