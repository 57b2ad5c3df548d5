-- Arithmetic of one more column, and of the end of a loop, over plain numbers.
use Rattle.std.proofs.Common.{◌≡◌, ℕ, zero, suc, ◌+◌, ◌-◌, ◌*◌, ◌/◌, ◌%◌, ◌<◌, ◌≤◌, ⊎_elim, Bool, true, false, not, ◌&&◌, ◌||◌, cond, eqb, ltb, refl, sym, ap, ◌∙◌, arith}
use Rattle.std.proofs.Math.Nat.{add-mul-mod_self_left, mod-eq_of_lt, mod-add-mod, add-mod-mod}
use Rattle.std.proofs.lemmas.Nat.{div-mul-add, mod-mul-add, mul-le}
use Rattle.std.specs.Prelude.{pos, negsuc, int_lt}
use Rattle.std.proofs.lemmas.Bool.{lt-ltb, le-ltb, eq-eqb, ne_eqb, cases_lt, cases_eq}
use Rattle.aig_words.specs.Words.{weight, same_column, less_column}
use Rattle.aig_words.proofs.Tables.{and_true, and_false, or_true, or_false}

pub ltb_same : (a b c d : ℕ) → (a < b → c < d) → (c < d → a < b) → ltb a b ≡ ltb c d
ltb_same a b c d f g = ⊎_elim
    (λ h. lt-ltb a b h ∙ sym (lt-ltb c d (f h)))
    (λ h. le-ltb a b h ∙ sym (le-ltb c d (⊎_elim (λ k. absurd (let m : a < b = g k in omega arith)) (λ k. k) (cases_lt c d))))
    (cases_lt a b)

pub eqb_same : (a b c d : ℕ) → (a ≡ b → c ≡ d) → (c ≡ d → a ≡ b) → eqb a b ≡ eqb c d
eqb_same a b c d f g = ⊎_elim
    (λ h. eq-eqb a b h ∙ sym (eq-eqb c d (f h)))
    (λ h. ne_eqb a b h ∙ sym (ne_eqb c d (λ k. h (g k))))
    (cases_eq a b)

pub less_step : (p m n : ℕ) (x y : Bool) → m < p → n < p → ltb (m + p * weight x) (n + p * weight y) ≡ less_column x y (ltb m n)
less_step p m n true true lm ln = ltb_same (m + p * 1) (n + p * 1) m n (λ h. omega arith) (λ h. omega arith) ∙ sym (and_true (ltb m n))
less_step p m n true false lm ln = le-ltb (m + p * 1) (n + p * 0) (omega arith) ∙ sym (and_false (ltb m n))
less_step p m n false true lm ln = lt-ltb (m + p * 0) (n + p * 1) (omega arith)
less_step p m n false false lm ln = ltb_same (m + p * 0) (n + p * 0) m n (λ h. omega arith) (λ h. omega arith) ∙ sym (and_true (ltb m n))

pub same_step : (p m n : ℕ) (x y : Bool) → m < p → n < p → eqb (m + p * weight x) (n + p * weight y) ≡ same_column x y (eqb m n)
same_step p m n true true lm ln = eqb_same (m + p * 1) (n + p * 1) m n (λ h. omega arith) (λ h. omega arith) ∙ sym (and_true (eqb m n))
same_step p m n true false lm ln = ne_eqb (m + p * 1) (n + p * 0) (λ h. omega arith) ∙ sym (and_false (eqb m n))
same_step p m n false true lm ln = ne_eqb (m + p * 0) (n + p * 1) (λ h. omega arith) ∙ sym (and_false (eqb m n))
same_step p m n false false lm ln = eqb_same (m + p * 0) (n + p * 0) m n (λ h. omega arith) (λ h. omega arith) ∙ sym (and_true (eqb m n))

pub any_step : (m : ℕ) (x : Bool) → ltb 0 (weight x + 2 * m) ≡ (ltb 0 m || x)
any_step m true = lt-ltb 0 (1 + 2 * m) (omega arith) ∙ sym (or_true (ltb 0 m))
any_step m false = ltb_same 0 (0 + 2 * m) 0 m (λ h. omega arith) (λ h. omega arith) ∙ sym (or_false (ltb 0 m))

pub pick_step : (c : Bool) (p w m n : ℕ) (x y s : Bool) → w ≡ cond c m n → s ≡ cond c x y → w + p * weight s ≡ cond c (m + p * weight x) (n + p * weight y)
pick_step true p w m n x y s e f = cc
pick_step false p w m n x y s e f = cc

-- a number below m is what is left of a sum by m
pub sum_mod : (s c m t : ℕ) → s < m → s + m * c ≡ t → s ≡ t % m
sum_mod s c m t lt e = sym (ap (λ n. n % m) (sym e) ∙ add-mul-mod_self_left s m c ∙ mod-eq_of_lt lt)

pub sub_mod : (s c m na nb : ℕ) → s < m → nb < m → s + m * c + nb ≡ na + m → s ≡ (na + (m - nb)) % m
sub_mod s c m na nb lt lb e = sum_mod s c m (na + (m - nb)) lt (omega arith)

pub mul_step : (m total total' row a n p : ℕ) (x : Bool) → total' ≡ (total + row) % m → total ≡ (a * n) % m → row ≡ cond x ((a * p) % m) 0 → total' ≡ (a * (n + p * weight x)) % m
mul_step m total total' row a n p true e f g =
    let h : total' ≡ ((a * n) % m + (a * p) % m) % m = cc in
    let k : a * n + a * p ≡ a * (n + p * 1) = omega arith in
    h ∙ mod-add-mod (a * n) m ((a * p) % m) ∙ add-mod-mod (a * n) (a * p) m ∙ ap (λ t. t % m) k
mul_step m total total' row a n p false e f g =
    let h : total' ≡ ((a * n) % m + 0) % m = cc in
    let k : a * n + 0 ≡ a * (n + p * 0) = omega arith in
    h ∙ mod-add-mod (a * n) m 0 ∙ ap (λ t. t % m) k

-- Whether the divisor goes in. The number t is compared with the low part bl of the divisor, whose high part is bh.
pub turn_by : (c fits : Bool) (nb bl bh d t m left : ℕ) → t < 2 * nb → t < m → d < m → nb ≡ bl + m * bh → d + m * weight c + bl ≡ t + m →
    fits ≡ (c && not (ltb 0 bh)) → left ≡ cond fits d t → (t ≡ weight fits * nb + left) × (left < nb)
turn_by true fits nb bl zero d t m left h1 h2 h3 h4 h5 f g =
    let is : fits ≡ true = f ∙ ap (λ (b : Bool). true && not b) (le-ltb 0 0 (omega arith)) in
    let w : weight fits * nb ≡ 1 * nb = ap (λ (b : Bool). weight b * nb) is in
    let l : left ≡ d = g ∙ ap (λ (b : Bool). cond b d t) is in
    (omega arith, omega arith)
turn_by true fits nb bl (suc bh) d t m left h1 h2 h3 h4 h5 f g =
    let is : fits ≡ false = f ∙ ap (λ (b : Bool). true && not b) (lt-ltb 0 (suc bh) (omega arith)) in
    let w : weight fits * nb ≡ 0 * nb = ap (λ (b : Bool). weight b * nb) is in
    let l : left ≡ t = g ∙ ap (λ (b : Bool). cond b d t) is in
    (omega arith, omega arith)
turn_by false fits nb bl bh d t m left h1 h2 h3 h4 h5 f g =
    let w : weight fits * nb ≡ 0 * nb = ap (λ (b : Bool). weight b * nb) f in
    let l : left ≡ t = g ∙ ap (λ (b : Bool). cond b d t) f in
    (omega arith, omega arith)

pub divide_step : (n' n q r nb x r' : ℕ) (c : Bool) → n' ≡ x + 2 * n → n ≡ q * nb + r → x + 2 * r ≡ weight c * nb + r' → n' ≡ (weight c + 2 * q) * nb + r'
divide_step n' n q r nb x r' c e f g = omega arith

pub quotient_is : (a q b r : ℕ) → a ≡ q * b + r → r < b → q ≡ a / b
quotient_is a q b r e lt = sym (ap (λ n. n / b) e ∙ div-mul-add q b r lt)

pub rest_is : (a q b r : ℕ) → a ≡ q * b + r → r < b → r ≡ a % b
rest_is a q b r e lt = sym (ap (λ n. n % b) e ∙ mod-mul-add q b r lt)

-- as many turns of m * l nodes as there are bits
pub turns_fit : (m l i : ℕ) → i < l → m * l * i + m * l ≤ m * l * l
turns_fit m l i lt = let le : i + 1 ≤ l = omega arith in omega (arith, mul-le (m * l) (i + 1) (m * l) l (omega arith) le)

pub stages_fit : (l j d : ℕ) → 0 < l → j ≤ l → d ≤ l → 3 * l * j + (d + 3 * l) ≤ 7 * l * l
stages_fit l j d lp le ld = omega (arith, mul-le l j l l (omega arith) le, mul-le l 1 l l (omega arith) lp)

pub sign_step : (p m : ℕ) (t : Bool) → m < p → t ≡ not (ltb (m + p * weight t) p)
sign_step p m true lt = sym (ap (λ t. not t) (le-ltb (m + p * 1) p (omega arith)))
sign_step p m false lt = sym (ap (λ t. not t) (lt-ltb (m + p * 0) p (omega arith)))

-- a number with its sign, by the top bit x and the number m below it
pub signed_step : (p m : ℕ) (x : Bool) → m < p → cond (ltb (m + p * weight x) p) (pos (m + p * weight x)) (negsuc (p * 2 - 1 - (m + p * weight x))) ≡ cond x (negsuc (p - 1 - m)) (pos m)
signed_step p m true lt =
    let e : p * 2 - 1 - (m + p * 1) ≡ p - 1 - m = omega arith in
    ap (λ (t : Bool). cond t (pos (m + p * 1)) (negsuc (p * 2 - 1 - (m + p * 1)))) (le-ltb (m + p * 1) p (omega arith)) ∙ ap (λ n. negsuc n) e
signed_step p m false lt =
    let e : m + p * 0 ≡ m = omega arith in
    ap (λ (t : Bool). cond t (pos (m + p * 0)) (negsuc (p * 2 - 1 - (m + p * 0)))) (lt-ltb (m + p * 0) p (omega arith)) ∙ ap (λ n. pos n) e

-- the order of two's complement numbers, by their top bits and the numbers below those
pub signed_order : (p m n : ℕ) (x y : Bool) → m < p → n < p → less_column y x (ltb m n) ≡ int_lt (cond x (negsuc (p - 1 - m)) (pos m)) (cond y (negsuc (p - 1 - n)) (pos n))
signed_order p m n true true lm ln = and_true (ltb m n) ∙ ltb_same m n (p - 1 - n) (p - 1 - m) (λ h. omega arith) (λ h. omega arith)
signed_order p m n true false lm ln = refl
signed_order p m n false true lm ln = and_false (ltb m n)
signed_order p m n false false lm ln = and_true (ltb m n)
