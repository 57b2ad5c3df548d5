-- Words whose bits are moved, and their numbers.
use Rattle.std.proofs.Common.{◌≡◌, ℕ, zero, suc, ◌+◌, ◌-◌, ◌*◌, ◌/◌, ◌%◌, ◌^◌, ◌<◌, ◌≤◌, Bool, true, false, cond, ltb, List, length, get_or, take, drop, replicate, refl, sym, ap, subst, ◌∙◌, arith, length-append}
use Rattle.std.proofs.Math.Nat.{pow-suc, div-one, div-eq_of_lt, mod-eq_of_lt, mul-mod_left, pow-le-pow_right, div-le_self}
use Rattle.std.proofs.lemmas.Nat.{pow_pos, pow-add, shr-shr, mul-mod_first}
use Rattle.std.proofs.lemmas.Bool.{lt-ltb, le-ltb}
use Rattle.std.proofs.lemmas.List.{length-take-le, length-replicate, length-drop}
use Rattle.aig.specs.declared.gate.Lit.{Lit}
use Rattle.aig.specs.Graph.{holds, constant_lit}
use Rattle.aig_words.specs.declared.lists.Way.{Way}
use Rattle.aig_words.specs.declared.lists.Way.TheVariants.{Up, Down}
use Rattle.aig_words.specs.Words.{weight, number, moved, moved_down_by, shifted}
use Rattle.aig_words.proofs.Steps.{sum_mod, quotient_is}
use Rattle.aig_words.proofs.Numbers.{number-append, number-zeros, number-split, number-take-below, number-below-at, number-more}

-- ---- lists

pub length-moved : (way : Way) (k : ℕ) (a : List Lit) → k ≤ length a → length (moved way k a) ≡ length a
length-moved Up k a le = omega (arith, length-append (replicate k (constant_lit false)) (take (length a - k) a), length-replicate k (constant_lit false), length-take-le (length a - k) a (omega arith))
length-moved (Down fill) k a le = omega (arith, length-append (drop k a) (replicate k fill), length-replicate k fill, length-drop k a)

-- ---- numbers

fill_step : (b : Bool) (n : ℕ) → weight b + 2 * cond b (2 ^ n - 1) 0 ≡ cond b (2 ^ suc n - 1) 0
fill_step true n = omega (arith, pow-suc 2 n, pow_pos n)
fill_step false n = omega arith

fill_none : (b : Bool) → cond b (2 ^ 0 - 1) 0 ≡ 0
fill_none true = refl
fill_none false = refl

number-replicate : (v : ℕ → Bool) (n : ℕ) (l : Lit) → number v (replicate n l) ≡ cond (holds v l) (2 ^ n - 1) 0
unfolding number
number-replicate v zero l = sym (fill_none (holds v l))
number-replicate v (suc n) l = ap (λ t. weight (holds v l) + 2 * t) (number-replicate v n l) ∙ fill_step (holds v l) n

times_lt : (p a b : ℕ) → 0 < p → a < b → p * a < p * b
times_lt p a b lp lt = grind arith

pow_parts : (w k : ℕ) → k ≤ w → 2 ^ w ≡ 2 ^ k * 2 ^ (w - k)
pow_parts w k le = (let s : w ≡ k + (w - k) = omega arith in ap (λ n. 2 ^ n) s) ∙ pow-add 2 k (w - k)

number-moved_up : (v : ℕ → Bool) (k : ℕ) (a : List Lit) → v 0 ≡ false → k ≤ length a → number v (moved Up k a) ≡ (number v a * 2 ^ k) % 2 ^ length a
number-moved_up v k a h le =
    let w : ℕ = length a in
    let low : List Lit = take (w - k) a in
    let zeros : List Lit = replicate k (constant_lit false) in
    let e1 : number v (moved Up k a) ≡ number v zeros + 2 ^ length zeros * number v low = number-append v zeros low in
    let e2 : number v (moved Up k a) ≡ 0 + 2 ^ k * number v low = e1 ∙ ap (λ n. n + 2 ^ length zeros * number v low) (number-zeros v k h) ∙ ap (λ n. 0 + 2 ^ n * number v low) (length-replicate k (constant_lit false)) in
    let e3 : number v a ≡ number v low + 2 ^ (w - k) * number v (drop (w - k) a) = number-split v a (w - k) (omega arith) in
    let p : 2 ^ w ≡ 2 ^ k * 2 ^ (w - k) = pow_parts w k le in
    let low_lt : number v low < 2 ^ (w - k) = number-take-below v a (w - k) (omega arith) in
    let small : 2 ^ k * number v low < 2 ^ k * 2 ^ (w - k) = times_lt (2 ^ k) (number v low) (2 ^ (w - k)) (pow_pos k) low_lt in
    let e4 : 2 ^ k * number v low + 2 ^ w * number v (drop (w - k) a) ≡ number v a * 2 ^ k =
    omega (arith, ap (λ n. n * number v (drop (w - k) a)) p, ap (λ n. n * 2 ^ k) e3) in
    e2 ∙ (let z : 0 + 2 ^ k * number v low ≡ 2 ^ k * number v low = omega arith in z) ∙
    sum_mod (2 ^ k * number v low) (number v (drop (w - k) a)) (2 ^ w) (number v a * 2 ^ k) (rw p small) e4

-- a high part with zeros or ones above it, over plain numbers
down_parts : (f : Bool) (w k n high low p q : ℕ) → 2 ^ w ≡ p * q → 2 ^ k ≡ p → n ≡ low + p * high → low < p → high < q → high + q * cond f (p - 1) 0 ≡ moved_down_by f w n k
down_parts false w k n high low p q ew ek e ll lh =
    (let h : high + q * 0 ≡ high = omega arith in h) ∙ quotient_is n high p low (omega arith) ll ∙ ap (λ t. n / t) (sym ek)
down_parts true w k n high low p q ew ek e ll lh =
    let h : ℕ = q - 1 - high in
    let l : ℕ = p - 1 - low in
    let parts : q ≡ h + high + 1 = omega arith in
    let whole : p * q ≡ p * (h + high + 1) = ap (λ t. p * t) parts in
    let c : 2 ^ w - 1 - n ≡ h * p + l = omega arith in
    let quotient : (2 ^ w - 1 - n) / 2 ^ k ≡ h = ap (λ t. (2 ^ w - 1 - n) / t) ek ∙ sym (quotient_is (2 ^ w - 1 - n) h p l c (omega arith)) in
    let m : q * (p - 1) + q ≡ p * q = times_less q p (omega arith) in
    omega arith
  where
    times_less : (q p : ℕ) → 0 < p → q * (p - 1) + q ≡ p * q
    times_less q p lp = let e : p ≡ (p - 1) + 1 = omega arith in omega (arith, ap (λ t. t * q) e)

number-moved_down : (v : ℕ → Bool) (fill : Lit) (k : ℕ) (a : List Lit) → k ≤ length a → number v (moved (Down fill) k a) ≡ moved_down_by (holds v fill) (length a) (number v a) k
number-moved_down v fill k a le =
    let w : ℕ = length a in
    let high : List Lit = drop k a in
    let long : length high ≡ w - k = length-drop k a in
    let e1 : number v (moved (Down fill) k a) ≡ number v high + 2 ^ length high * number v (replicate k fill) = number-append v high (replicate k fill) in
    e1 ∙ ap (λ n. number v high + 2 ^ n * number v (replicate k fill)) long ∙ ap (λ n. number v high + 2 ^ (w - k) * n) (number-replicate v k fill) ∙
    down_parts (holds v fill) w k (number v a) (number v high) (number v (take k a)) (2 ^ k) (2 ^ (w - k)) (pow_parts w k le) refl (number-split v a k le) (number-take-below v a k le) (number-below-at v high (w - k) long)

pub number-moved : (v : ℕ → Bool) (way : Way) (k : ℕ) (a : List Lit) → v 0 ≡ false → k ≤ length a → number v (moved way k a) ≡ shifted v way (length a) (number v a) k
number-moved v Up k a h le = number-moved_up v k a h le
number-moved v (Down fill) k a h le = number-moved_down v fill k a le

-- ---- one move after another

down_none : (f : Bool) (w n : ℕ) → n < 2 ^ w → moved_down_by f w n 0 ≡ n
down_none false w n lt = div-one n
down_none true w n lt = let e : (2 ^ w - 1 - n) / 2 ^ 0 ≡ 2 ^ w - 1 - n = div-one (2 ^ w - 1 - n) in omega arith

pub shifted_none : (v : ℕ → Bool) (way : Way) (w n : ℕ) → n < 2 ^ w → shifted v way w n 0 ≡ n
shifted_none v Up w n lt = (let e : n * 2 ^ 0 ≡ n = omega arith in ap (λ t. t % 2 ^ w) e) ∙ mod-eq_of_lt lt
shifted_none v (Down fill) w n lt = down_none (holds v fill) w n lt

down_twice : (f : Bool) (w n m p : ℕ) → moved_down_by f w (moved_down_by f w n m) p ≡ moved_down_by f w n (m + p)
down_twice false w n m p = shr-shr n m p
down_twice true w n m p =
    let c : ℕ = 2 ^ w - 1 - n in
    let small : c / 2 ^ m ≤ c = div-le_self c (2 ^ m) in
    let back : 2 ^ w - 1 - (2 ^ w - 1 - c / 2 ^ m) ≡ c / 2 ^ m = omega arith in
    ap (λ t. 2 ^ w - 1 - t / 2 ^ p) back ∙ ap (λ t. 2 ^ w - 1 - t) (shr-shr c m p)

up_twice : (q n m p : ℕ) → ((n * 2 ^ m) % q * 2 ^ p) % q ≡ (n * 2 ^ (m + p)) % q
up_twice q n m p =
    let g : n * 2 ^ m * 2 ^ p ≡ n * 2 ^ (m + p) = omega (arith, ap (λ t. n * t) (pow-add 2 m p)) in
    mul-mod_first (n * 2 ^ m) (2 ^ p) q ∙ ap (λ t. t % q) g

pub shifted_twice : (v : ℕ → Bool) (way : Way) (w n m p : ℕ) → shifted v way w (shifted v way w n m) p ≡ shifted v way w n (m + p)
shifted_twice v Up w n m p = up_twice (2 ^ w) n m p
shifted_twice v (Down fill) w n m p = down_twice (holds v fill) w n m p

quotient_none : (n w m : ℕ) → n < 2 ^ w → w ≤ m → n / 2 ^ m ≡ 0
quotient_none n w m lt le = let q : 2 ^ w ≤ 2 ^ m = pow-le-pow_right {n = 2} (omega arith) le in let small : n < 2 ^ m = omega arith in div-eq_of_lt small

down_far : (f : Bool) (w n m : ℕ) → n < 2 ^ w → w ≤ m → moved_down_by f w n m ≡ moved_down_by f w n w
down_far false w n m lt le = quotient_none n w m lt le ∙ sym (quotient_none n w w lt (omega arith))
down_far true w n m lt le = ap (λ t. 2 ^ w - 1 - t) (quotient_none (2 ^ w - 1 - n) w m (omega arith) le ∙ sym (quotient_none (2 ^ w - 1 - n) w w (omega arith) (omega arith)))

up_far : (w n m : ℕ) → w ≤ m → (n * 2 ^ m) % 2 ^ w ≡ 0
up_far w n m le =
    let s : m ≡ (m - w) + w = omega arith in
    let power : n * 2 ^ m ≡ n * 2 ^ (m - w) * 2 ^ w = omega (arith, ap (λ t. n * 2 ^ t) s, ap (λ t. n * t) (pow-add 2 (m - w) w)) in
    ap (λ t. t % 2 ^ w) power ∙ mul-mod_left (n * 2 ^ (m - w)) (2 ^ w)

pub shifted_far : (v : ℕ → Bool) (way : Way) (w n m : ℕ) → n < 2 ^ w → w ≤ m → shifted v way w n m ≡ shifted v way w n w
shifted_far v Up w n m lt le = up_far w n m le ∙ sym (up_far w n w (omega arith))
shifted_far v (Down fill) w n m lt le = down_far (holds v fill) w n m lt le

-- ---- a shift in stages

stage : (v : ℕ → Bool) (way : Way) (w n m p next : ℕ) (x : Bool) → next ≡ cond x (shifted v way w (shifted v way w n m) p) (shifted v way w n m) → next ≡ shifted v way w n (m + p * weight x)
stage v way w n m p next true e = (let k : m + p ≡ m + p * 1 = omega arith in e ∙ shifted_twice v way w n m p ∙ ap (λ t. shifted v way w n t) k)
stage v way w n m p next false e = (let k : m ≡ m + p * 0 = omega arith in e ∙ ap (λ t. shifted v way w n t) k)

pub shift_more : (v : ℕ → Bool) (way : Way) (b : List Lit) (w n j k before next : ℕ) → j < length b → k ≡ 2 ^ j → before ≡ shifted v way w n (number v (take j b)) →
    next ≡ cond (holds v (get_or b j (constant_lit false))) (shifted v way w before k) before → next ≡ shifted v way w n (number v (take (j + 1) b))
shift_more v way b w n j k before next lt ek so_far here =
    let x : Bool = holds v (get_or b j (constant_lit false)) in
    let m : ℕ = number v (take j b) in
    rw (number-more v b j (constant_lit false) lt)
    (stage v way w n m (2 ^ j) next x (here ∙ ap (λ t. cond x (shifted v way w before t) before) ek ∙ ap (λ t. cond x (shifted v way w t (2 ^ j)) t) so_far))

big : (w m p d : ℕ) → w ≤ p → w ≤ m + p * suc d
big w m p d le = omega arith

-- the bits that no stage has looked at move all away
last_stage : (v : ℕ → Bool) (way : Way) (w n m p d b x next : ℕ) (far : Bool) → n < 2 ^ w → b ≡ m + p * d → (0 < d → w ≤ p) → x ≡ shifted v way w n m → far ≡ ltb 0 d → next ≡ cond far (shifted v way w n w) x → next ≡ shifted v way w n b
last_stage v way w n m p zero b x next far lt e g h f k =
    let same : m ≡ b = omega arith in
    k ∙ ap (λ t. cond t (shifted v way w n w) x) (f ∙ le-ltb 0 0 (omega arith)) ∙ h ∙ ap (λ t. shifted v way w n t) same
last_stage v way w n m p (suc d) b x next far lt e g h f k =
    let le : w ≤ b = subst (λ t. w ≤ t) (sym e) (big w m p d (g (omega arith))) in
    k ∙ ap (λ t. cond t (shifted v way w n w) x) (f ∙ lt-ltb 0 (suc d) (omega arith)) ∙ sym (shifted_far v way w n b lt le)

pub shift_end : (v : ℕ → Bool) (way : Way) (b : List Lit) (w n j x next : ℕ) (far : Bool) → n < 2 ^ w → j ≤ length b → (0 < number v (drop j b) → w ≤ 2 ^ j) →
    x ≡ shifted v way w n (number v (take j b)) → far ≡ ltb 0 (number v (drop j b)) → next ≡ cond far (shifted v way w n w) x → next ≡ shifted v way w n (number v b)
shift_end v way b w n j x next far lt le g h f k = last_stage v way w n (number v (take j b)) (2 ^ j) (number v (drop j b)) (number v b) x next far lt (number-split v b j le) g h f k
