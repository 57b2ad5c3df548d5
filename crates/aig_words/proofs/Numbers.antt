-- The numbers that words stand for.
use Rattle.std.proofs.Common.{◌≡◌, ℕ, zero, suc, ◌+◌, ◌-◌, ◌*◌, ◌^◌, ◌<◌, ◌≤◌, Bool, true, false, not, ◌&&◌, ◌||◌, cond, eqb, ltb, List, [], ◌∷◌, ◌++◌, length, get_or, take, drop, map, replicate, refl, sym, ap, subst, ◌∙◌, arith, add-one}
use Rattle.std.proofs.Math.Nat.{pow-suc}
use Rattle.std.proofs.lemmas.List.{take_more, length-take-le, take-append-drop, drop_more, take_all}
use Rattle.aig.specs.declared.gate.Lit.{Lit}
use Rattle.aig.specs.Graph.{holds, negation, constant_lit}
use Rattle.aig_words.specs.Words.{weight, number, less_column, same_column, signed}
use Rattle.std.specs.Prelude.{ℤ, pos, negsuc, int_lt}
use Rattle.aig_words.proofs.Steps.{pick_step, less_step, same_step, any_step, turn_by, divide_step, sign_step, signed_step, signed_order}
use Rattle.aig_words.proofs.Tables.{holds-negation}

pub number-append : (v : ℕ → Bool) (xs ys : List Lit) → number v (xs ++ ys) ≡ number v xs + 2 ^ length xs * number v ys
unfolding number
number-append v [] ys = omega arith
number-append v (x ∷ xs) ys = omega (arith, number-append v xs ys, ap (λ n. n * number v ys) (pow-suc 2 (length xs)))

pub number-push : (v : ℕ → Bool) (xs : List Lit) (x : Lit) → number v (xs ++ x ∷ []) ≡ number v xs + 2 ^ length xs * weight (holds v x)
unfolding number
number-push v xs x = let h : number v (xs ++ x ∷ []) ≡ number v xs + 2 ^ length xs * (weight (holds v x) + 2 * 0) = number-append v xs (x ∷ []) in omega arith

pub number-more : (v : ℕ → Bool) (xs : List Lit) (i : ℕ) (d : Lit) → i < length xs → number v (take (i + 1) xs) ≡ number v (take i xs) + 2 ^ i * weight (holds v (get_or xs i d))
number-more v xs i d lt =
    rw (take_more xs i d lt) (subst (λ (n : ℕ). number v (take i xs ++ get_or xs i d ∷ []) ≡ number v (take i xs) + 2 ^ n * weight (holds v (get_or xs i d))) (length-take-le i xs (omega arith)) (number-push v (take i xs) (get_or xs i d)))

weight_le : (b : Bool) → weight b ≤ 1
weight_le true = omega arith
weight_le false = omega arith

pub number-below : (v : ℕ → Bool) (xs : List Lit) → number v xs < 2 ^ length xs
unfolding number
number-below v [] = omega arith
number-below v (x ∷ xs) = omega (arith, number-below v xs, weight_le (holds v x), pow-suc 2 (length xs))

weight-not : (b : Bool) → weight (not b) + weight b ≡ 1
weight-not true = refl
weight-not false = refl

pub number-negated : (v : ℕ → Bool) (xs : List Lit) → number v (map negation xs) + number v xs + 1 ≡ 2 ^ length xs
unfolding number
number-negated v [] = refl
number-negated v (x ∷ xs) =
    let e : weight (holds v (negation x)) ≡ weight (not (holds v x)) = ap (λ (b : Bool). weight b) (holds-negation v x (negation x) refl) in
    omega (arith, number-negated v xs, weight-not (holds v x), pow-suc 2 (length xs))

pub number-zeros : (v : ℕ → Bool) (n : ℕ) → v 0 ≡ false → number v (replicate n (constant_lit false)) ≡ 0
unfolding number
number-zeros v zero h = refl
number-zeros v (suc n) h =
    let e : weight (holds v (constant_lit false)) ≡ 0 = ap (λ (b : Bool). weight b) h in
    omega (arith, number-zeros v n h)

-- one more column of a sum
pub ripple : (p s na nb x y t c c' k : ℕ) → s + p * c ≡ na + nb + k → t + 2 * c' ≡ x + y + c → s + p * t + p * 2 * c' ≡ na + p * x + (nb + p * y) + k
ripple p s na nb x y t c c' k e f = omega (arith, ap (λ n. p * n) f)

pub number-nil : (v : ℕ → Bool) → number v [] ≡ 0
unfolding number
number-nil v = refl

-- one more column of a sum
pub ripple_more : (v : ℕ → Bool) (a b word : List Lit) (i : ℕ) (s last next : Lit) (k : ℕ) → length a ≡ length b → i < length a → length word ≡ i →
    number v word + 2 ^ i * weight (holds v last) ≡ number v (take i a) + number v (take i b) + k →
    weight (holds v s) + 2 * weight (holds v next) ≡ weight (holds v (get_or a i (constant_lit false))) + weight (holds v (get_or b i (constant_lit false))) + weight (holds v last) →
    number v (word ++ s ∷ []) + 2 ^ (i + 1) * weight (holds v next) ≡ number v (take (i + 1) a) + number v (take (i + 1) b) + k
ripple_more v a b word i s last next k same lt long before here =
    let na : number v (take (i + 1) a) ≡ number v (take i a) + 2 ^ i * weight (holds v (get_or a i (constant_lit false))) = number-more v a i (constant_lit false) lt in
    let nb : number v (take (i + 1) b) ≡ number v (take i b) + 2 ^ i * weight (holds v (get_or b i (constant_lit false))) = number-more v b i (constant_lit false) (omega arith) in
    let nw : number v (word ++ s ∷ []) ≡ number v word + 2 ^ i * weight (holds v s) = subst (λ (n : ℕ). number v (word ++ s ∷ []) ≡ number v word + 2 ^ n * weight (holds v s)) long (number-push v word s) in
    let p : 2 ^ (i + 1) ≡ 2 ^ i * 2 = rw add-one (pow-suc 2 i) in
    rw (na, nb, nw, p) (ripple (2 ^ i) (number v word) (number v (take i a)) (number v (take i b)) _ _ (weight (holds v s)) (weight (holds v last)) (weight (holds v next)) k before here)

pub number-push-at : (v : ℕ → Bool) (word : List Lit) (s : Lit) (i : ℕ) → length word ≡ i → number v (word ++ s ∷ []) ≡ number v word + 2 ^ i * weight (holds v s)
number-push-at v word s i long = subst (λ (n : ℕ). number v (word ++ s ∷ []) ≡ number v word + 2 ^ n * weight (holds v s)) long (number-push v word s)

pub number-below-at : (v : ℕ → Bool) (word : List Lit) (w : ℕ) → length word ≡ w → number v word < 2 ^ w
number-below-at v word w long = subst (λ (n : ℕ). number v word < 2 ^ n) long (number-below v word)

pub number-take-below : (v : ℕ → Bool) (word : List Lit) (i : ℕ) → i ≤ length word → number v (take i word) < 2 ^ i
number-take-below v word i le = number-below-at v (take i word) i (length-take-le i word le)

pub number-cons : (v : ℕ → Bool) (l : Lit) (word : List Lit) → number v (l ∷ word) ≡ weight (holds v l) + 2 * number v word
unfolding number
number-cons v l word = refl

-- the low part and the rest
pub number-split : (v : ℕ → Bool) (word : List Lit) (k : ℕ) → k ≤ length word → number v word ≡ number v (take k word) + 2 ^ k * number v (drop k word)
number-split v word k le =
    subst (λ (n : ℕ). number v word ≡ number v (take k word) + 2 ^ n * number v (drop k word)) (length-take-le k word le)
    (ap (λ (xs : List Lit). number v xs) (sym (take-append-drop k word)) ∙ number-append v (take k word) (drop k word))

pub holds-zero : (v : ℕ → Bool) (l : Lit) → l ≡ (constant_lit false) → v 0 ≡ false → holds v l ≡ false
holds-zero v l e h = ap (λ (k : Lit). holds v k) e ∙ h

pub holds-one : (v : ℕ → Bool) (l : Lit) → l ≡ (constant_lit true) → v 0 ≡ false → holds v l ≡ true
holds-one v l e h = ap (λ (k : Lit). holds v k) e ∙ ap (λ (b : Bool). not b) h

pub mux_more : (v : ℕ → Bool) (c : Bool) (a b word : List Lit) (i : ℕ) (s : Lit) → length a ≡ length b → i < length a → length word ≡ i →
    number v word ≡ cond c (number v (take i a)) (number v (take i b)) →
    holds v s ≡ cond c (holds v (get_or a i (constant_lit false))) (holds v (get_or b i (constant_lit false))) →
    number v (word ++ s ∷ []) ≡ cond c (number v (take (i + 1) a)) (number v (take (i + 1) b))
mux_more v c a b word i s same lt long before here =
    rw (number-more v a i (constant_lit false) lt, number-more v b i (constant_lit false) (let h : i < length b = omega arith in h), number-push-at v word s i long)
    (pick_step c (2 ^ i) (number v word) (number v (take i a)) (number v (take i b)) _ _ (holds v s) before here)

pub less_more : (v : ℕ → Bool) (a b : List Lit) (i : ℕ) (last next : Bool) → length a ≡ length b → i < length a →
    last ≡ ltb (number v (take i a)) (number v (take i b)) →
    next ≡ less_column (holds v (get_or a i (constant_lit false))) (holds v (get_or b i (constant_lit false))) last →
    next ≡ ltb (number v (take (i + 1) a)) (number v (take (i + 1) b))
less_more v a b i last next same lt before here =
    let lb : i < length b = omega arith in
    rw (number-more v a i (constant_lit false) lt, number-more v b i (constant_lit false) lb)
    (here ∙ ap (λ (t : Bool). less_column (holds v (get_or a i (constant_lit false))) (holds v (get_or b i (constant_lit false))) t) before ∙
    sym (less_step (2 ^ i) (number v (take i a)) (number v (take i b)) _ _ (number-take-below v a i (omega arith)) (number-take-below v b i (omega arith))))

pub same_more : (v : ℕ → Bool) (a b : List Lit) (i : ℕ) (last next : Bool) → length a ≡ length b → i < length a →
    last ≡ eqb (number v (take i a)) (number v (take i b)) →
    next ≡ same_column (holds v (get_or a i (constant_lit false))) (holds v (get_or b i (constant_lit false))) last →
    next ≡ eqb (number v (take (i + 1) a)) (number v (take (i + 1) b))
same_more v a b i last next same lt before here =
    let lb : i < length b = omega arith in
    rw (number-more v a i (constant_lit false) lt, number-more v b i (constant_lit false) lb)
    (here ∙ ap (λ (t : Bool). same_column (holds v (get_or a i (constant_lit false))) (holds v (get_or b i (constant_lit false))) t) before ∙
    sym (same_step (2 ^ i) (number v (take i a)) (number v (take i b)) _ _ (number-take-below v a i (omega arith)) (number-take-below v b i (omega arith))))

-- the bits from j up
pub number-drop : (v : ℕ → Bool) (a : List Lit) (j : ℕ) → j < length a → number v (drop j a) ≡ weight (holds v (get_or a j (constant_lit false))) + 2 * number v (drop (j + 1) a)
number-drop v a j lt = ap (λ (xs : List Lit). number v xs) (drop_more a j (constant_lit false) lt) ∙ number-cons v (get_or a j (constant_lit false)) (drop (j + 1) a)

pub any_more : (v : ℕ → Bool) (a : List Lit) (i : ℕ) (last next : Bool) → i < length a →
    last ≡ ltb 0 (number v (drop (length a - i) a)) → next ≡ (last || holds v (get_or a (length a - 1 - i) (constant_lit false))) → next ≡ ltb 0 (number v (drop (length a - (i + 1)) a))
any_more v a i last next lt before here =
    let j : ℕ = length a - (i + 1) in
    let at : length a - 1 - i ≡ j = omega arith in
    let after : j + 1 ≡ length a - i = omega arith in
    let x : Bool = holds v (get_or a j (constant_lit false)) in
    let last_is : last ≡ ltb 0 (number v (drop (j + 1) a)) = before ∙ ap (λ (t : ℕ). ltb 0 (number v (drop t a))) (sym after) in
    let here_is : next ≡ (last || x) = here ∙ ap (λ (t : ℕ). last || holds v (get_or a t (constant_lit false))) at in
    here_is ∙ ap (λ (t : Bool). t || x) last_is ∙ sym (any_step (number v (drop (j + 1) a)) x) ∙ sym (ap (λ n. ltb 0 n) (number-drop v a j (omega arith)))

-- one turn of a division, over the rest with its new bit
pub turn_value : (v : ℕ → Bool) (shifted b word left : List Lit) (carry taken : Bool) → length shifted ≤ length b → length word ≡ length shifted → number v shifted < 2 * number v b →
    number v word + 2 ^ length shifted * weight carry + number v (take (length shifted) b) ≡ number v shifted + 2 ^ length shifted →
    taken ≡ (carry && not (ltb 0 (number v (drop (length shifted) b)))) → number v left ≡ cond taken (number v word) (number v shifted) →
    (number v shifted ≡ weight taken * number v b + number v left) × (number v left < number v b)
turn_value v shifted b word left carry taken short long lt e et el =
    let n : ℕ = length shifted in
    turn_by carry taken (number v b) (number v (take n b)) (number v (drop n b)) (number v word) (number v shifted) (2 ^ n) (number v left)
    lt (number-below v shifted) (number-below-at v word n long) (number-split v b n short) e et el

-- the same, told of the new bit and the rest
pub turn_with : (v : ℕ → Bool) (bit : Lit) (rest : List Lit) (nb taken left : ℕ) → number v rest < nb →
    (number v (bit ∷ rest) < 2 * nb → (number v (bit ∷ rest) ≡ taken + left) × (left < nb)) → (weight (holds v bit) + 2 * number v rest ≡ taken + left) × (left < nb)
turn_with v bit rest nb taken left lt turn =
    let both = turn (omega (arith, number-cons v bit rest, weight_le (holds v bit))) in
    (sym (number-cons v bit rest) ∙ both.0, both.1)

pub divide_more : (v : ℕ → Bool) (a q rest rest' : List Lit) (nb i : ℕ) (bit : Lit) → i < length a →
    number v (drop (length a - i) a) ≡ number v q * nb + number v rest →
    weight (holds v (get_or a (length a - 1 - i) (constant_lit false))) + 2 * number v rest ≡ weight (holds v bit) * nb + number v rest' →
    number v (drop (length a - (i + 1)) a) ≡ number v (bit ∷ q) * nb + number v rest'
divide_more v a q rest rest' nb i bit lt e f =
    let j : ℕ = length a - (i + 1) in
    let at : length a - 1 - i ≡ j = omega arith in
    let next : j + 1 ≡ length a - i = omega arith in
    let d : number v (drop j a) ≡ weight (holds v (get_or a j (constant_lit false))) + 2 * number v (drop (length a - i) a) =
    ap (λ (xs : List Lit). number v xs) (drop_more a j (constant_lit false) (omega arith)) ∙ number-cons v (get_or a j (constant_lit false)) (drop (j + 1) a) ∙
    ap (λ (t : ℕ). weight (holds v (get_or a j (constant_lit false))) + 2 * number v (drop t a)) next in
    let f' : weight (holds v (get_or a j (constant_lit false))) + 2 * number v rest ≡ weight (holds v bit) * nb + number v rest' =
    subst (λ (t : ℕ). weight (holds v (get_or a t (constant_lit false))) + 2 * number v rest ≡ weight (holds v bit) * nb + number v rest') at f in
    divide_step (number v (drop j a)) (number v (drop (length a - i) a)) (number v q) (number v rest) nb (weight (holds v (get_or a j (constant_lit false)))) (number v rest') (holds v bit) d e f' ∙
    ap (λ t. t * nb + number v rest') (sym (number-cons v bit q))

-- the top bit
number-top : (v : ℕ → Bool) (a : List Lit) → 0 < length a → number v a ≡ number v (take (length a - 1) a) + 2 ^ (length a - 1) * weight (holds v (get_or a (length a - 1) (constant_lit false)))
number-top v a lp =
    let j : ℕ = length a - 1 in
    ap (λ (xs : List Lit). number v xs) (sym (take_all (j + 1) a (omega arith))) ∙ number-more v a j (constant_lit false) (omega arith)

pub sign_is : (v : ℕ → Bool) (a : List Lit) → 0 < length a → holds v (get_or a (length a - 1) (constant_lit false)) ≡ not (ltb (number v a) (2 ^ (length a - 1)))
sign_is v a lp =
    let j : ℕ = length a - 1 in
    sign_step (2 ^ j) (number v (take j a)) (holds v (get_or a j (constant_lit false))) (number-take-below v a j (omega arith)) ∙
    ap (λ n. not (ltb n (2 ^ j))) (sym (number-top v a lp))

-- two's complement by the top bit and the others
signed-top : (v : ℕ → Bool) (a : List Lit) (w : ℕ) → 0 < w → length a ≡ w → signed w (number v a) ≡
    cond (holds v (get_or a (w - 1) (constant_lit false))) (negsuc (2 ^ (w - 1) - 1 - number v (take (w - 1) a))) (pos (number v (take (w - 1) a)))
signed-top v a w lp long =
    let j : ℕ = w - 1 in
    let x : Bool = holds v (get_or a j (constant_lit false)) in
    let m : ℕ = number v (take j a) in
    let top : number v a ≡ m + 2 ^ j * weight x = subst (λ (n : ℕ). number v a ≡ number v (take (n - 1) a) + 2 ^ (n - 1) * weight (holds v (get_or a (n - 1) (constant_lit false)))) long (number-top v a (omega arith)) in
    let next : w ≡ suc j = omega arith in
    let double : 2 ^ w ≡ 2 ^ j * 2 = ap (λ n. 2 ^ n) next ∙ pow-suc 2 j in
    ap (λ n. signed w n) top ∙ ap (λ q. cond (ltb (m + 2 ^ j * weight x) (2 ^ j)) (pos (m + 2 ^ j * weight x)) (negsuc (q - 1 - (m + 2 ^ j * weight x)))) double ∙
    signed_step (2 ^ j) m x (number-take-below v a j (omega arith))

pub signed_less : (v : ℕ → Bool) (a b : List Lit) (low next : Bool) → 0 < length a → length a ≡ length b →
    low ≡ ltb (number v (take (length a - 1) a)) (number v (take (length a - 1) b)) →
    next ≡ less_column (holds v (get_or b (length a - 1) (constant_lit false))) (holds v (get_or a (length a - 1) (constant_lit false))) low →
    next ≡ int_lt (signed (length a) (number v a)) (signed (length a) (number v b))
signed_less v a b low next lp same before here =
    let w : ℕ = length a in
    let j : ℕ = w - 1 in
    let x : Bool = holds v (get_or a j (constant_lit false)) in
    let y : Bool = holds v (get_or b j (constant_lit false)) in
    let m : ℕ = number v (take j a) in
    let n : ℕ = number v (take j b) in
    here ∙ ap (λ (t : Bool). less_column y x t) before ∙
    signed_order (2 ^ j) m n x y (number-take-below v a j (omega arith)) (number-take-below v b j (omega arith)) ∙
    ap (λ (z : ℤ). int_lt z (cond y (negsuc (2 ^ j - 1 - n)) (pos n))) (sym (signed-top v a w lp refl)) ∙
    ap (λ (z : ℤ). int_lt (signed w (number v a)) z) (sym (signed-top v b w lp (sym same)))
