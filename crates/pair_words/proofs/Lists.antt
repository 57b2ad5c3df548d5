-- Operators on the bits that pairs stand for, one pair more at a time.
use Rattle.std.proofs.Common.{◌≡◌, ℕ, ◌+◌, ◌-◌, ◌<◌, ◌≤◌, Bool, true, ◌&&◌, List, [], ◌∷◌, ◌++◌, length, get_or, take, drop, replicate, refl, sym, ap, ◌∙◌, arith}
use Rattle.std.proofs.lemmas.List.{map_more, map_push, length-map, drop_more, drop_all, length-take-le}
use Rattle.fourvec.specs.declared.Bit.{Bit}
use Rattle.fourvec.specs.Bits.{each, each_pair, over, is_known, is_known_bit}
use Rattle.pair_words.specs.declared.pairs.Pair.{Pair}
use Rattle.pair_words.specs.Rails.{bit_at, bits}

pub each_pair-push : (f : Bit → Bit → Bit) (xs ys : List Bit) (x y : Bit) → length xs ≡ length ys → each_pair f (xs ++ x ∷ []) (ys ++ y ∷ []) ≡ each_pair f xs ys ++ f x y ∷ []
unfolding each_pair
each_pair-push f [] [] x y e = refl
each_pair-push f [] (b ∷ ys) x y e = absurd (omega (arith, e))
each_pair-push f (a ∷ xs) [] x y e = absurd (omega (arith, e))
each_pair-push f (a ∷ xs) (b ∷ ys) x y e = ap (λ (t : List Bit). f a b ∷ t) (each_pair-push f xs ys x y (omega (arith, e)))

pub each_pair_none : (f : Bit → Bit → Bit) → each_pair f [] [] ≡ []
unfolding each_pair
each_pair_none f = refl

-- one pair more of two vectors
pub each_pair_more : (v : ℕ → Bool) (f : Bit → Bit → Bit) (a b word : List Pair) (i : ℕ) (d e p : Pair) → length a ≡ length b → i < length a →
    bits v word ≡ each_pair f (bits v (take i a)) (bits v (take i b)) → bit_at v p ≡ f (bit_at v (get_or a i d)) (bit_at v (get_or b i e)) →
    bits v (word ++ p ∷ []) ≡ each_pair f (bits v (take (i + 1) a)) (bits v (take (i + 1) b))
each_pair_more v f a b word i d e p same lt before here =
    let long_a : length (bits v (take i a)) ≡ i = length-map (take i a) (bit_at v) ∙ length-take-le i a (omega arith) in
    let long_b : length (bits v (take i b)) ≡ i = length-map (take i b) (bit_at v) ∙ length-take-le i b (omega arith) in
    map_push (bit_at v) word p ∙
    ap (λ (t : List Bit). t ++ bit_at v p ∷ []) before ∙
    ap (λ (t : Bit). each_pair f (bits v (take i a)) (bits v (take i b)) ++ t ∷ []) here ∙
    sym (each_pair-push f (bits v (take i a)) (bits v (take i b)) (bit_at v (get_or a i d)) (bit_at v (get_or b i e)) (long_a ∙ sym long_b)) ∙
    ap (λ (t : List Bit). each_pair f t (bits v (take i b) ++ bit_at v (get_or b i e) ∷ [])) (sym (map_more (bit_at v) a i d lt)) ∙
    ap (λ (t : List Bit). each_pair f (bits v (take (i + 1) a)) t) (sym (map_more (bit_at v) b i e (omega arith)))

-- the last pairs, and one more in front
last_more : (v : ℕ → Bool) (a : List Pair) (i : ℕ) (d : Pair) → i < length a → bits v (drop (length a - (i + 1)) a) ≡ bit_at v (get_or a (length a - 1 - i) d) ∷ bits v (drop (length a - i) a)
last_more v a i d lt =
    let here : length a - (i + 1) ≡ length a - 1 - i = omega arith in
    let next : length a - 1 - i + 1 ≡ length a - i = omega arith in
    ap (λ (n : ℕ). bits v (drop n a)) here ∙
    ap (λ (t : List Pair). bits v t) (drop_more a (length a - 1 - i) d (omega arith)) ∙
    ap (λ (n : ℕ). bit_at v (get_or a (length a - 1 - i) d) ∷ bits v (drop n a)) next

over-cons : (f : Bit → Bit → Bit) (start x : Bit) (xs : List Bit) → over f start (x ∷ xs) ≡ f x (over f start xs)
unfolding over
over-cons f start x xs = refl

over-nil : (f : Bit → Bit → Bit) (start : Bit) → over f start [] ≡ start
unfolding over
over-nil f start = refl

known-cons : (x : Bit) (xs : List Bit) → is_known (x ∷ xs) ≡ (is_known_bit x && is_known xs)
unfolding is_known
known-cons x xs = refl

known-nil : is_known [] ≡ true
unfolding is_known
known-nil = refl

pub over_start : (v : ℕ → Bool) (f : Bit → Bit → Bit) (start : Bit) (a : List Pair) → start ≡ over f start (bits v (drop (length a - 0) a))
over_start v f start a = sym (ap (λ (t : List Pair). over f start (bits v t)) (drop_all (length a - 0) a (omega arith)) ∙ over-nil f start)

pub over_more : (v : ℕ → Bool) (f : Bit → Bit → Bit) (start : Bit) (a : List Pair) (i : ℕ) (d last next : Pair) → i < length a →
    bit_at v last ≡ over f start (bits v (drop (length a - i) a)) → bit_at v next ≡ f (bit_at v (get_or a (length a - 1 - i) d)) (bit_at v last) →
    bit_at v next ≡ over f start (bits v (drop (length a - (i + 1)) a))
over_more v f start a i d last next lt before here =
    let x : Bit = bit_at v (get_or a (length a - 1 - i) d) in
    here ∙ ap (λ (t : Bit). f x t) before ∙ sym (over-cons f start x (bits v (drop (length a - i) a))) ∙ ap (λ (t : List Bit). over f start t) (sym (last_more v a i d lt))

pub over_end : (v : ℕ → Bool) (f : Bit → Bit → Bit) (start : Bit) (a : List Pair) (i : ℕ) (last : Bit) → length a ≤ i →
    last ≡ over f start (bits v (drop (length a - i) a)) → last ≡ over f start (bits v a)
over_end v f start a i last le e = let z : length a - i ≡ 0 = omega arith in e ∙ ap (λ (n : ℕ). over f start (bits v (drop n a))) z

pub known_start : (v : ℕ → Bool) (a : List Pair) (b : Bool) → b ≡ true → b ≡ is_known (bits v (drop (length a - 0) a))
known_start v a b e = e ∙ sym (ap (λ (t : List Pair). is_known (bits v t)) (drop_all (length a - 0) a (omega arith)) ∙ known-nil)

pub known_more : (v : ℕ → Bool) (a : List Pair) (i : ℕ) (d : Pair) (last next : Bool) → i < length a →
    last ≡ is_known (bits v (drop (length a - i) a)) → next ≡ (is_known_bit (bit_at v (get_or a (length a - 1 - i) d)) && last) →
    next ≡ is_known (bits v (drop (length a - (i + 1)) a))
known_more v a i d last next lt before here =
    let x : Bit = bit_at v (get_or a (length a - 1 - i) d) in
    here ∙ ap (λ (t : Bool). is_known_bit x && t) before ∙ sym (known-cons x (bits v (drop (length a - i) a))) ∙ ap (λ (t : List Bit). is_known t) (sym (last_more v a i d lt))

pub known_end : (v : ℕ → Bool) (a : List Pair) (i : ℕ) (last : Bool) → length a ≤ i → last ≡ is_known (bits v (drop (length a - i) a)) → last ≡ is_known (bits v a)
known_end v a i last le e = let z : length a - i ≡ 0 = omega arith in e ∙ ap (λ (n : ℕ). is_known (bits v (drop n a))) z

-- an operator of the first of two equal vectors
pub each_first : (f : Bit → Bit) (xs : List Bit) → each_pair (λ x y. f x) xs xs ≡ each f xs
unfolding each each_pair
each_first f [] = refl
each_first f (x ∷ xs) = ap (λ (t : List Bit). f x ∷ t) (each_first f xs)

-- an operator with one bit for all of the second
pub each_by : (f : Bit → Bit → Bit) (y : Bit) (xs zs : List Bit) → length xs ≡ length zs → each_pair (λ x z. f x y) xs zs ≡ each_pair f xs (replicate (length xs) y)
unfolding each_pair
each_by f y [] [] e = refl
each_by f y [] (z ∷ zs) e = absurd (omega (arith, e))
each_by f y (x ∷ xs) [] e = absurd (omega (arith, e))
each_by f y (x ∷ xs) (z ∷ zs) e = ap (λ (t : List Bit). f x y ∷ t) (each_by f y xs zs (omega (arith, e)))
