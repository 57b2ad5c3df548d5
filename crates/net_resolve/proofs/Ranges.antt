-- Bits in their order.
use Rattle.std.proofs.Common.{◌≡◌, ℕ, zero, suc, ◌+◌, ◌<◌, ◌≤◌, List, [], ◌∷◌, ◌++◌, length, get_or, map, take, drop, refl, sym, ap, ◌∙◌, arith, add-zero, zero-add, append_assoc, length-take, length-drop}
use Rattle.std.specs.List.{range_with_len}
use Rattle.std.proofs.lemmas.List.{append-nil, ext_get_or, get_or-take, get_or-drop}
use Rattle.std.proofs.lemmas.List.FromFn.{get_or-map-range_with_len, length-map-range_with_len, map-range_with_len_more}
use Rattle.fourvec.specs.declared.Bit.{Bit}
use Rattle.fourvec.specs.declared.Bit.TheVariants.{Unknown, Floating}
use Rattle.fourvec.specs.Bits.{res_bit, over, each_pair, same_bit}
use Rattle.fourvec.proofs.Tables.{same_bit-true, every_bit, at_bit}
use Rattle.settling.specs.Events.{resolved}

-- ---- lists by their places

range-same_from : {X : Type 0} (f g : ℕ → X) (a n : ℕ) → ((j : ℕ) → j < a + n → f j ≡ g j) → map f (range_with_len a n) ≡ map g (range_with_len a n)
range-same_from f g a zero h = refl
range-same_from f g a (suc n) h =
    ap (λ x. x ∷ map f (range_with_len (a + 1) n)) (h a (omega arith))
    ∙ ap (λ l. g a ∷ l) (range-same_from f g (a + 1) n (λ j lt. h j (omega (arith, lt))))

pub range-same : {X : Type 0} (f g : ℕ → X) (n : ℕ) → ((j : ℕ) → j < n → f j ≡ g j) → map f (range_with_len 0 n) ≡ map g (range_with_len 0 n)
range-same f g n h = range-same_from f g 0 n (λ j lt. h j (omega (arith, lt)))

pub range-split : {X : Type 0} (f : ℕ → X) (a b : ℕ) → map f (range_with_len 0 (a + b)) ≡ map f (range_with_len 0 a) ++ map (λ j. f (a + j)) (range_with_len 0 b)
range-split f a zero = ap (λ n. map f (range_with_len 0 n)) (add-zero a) ∙ sym (append-nil (map f (range_with_len 0 a)))
range-split f a (suc b) =
    let next : a + suc b ≡ (a + b) + 1 = omega arith in
    let one : suc b ≡ b + 1 = omega arith in
    ap (λ n. map f (range_with_len 0 n)) next
    ∙ map-range_with_len_more f 0 (a + b) (a + b) (zero-add (a + b))
    ∙ ap (λ l. l ++ f (a + b) ∷ []) (range-split f a b)
    ∙ append_assoc (map f (range_with_len 0 a)) (map (λ j. f (a + j)) (range_with_len 0 b)) (f (a + b) ∷ [])
    ∙ ap (λ l. map f (range_with_len 0 a) ++ l) (sym (map-range_with_len_more (λ j. f (a + j)) 0 b b (zero-add b)))
    ∙ ap (λ n. map f (range_with_len 0 a) ++ map (λ j. f (a + j)) (range_with_len 0 n)) (sym one)

-- a part of a vector, bit by bit
pub part-bits : (v : List Bit) (lo width : ℕ) → lo + width ≤ length v → take width (drop lo v) ≡ map (λ j. get_or v (lo + j) Unknown) (range_with_len 0 width)
part-bits v lo width fits =
    let f : ℕ → Bit = λ j. get_or v (lo + j) Unknown in
    let left = take width (drop lo v) in
    let long : length left ≡ width = omega (arith, length-take width (drop lo v), length-drop lo v, fits) in
    ext_get_or Unknown left (map f (range_with_len 0 width)) (long ∙ sym (length-map-range_with_len f 0 width))
    (λ k lt.
    let within : k < width = omega (arith, lt, long) in
    get_or-take width (drop lo v) k Unknown within
    ∙ get_or-drop lo v k Unknown
    ∙ sym (get_or-map-range_with_len f 0 width k k Unknown within (zero-add k)))

pub whole-bits : (v : List Bit) (lo width : ℕ) → lo + width ≤ length v → length v ≡ width → v ≡ map (λ j. get_or v (lo + j) Unknown) (range_with_len 0 width)
whole-bits v lo width fits long =
    let f : ℕ → Bit = λ j. get_or v (lo + j) Unknown in
    let none : lo ≡ 0 = omega (arith, fits, long) in
    ext_get_or Unknown v (map f (range_with_len 0 width)) (long ∙ sym (length-map-range_with_len f 0 width))
    (λ k lt.
    let same : k ≡ lo + k = omega (arith, none) in
    ap (λ j. get_or v j Unknown) same
    ∙ sym (get_or-map-range_with_len f 0 width k k Unknown (omega (arith, lt, long)) (zero-add k)))

-- ---- resolution

pub pairs-mapped : (f : Bit → Bit → Bit) (a b : ℕ → Bit) (xs : List ℕ) → each_pair f (map a xs) (map b xs) ≡ map (λ j. f (a j) (b j)) xs
unfolding each_pair
pairs-mapped f a b [] = refl
pairs-mapped f a b (x ∷ xs) = ap (λ l. f (a x) (b x) ∷ l) (pairs-mapped f a b xs)

res-assoc : (a b c : Bit) → res_bit a (res_bit b c) ≡ res_bit (res_bit a b) c
res-assoc a b c =
    let at_a = at_bit (λ x. every_bit (λ y. every_bit (λ z. same_bit (res_bit x (res_bit y z)) (res_bit (res_bit x y) z)))) refl a in
    let at_b = at_bit (λ y. every_bit (λ z. same_bit (res_bit a (res_bit y z)) (res_bit (res_bit a y) z))) at_a b in
    same_bit-true _ _ (at_bit (λ z. same_bit (res_bit a (res_bit b z)) (res_bit (res_bit a b) z)) at_b c)

res-floating : (a : Bit) → res_bit a Floating ≡ a
res-floating a = same_bit-true _ _ (at_bit (λ x. same_bit (res_bit x Floating) x) refl a)

over-push : (l : List Bit) (y : Bit) → over res_bit Floating (l ++ y ∷ []) ≡ res_bit (over res_bit Floating l) y
unfolding over
over-push [] y = res-floating y
over-push (x ∷ l) y = ap (λ z. res_bit x z) (over-push l y) ∙ res-assoc x (over res_bit Floating l) y

-- one more is given where something was
pub resolved-push : (l : List Bit) (y : Bit) → 1 ≤ length l → resolved (l ++ y ∷ []) ≡ res_bit (resolved l) y
resolved-push [] y some = absurd (omega (arith, some))
resolved-push (x ∷ l) y some = over-push (x ∷ l) y

pub resolved-one : (y : Bit) → resolved (y ∷ []) ≡ y
unfolding over
resolved-one y = res-floating y
