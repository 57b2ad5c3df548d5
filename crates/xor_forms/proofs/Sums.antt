-- Exclusive ors of lists of nodes.
use Rattle.std.proofs.Common.{◌≡◌, ℕ, ◌+◌, ◌<◌, ◌≤◌, Bool, true, false, not, List, [], ◌∷◌, ◌++◌, length, get_or, take, drop, ◌-◌, length-drop, refl, sym, ap, ◌∙◌, arith, drop-cons, add-one}
use Rattle.std.proofs.lemmas.List.{take_all}
use Rattle.xor_forms.specs.Forms.{differ, sum_of, value_of}

assoc : (x y z : Bool) → differ (differ x y) z ≡ differ x (differ y z)
assoc true true true = refl
assoc true true false = refl
assoc true false true = refl
assoc true false false = refl
assoc false true true = refl
assoc false true false = refl
assoc false false true = refl
assoc false false false = refl

pub sum_of-append : (v : ℕ → Bool) (xs ys : List ℕ) → sum_of v (xs ++ ys) ≡ differ (sum_of v xs) (sum_of v ys)
unfolding sum_of
sum_of-append v [] ys = refl
sum_of-append v (x ∷ xs) ys = ap (λ s. differ (v x) s) (sum_of-append v xs ys) ∙ sym (assoc (v x) (sum_of v xs) (sum_of v ys))

pub sum_of-push : (v : ℕ → Bool) (xs : List ℕ) (x : ℕ) → sum_of v (xs ++ x ∷ []) ≡ differ (sum_of v xs) (v x)
unfolding sum_of
sum_of-push v xs x = sum_of-append v xs (x ∷ []) ∙ ap (λ s. differ (sum_of v xs) s) (plain (v x))
  where
    plain : (x : Bool) → differ x false ≡ x
    plain true = refl
    plain false = refl

-- the first of what is left
pub sum_of-drop : (v : ℕ → Bool) (xs : List ℕ) (i : ℕ) → i < length xs → sum_of v (drop i xs) ≡ differ (v (get_or xs i 0)) (sum_of v (drop (i + 1) xs))
unfolding sum_of
sum_of-drop v xs i lt =
    let e : drop i xs ≡ get_or xs i 0 ∷ drop (i + 1) xs = rw (add-one, drop-cons xs i 0 lt) refl in
    ap (λ (ys : List ℕ). sum_of v ys) e

-- a node goes over from the left
pub from_left : (f x a b : Bool) → differ f (differ (differ x a) b) ≡ differ (differ f x) (differ a b)
from_left true true true true = refl
from_left true true true false = refl
from_left true true false true = refl
from_left true true false false = refl
from_left true false true true = refl
from_left true false true false = refl
from_left true false false true = refl
from_left true false false false = refl
from_left false true true true = refl
from_left false true true false = refl
from_left false true false true = refl
from_left false true false false = refl
from_left false false true true = refl
from_left false false true false = refl
from_left false false false true = refl
from_left false false false false = refl

-- a node goes over from the right
pub from_right : (f x a b : Bool) → differ f (differ a (differ x b)) ≡ differ (differ f x) (differ a b)
from_right true true true true = refl
from_right true true true false = refl
from_right true true false true = refl
from_right true true false false = refl
from_right true false true true = refl
from_right true false true false = refl
from_right true false false true = refl
from_right true false false false = refl
from_right false true true true = refl
from_right false true true false = refl
from_right false true false true = refl
from_right false true false false = refl
from_right false false true true = refl
from_right false false true false = refl
from_right false false false true = refl
from_right false false false false = refl

-- a node that stands on both sides goes
pub from_both : (f x a b : Bool) → differ f (differ (differ x a) (differ x b)) ≡ differ f (differ a b)
from_both true true true true = refl
from_both true true true false = refl
from_both true true false true = refl
from_both true true false false = refl
from_both true false true true = refl
from_both true false true false = refl
from_both true false false true = refl
from_both true false false false = refl
from_both false true true true = refl
from_both false true true false = refl
from_both false true false true = refl
from_both false true false false = refl
from_both false false true true = refl
from_both false false true false = refl
from_both false false false true = refl
from_both false false false false = refl

-- what is still to come, and what was taken over, is the whole
abbrev pub Splits : List ℕ → List ℕ → List ℕ → ℕ → ℕ → Type 0
Splits nodes a b i j = (v : ℕ → Bool) → differ (sum_of v nodes) (differ (sum_of v (drop i a)) (sum_of v (drop j b))) ≡ differ (sum_of v a) (sum_of v b)

pub starts : (nodes a b : List ℕ) → nodes ≡ [] → Splits nodes a b 0 0
unfolding sum_of
starts nodes a b e v = rw e refl

pub takes_left : (nodes a b : List ℕ) (i j : ℕ) → i < length a → Splits nodes a b i j → Splits (nodes ++ get_or a i 0 ∷ []) a b (i + 1) j
takes_left nodes a b i j lt h v =
    ap (λ s. differ s (differ (sum_of v (drop (i + 1) a)) (sum_of v (drop j b)))) (sum_of-push v nodes (get_or a i 0)) ∙
    sym (from_left (sum_of v nodes) (v (get_or a i 0)) (sum_of v (drop (i + 1) a)) (sum_of v (drop j b))) ∙
    ap (λ s. differ (sum_of v nodes) (differ s (sum_of v (drop j b)))) (sym (sum_of-drop v a i lt)) ∙ h v

pub takes_right : (nodes a b : List ℕ) (i j : ℕ) → j < length b → Splits nodes a b i j → Splits (nodes ++ get_or b j 0 ∷ []) a b i (j + 1)
takes_right nodes a b i j lt h v =
    ap (λ s. differ s (differ (sum_of v (drop i a)) (sum_of v (drop (j + 1) b)))) (sum_of-push v nodes (get_or b j 0)) ∙
    sym (from_right (sum_of v nodes) (v (get_or b j 0)) (sum_of v (drop i a)) (sum_of v (drop (j + 1) b))) ∙
    ap (λ s. differ (sum_of v nodes) (differ (sum_of v (drop i a)) s)) (sym (sum_of-drop v b j lt)) ∙ h v

pub takes_none : (nodes a b : List ℕ) (i j : ℕ) → i < length a → j < length b → get_or a i 0 ≡ get_or b j 0 → Splits nodes a b i j → Splits nodes a b (i + 1) (j + 1)
takes_none nodes a b i j lt below same h v =
    sym (from_both (sum_of v nodes) (v (get_or a i 0)) (sum_of v (drop (i + 1) a)) (sum_of v (drop (j + 1) b))) ∙
    ap (λ s. differ (sum_of v nodes) (differ s (differ (v (get_or a i 0)) (sum_of v (drop (j + 1) b))))) (sym (sum_of-drop v a i lt)) ∙
    ap (λ k. differ (sum_of v nodes) (differ (sum_of v (drop i a)) (differ (v k) (sum_of v (drop (j + 1) b))))) same ∙
    ap (λ s. differ (sum_of v nodes) (differ (sum_of v (drop i a)) s)) (sym (sum_of-drop v b j below)) ∙ h v

pub ends : (nodes a b : List ℕ) (i j : ℕ) → Splits nodes a b i j → (v : ℕ → Bool) → sum_of v ((nodes ++ drop i a) ++ drop j b) ≡ differ (sum_of v a) (sum_of v b)
ends nodes a b i j h v =
    sum_of-append v (nodes ++ drop i a) (drop j b) ∙ ap (λ s. differ s (sum_of v (drop j b))) (sum_of-append v nodes (drop i a)) ∙
    assoc (sum_of v nodes) (sum_of v (drop i a)) (sum_of v (drop j b)) ∙ h v

-- the same of slices that go to the ends
pub ends_sliced : (nodes a b : List ℕ) (i j : ℕ) → Splits nodes a b i j → (v : ℕ → Bool) → sum_of v ((nodes ++ take (length a - i) (drop i a)) ++ take (length b - j) (drop j b)) ≡ differ (sum_of v a) (sum_of v b)
ends_sliced nodes a b i j h v =
    let left : take (length a - i) (drop i a) ≡ drop i a = take_all (length a - i) (drop i a) (omega (arith, length-drop i a)) in
    let right : take (length b - j) (drop j b) ≡ drop j b = take_all (length b - j) (drop j b) (omega (arith, length-drop j b)) in
    rw (left, right) (ends nodes a b i j h v)

-- a node alone
pub alone : (v : ℕ → Bool) (node : ℕ) (odd : Bool) → value_of v odd (node ∷ []) ≡ differ odd (v node)
unfolding sum_of
alone v node odd = ap (λ s. differ odd s) (plain (v node))
  where
    plain : (x : Bool) → differ x false ≡ x
    plain true = refl
    plain false = refl
