-- Parities, in halves.
use Rattle.std.proofs.Common.{◌≡◌, ℕ, ◌-◌, Bool, true, false, List, [], ◌∷◌, ◌++◌, length, get_or, take, drop, refl, sym, ap, ◌∙◌, arith}
use Rattle.std.proofs.lemmas.List.{take-append-drop, take_all, length-drop}
use Rattle.aig.specs.declared.gate.Lit.{Lit}
use Rattle.aig.specs.Graph.{holds}
use Rattle.aig_words.specs.Words.{differ, parity_of}

pub differ_apart : (x y z : Bool) → differ (differ x y) z ≡ differ x (differ y z)
differ_apart true true true = refl
differ_apart true true false = refl
differ_apart true false z = refl
differ_apart false y z = refl

pub differ_none : (x : Bool) → differ x false ≡ x
differ_none true = refl
differ_none false = refl

parity-append : (v : ℕ → Bool) (xs ys : List Lit) → parity_of v (xs ++ ys) ≡ differ (parity_of v xs) (parity_of v ys)
unfolding parity_of
parity-append v [] ys = refl
parity-append v (l ∷ xs) ys = ap (λ (t : Bool). differ (holds v l) t) (parity-append v xs ys) ∙ sym (differ_apart (holds v l) (parity_of v xs) (parity_of v ys))

-- one literal
pub parity_one : (v : ℕ → Bool) (a : List Lit) (d : Lit) → length a ≡ 1 → holds v (get_or a 0 d) ≡ parity_of v a
unfolding parity_of
parity_one v [] d e = absurd (omega (arith, e))
parity_one v (l ∷ []) d e = sym (differ_none (holds v l))
parity_one v (l ∷ m ∷ a) d e = absurd (omega (arith, e))

-- both halves
pub parity_both : (v : ℕ → Bool) (a : List Lit) (h : ℕ) (x y z : Bool) → z ≡ differ x y → x ≡ parity_of v (take h a) → y ≡ parity_of v (drop h a) → z ≡ parity_of v a
parity_both v a h x y z e first second =
    e ∙
    ap (λ (t : Bool). differ t y) first ∙
    ap (λ (t : Bool). differ (parity_of v (take h a)) t) second ∙
    sym (parity-append v (take h a) (drop h a)) ∙
    ap (λ (t : List Lit). parity_of v t) (take-append-drop h a)

-- what is behind a place, to its end
pub behind_whole : (h : ℕ) (a : List Lit) → take (length a - h) (drop h a) ≡ drop h a
behind_whole h a = take_all (length a - h) (drop h a) (let e : length (drop h a) ≡ length a - h = length-drop h a in omega (arith, e))
