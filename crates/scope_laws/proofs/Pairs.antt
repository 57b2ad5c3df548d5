-- A relation that holds of each element of a list and each later one.
use Rattle.std.proofs.Common.{suc, List, [], ◌∷◌, ◌++◌, arith}
use Rattle.std.specs.Prelude.{All, AllPairs}
use Rattle.std.proofs.lemmas.List.Elements.{All-nil, All-cons, All-head, All-tail, All-append}
use Rattle.std.proofs.lemmas.List.Kept.{AllPairs-cons}

pub pairs_head : {X : Type 0} (R : X → X → Type 0) (x : X) (xs : List X) → AllPairs R (x ∷ xs) → All (R x) xs
pairs_head R x xs h = λ j d lt. h 0 (suc j) d (omega arith) (omega (arith, lt))

pub pairs_tail : {X : Type 0} (R : X → X → Type 0) (x : X) (xs : List X) → AllPairs R (x ∷ xs) → AllPairs R xs
pairs_tail R x xs h = λ i j d lt within. h (suc i) (suc j) d (omega (arith, lt)) (omega (arith, within))

pub pairs_none : {X : Type 0} (R : X → X → Type 0) → AllPairs R []
pairs_none R = λ i j d lt within. absurd (omega (arith, within))

pub pairs_both : {X : Type 0} (R : X → X → Type 0) (a b : List X) → AllPairs R a → AllPairs R b → All (λ x. All (R x) b) a → AllPairs R (a ++ b)
pairs_both R [] b f g h = g
pairs_both R (x ∷ a) b f g h =
    AllPairs-cons R x (a ++ b) (All-append (R x) a b (pairs_head R x a f) (All-head (λ y. All (R y) b) x a h)) (pairs_both R a b (pairs_tail R x a f) g (All-tail (λ y. All (R y) b) x a h))

pub pairs_cross : {X : Type 0} (R : X → X → Type 0) (a b : List X) → AllPairs R (a ++ b) → All (λ x. All (R x) b) a
pairs_cross R [] b h = All-nil (λ x. All (R x) b)
pairs_cross R (x ∷ a) b h = All-cons (λ y. All (R y) b) x a (right_of_both (R x) a b (pairs_head R x (a ++ b) h)) (pairs_cross R a b (pairs_tail R x (a ++ b) h))
  where
    right_of_both : {X : Type 0} (P : X → Type 0) (a b : List X) → All P (a ++ b) → All P b
    right_of_both P [] b h = h
    right_of_both P (x ∷ a) b h = right_of_both P a b (All-tail P x (a ++ b) h)
