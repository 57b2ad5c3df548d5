-- Operators on pairs of vectors, where one is constant or both are one.
use Rattle.std.proofs.Common.{◌≡◌, ℕ, zero, suc, true, List, [], ◌∷◌, length, replicate, refl, ap, ◌∙◌}
use Rattle.fourvec.specs.declared.Bit.{Bit}
use Rattle.fourvec.specs.Bits.{each, each_pair, same_bit}
use Rattle.fourvec.proofs.Tables.{same_bit-true, every_bit, at_bit}

-- two functions of a bit agree, if they do at each of the four bits
pub same_on_bit : (f g : Bit → Bit) → every_bit (λ x. same_bit (f x) (g x)) ≡ true → (x : Bit) → f x ≡ g x
same_on_bit f g e x = same_bit-true (f x) (g x) (at_bit (λ y. same_bit (f y) (g y)) e x)

pub each_self : (a : List Bit) → each (λ x. x) a ≡ a
unfolding each
each_self [] = refl
each_self (x ∷ more) = ap (λ xs. x ∷ xs) (each_self more)

pub each_constant : (z : Bit) (a : List Bit) → each (λ x. z) a ≡ replicate (length a) z
unfolding each
each_constant z [] = refl
each_constant z (x ∷ more) = ap (λ xs. z ∷ xs) (each_constant z more)

pub each_same : (f g : Bit → Bit) → ((x : Bit) → f x ≡ g x) → (a : List Bit) → each f a ≡ each g a
unfolding each
each_same f g h [] = refl
each_same f g h (x ∷ more) = ap (λ y. y ∷ each f more) (h x) ∙ ap (λ xs. g x ∷ xs) (each_same f g h more)

pub each_each : (f g : Bit → Bit) (a : List Bit) → each f (each g a) ≡ each (λ x. f (g x)) a
unfolding each
each_each f g [] = refl
each_each f g (x ∷ more) = ap (λ xs. f (g x) ∷ xs) (each_each f g more)

-- the same function, twice
pub each_twice : (f g h : Bit → Bit) → ((x : Bit) → f (g x) ≡ h x) → (a : List Bit) → each f (each g a) ≡ each h a
each_twice f g h e a = each_each f g a ∙ each_same (λ x. f (g x)) h e a

pub pair_right : (f : Bit → Bit → Bit) (g : Bit → Bit) (z : Bit) → ((x : Bit) → f x z ≡ g x) → (n : ℕ) (a : List Bit) → length a ≡ n → each_pair f a (replicate n z) ≡ each g a
unfolding each each_pair
pair_right f g z h zero [] e = refl
pair_right f g z h zero (x ∷ more) e = cc
pair_right f g z h (suc n) [] e = refl
pair_right f g z h (suc n) (x ∷ more) e =
    ap (λ y. y ∷ each_pair f more (replicate n z)) (h x) ∙ ap (λ xs. g x ∷ xs) (pair_right f g z h n more cc)

pub pair_left : (f : Bit → Bit → Bit) (g : Bit → Bit) (z : Bit) → ((x : Bit) → f z x ≡ g x) → (n : ℕ) (a : List Bit) → length a ≡ n → each_pair f (replicate n z) a ≡ each g a
unfolding each each_pair
pair_left f g z h zero [] e = refl
pair_left f g z h zero (x ∷ more) e = cc
pair_left f g z h (suc n) [] e = refl
pair_left f g z h (suc n) (x ∷ more) e =
    ap (λ y. y ∷ each_pair f (replicate n z) more) (h x) ∙ ap (λ xs. g x ∷ xs) (pair_left f g z h n more cc)

pub pair_alike : (f : Bit → Bit → Bit) (g : Bit → Bit) → ((x : Bit) → f x x ≡ g x) → (a : List Bit) → each_pair f a a ≡ each g a
unfolding each each_pair
pair_alike f g h [] = refl
pair_alike f g h (x ∷ more) = ap (λ y. y ∷ each_pair f more more) (h x) ∙ ap (λ xs. g x ∷ xs) (pair_alike f g h more)

-- a pair of which the operator gives what a function never changes
pub pair_settled : (f : Bit → Bit → Bit) (g : Bit → Bit) → ((x y : Bit) → g (f x y) ≡ f x y) → (a b : List Bit) → each g (each_pair f a b) ≡ each_pair f a b
unfolding each each_pair
pair_settled f g h [] b = refl
pair_settled f g h (x ∷ more) [] = refl
pair_settled f g h (x ∷ more) (y ∷ rest) =
    ap (λ z. z ∷ each g (each_pair f more rest)) (h x y) ∙ ap (λ xs. f x y ∷ xs) (pair_settled f g h more rest)
