-- Lists of elements that have a property.
use Rattle.std.proofs.Common.{◌≡◌, ℕ, zero, suc, ◌+◌, ◌<◌, List, [], ◌∷◌, ◌++◌, length, map, take, drop, get_or, refl, sym, ap, ◌∙◌, arith}
use Rattle.std.specs.List.{All, Contains}
use Rattle.std.proofs.Math.Seq.{drop-nil}
use Rattle.std.proofs.lemmas.List.Elements.{All-nil, All-cons, All-head, All-tail}

pub left_all : {A : Type 0} (P : A → Type 0) (a b : List A) → All P (a ++ b) → All P a
left_all P [] b h = All-nil P
left_all P (x ∷ a) b h = All-cons P x a (All-head P x (a ++ b) h) (left_all P a b (All-tail P x (a ++ b) h))

pub right_all : {A : Type 0} (P : A → Type 0) (a b : List A) → All P (a ++ b) → All P b
right_all P [] b h = h
right_all P (x ∷ a) b h = right_all P a b (All-tail P x (a ++ b) h)

pub drop_drop : {A : Type 0} (b a : ℕ) (v : List A) → drop a (drop b v) ≡ drop (b + a) v
drop_drop zero a v = let e : zero + a ≡ a = omega arith in ap (λ n. drop n v) (sym e)
drop_drop (suc b) a [] = drop-nil a ∙ sym (drop-nil (suc b + a))
drop_drop (suc b) a (x ∷ v) = drop_drop b a v ∙ (let e : suc b + a ≡ suc (b + a) = omega arith in ap (λ n. drop n (x ∷ v)) (sym e))

pub contains_map : {A B : Type 0} (f : A → B) (xs : List A) (i : ℕ) (x : A) → i < length xs → x ≡ get_or xs i x → Contains (map f xs) (f x)
contains_map f [] i x l e = absurd (omega arith)
contains_map f (y ∷ xs) zero x l e = (0, omega arith, ap f (sym e))
contains_map f (y ∷ xs) (suc i) x l e = let r = contains_map f xs i x (omega arith) e in (suc r.0, (let a = r.1 in omega arith), r.2)

pub map_twice : {A B C : Type 0} (f : B → C) (g : A → B) (xs : List A) → map f (map g xs) ≡ map (λ x. f (g x)) xs
map_twice f g [] = refl
map_twice f g (x ∷ xs) = ap (λ ys. f (g x) ∷ ys) (map_twice f g xs)

pub split_map : {A B : Type 0} (f : A → B) (xs : List A) (i : ℕ) (x : A) → i < length xs → x ≡ get_or xs i x → map f xs ≡ map f (take i xs) ++ f x ∷ map f (drop (suc i) xs)
split_map f [] i x l e = absurd (omega arith)
split_map f (y ∷ xs) zero x l e = ap (λ z. f z ∷ map f xs) (sym e)
split_map f (y ∷ xs) (suc i) x l e = ap (λ ys. f y ∷ ys) (split_map f xs i x (omega arith) e)
