-- Places of names in a list.
use Rattle.std.proofs.Common.{◌≡◌, ◌<◌, ◌≤◌, ◌+◌, ◌-◌, ℕ, suc, List, [], ◌∷◌, length, get_or, Option, Some, Bool, true, false, cond, ◌||◌, refl, sym, ◌∙◌, ap, subst, arith}
use Rattle.std.specs.List.{position_from, list_any}
use Rattle.std.specs.Str.{bytes_eq}
use Rattle.std.specs.Cmp.Lexicographic.{bytes_decides}
use Rattle.std.specs.Prelude.{IfSome, is_some, map}
use Rattle.name_index.specs.Indexing.{place_of}
use Rattle.name_index.proofs.Indexes.{place_within}
pub use Rattle.name_index.proofs.Indexes.{some_from}

any_from : {A : Type 0} (p : List ℕ → Bool) (f : A → List ℕ) (n : ℕ) (xs : List A) → is_some (position_from p n (map f xs)) ≡ list_any (λ x. p (f x)) xs
any_from p f n [] = refl
any_from p f n (x ∷ xs) = any_here (p (f x)) n (position_from p (n + 1) (map f xs)) ∙ ap (λ b. p (f x) || b) (any_from p f (n + 1) xs)
  where
    any_here : (b : Bool) (n : ℕ) (o : Option ℕ) → is_some (cond b (Some n) o) ≡ (b || is_some o)
    any_here true n o = refl
    any_here false n o = refl

-- a name has a place where it is one of them
pub is_placed : {A : Type 0} (f : A → List ℕ) (xs : List A) (name : List ℕ) → is_some (place_of (map f xs) name) ≡ list_any (λ x. bytes_eq name (f x)) xs
unfolding place_of
is_placed f xs name = any_from (bytes_eq name) f 0 xs

from_start : {A : Type 0} (p : A → Bool) (n i : ℕ) (xs : List A) → position_from p n xs ≡ Some i → n ≤ i
from_start p n i [] h = cc
from_start p n i (x ∷ xs) h = by_case (p x) (position_from p (n + 1) xs) (from_start p (n + 1) i xs) h
  where
    by_case : (b : Bool) (o : Option ℕ) → (o ≡ Some i → n + 1 ≤ i) → cond b (Some n) o ≡ Some i → n ≤ i
    by_case true o f h = let e : n ≡ i = cc in omega arith
    by_case false o f h = let l : n + 1 ≤ i = f h in omega arith

one_place : (a b : List ℕ) (n i : ℕ) (names : List (List ℕ)) → position_from (bytes_eq a) n names ≡ Some i → position_from (bytes_eq b) n names ≡ Some i → a ≡ b
one_place a b n i [] h k = cc
one_place a b n i (x ∷ xs) h k = by_case (bytes_eq a x) (bytes_eq b x) refl refl (position_from (bytes_eq a) (n + 1) xs) (position_from (bytes_eq b) (n + 1) xs)
    (from_start (bytes_eq a) (n + 1) i xs) (from_start (bytes_eq b) (n + 1) i xs) (one_place a b (n + 1) i xs) h k
  where
    by_case : (p q : Bool) → bytes_eq a x ≡ p → bytes_eq b x ≡ q → (o r : Option ℕ) → (o ≡ Some i → n + 1 ≤ i) → (r ≡ Some i → n + 1 ≤ i) → (o ≡ Some i → r ≡ Some i → a ≡ b)
        → cond p (Some n) o ≡ Some i → cond q (Some n) r ≡ Some i → a ≡ b
    by_case true true e f o r l m g h k = (bytes_decides a x).0 e ∙ sym ((bytes_decides b x).0 f)
    by_case true false e f o r l m g h k = let s : n ≡ i = cc in let t : n + 1 ≤ i = m k in absurd (omega arith)
    by_case false true e f o r l m g h k = let s : n ≡ i = cc in let t : n + 1 ≤ i = l h in absurd (omega arith)
    by_case false false e f o r l m g h k = g h k

-- names that have one place are one
pub same_place : (names : List (List ℕ)) (a b : List ℕ) (i : ℕ) → place_of names a ≡ Some i → place_of names b ≡ Some i → a ≡ b
unfolding place_of
same_place names a b i h k = one_place a b 0 i names h k

at_place : (a : List ℕ) (n i : ℕ) (names : List (List ℕ)) (d : List ℕ) → position_from (bytes_eq a) n names ≡ Some i → get_or names (i - n) d ≡ a
at_place a n i [] d h = cc
at_place a n i (x ∷ xs) d h = by_case (bytes_eq a x) refl (position_from (bytes_eq a) (n + 1) xs) (from_start (bytes_eq a) (n + 1) i xs) (at_place a (n + 1) i xs d) h
  where
    by_case : (b : Bool) → bytes_eq a x ≡ b → (o : Option ℕ) → (o ≡ Some i → n + 1 ≤ i) → (o ≡ Some i → get_or xs (i - (n + 1)) d ≡ a) → cond b (Some n) o ≡ Some i → get_or (x ∷ xs) (i - n) d ≡ a
    by_case true e o l f h = let s : n ≡ i = cc in let z : i - n ≡ 0 = omega arith in rw z (sym ((bytes_decides a x).0 e))
    by_case false e o l f h = let m : n + 1 ≤ i = l h in let z : i - n ≡ suc (i - (n + 1)) = omega arith in rw z (f h)

-- the name at its place
pub name_there : (names : List (List ℕ)) (name : List ℕ) (i : ℕ) (d : List ℕ) → place_of names name ≡ Some i → get_or names i d ≡ name
unfolding place_of
name_there names name i d h = let z : i - 0 ≡ i = omega arith in subst (λ j. get_or names j d ≡ name) z (at_place name 0 i names d h)

pub within_from : (names : List (List ℕ)) (name : List ℕ) (i : ℕ) → place_of names name ≡ Some i → i < length names
within_from names name i h = subst (λ o. IfSome o (λ k. k < length names)) h (place_within names name)
