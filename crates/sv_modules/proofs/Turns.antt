-- Lists that a loop goes through.
use Rattle.std.proofs.Common.{◌≡◌, ℕ, zero, suc, ◌+◌, ◌<◌, ◌≤◌, List, [], ◌∷◌, ◌++◌, length, take, drop, get_or, map, refl, sym, ap, ◌∙◌, arith}
use Rattle.std.proofs.lemmas.List.{map-append}
use Rattle.std.proofs.Math.Seq.{take-suc, drop-cons, drop-nil}

pub take_next : {A : Type 0} (all : List A) (i : ℕ) (x : A) → i < length all → x ≡ get_or all i x → take (i + 1) all ≡ take i all ++ x ∷ []
take_next all i x h e = let n : i + 1 ≡ suc i = omega arith in ap (λ (k : ℕ). take k all) n ∙ take-suc all i x h ∙ ap (λ y. take i all ++ y ∷ []) (sym e)

pub drop_next : {A : Type 0} (all : List A) (i : ℕ) (x : A) → i < length all → x ≡ get_or all i x → drop i all ≡ x ∷ drop (i + 1) all
drop_next all i x h e = let n : suc i ≡ i + 1 = omega arith in drop-cons all i x h ∙ ap (λ (k : ℕ). get_or all i x ∷ drop k all) n ∙ ap (λ y. y ∷ drop (i + 1) all) (sym e)

pub drop_none : {A : Type 0} (all : List A) (i : ℕ) → length all ≤ i → drop i all ≡ []
drop_none [] i h = drop-nil i
drop_none (x ∷ all) zero h = absurd (omega arith)
drop_none (x ∷ all) (suc i) h = drop_none all i (omega arith)

pub map_next : {A B : Type 0} (f : A → B) (all : List A) (i : ℕ) (x : A) → i < length all → x ≡ get_or all i x → map f (take (i + 1) all) ≡ map f (take i all) ++ f x ∷ []
map_next f all i x h e = ap (map f) (take_next all i x h e) ∙ map-append f (take i all) (x ∷ [])

pub get_map : {A B : Type 0} (f : A → B) (all : List A) (i : ℕ) (x : A) → get_or (map f all) i (f x) ≡ f (get_or all i x)
get_map f [] i x = refl
get_map f (y ∷ all) zero x = refl
get_map f (y ∷ all) (suc i) x = get_map f all i x
