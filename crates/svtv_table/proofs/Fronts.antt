-- What a loop has made of the front of a list, one element more.
use Rattle.std.proofs.Common.{◌≡◌, ℕ, ◌+◌, ◌<◌, List, [], ◌∷◌, ◌++◌, length, map, take, get_or, sym, ap, ◌∙◌, arith}
use Rattle.std.proofs.lemmas.List.{length-map, length-take-le, map-append, take_more}

map_more : {A B : Type 0} (f : A → B) (all : List A) (i : ℕ) (d : A) → i < length all → map f (take (i + 1) all) ≡ map f (take i all) ++ f (get_or all i d) ∷ []
map_more f all i d h = ap (map f) (take_more all i d h) ∙ map-append f (take i all) (get_or all i d ∷ [])

pub front_next : {A B : Type 0} (f : A → B) (all : List A) (i : ℕ) (x : A) (y : B) → i < length all → x ≡ get_or all i x → y ≡ f x → map f (take i all) ++ y ∷ [] ≡ map f (take (i + 1) all)
front_next f all i x y h e g = ap (λ (z : _). map f (take i all) ++ z ∷ []) (g ∙ ap f e) ∙ sym (map_more f all i x h)

-- where each element gives the same
pub front_same : {A B : Type 0} (f : A → B) (all : List A) (i : ℕ) (y : B) → i < length all → ((x : A) → y ≡ f x) → map f (take i all) ++ y ∷ [] ≡ map f (take (i + 1) all)
front_same f [] i y h g = absurd (omega arith)
front_same f (x ∷ all) i y h g = ap (λ (z : _). map f (take i (x ∷ all)) ++ z ∷ []) (g (get_or (x ∷ all) i x)) ∙ sym (map_more f (x ∷ all) i x h)

pub front_long : {A B : Type 0} (f : A → B) (all : List A) (i : ℕ) → i < length all → i ≡ length (map f (take i all))
front_long f all i h = sym (length-map (take i all) f ∙ length-take-le i all (omega arith))
