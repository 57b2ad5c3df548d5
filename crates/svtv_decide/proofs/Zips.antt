-- Nodes in the order of what they stand for: what holds of all of the ones holds of all of the others.
use Rattle.std.proofs.Common.{List, [], ◌∷◌}
use Rattle.std.specs.List.{All, AllZip}
use Rattle.std.proofs.lemmas.List.Elements.{All-head, All-tail, All-cons, All-nil}

pub all_left : {A B : Type 0} (R : A → B → Type 0) (P : A → Type 0) (Q : B → Type 0) → ((x : A) (y : B) → R x y → Q y → P x) → (xs : List A) (ys : List B) → AllZip R xs ys → All Q ys → All P xs
all_left R P Q f [] [] z h = All-nil P
all_left R P Q f [] (y ∷ ys) z h = absurd z
all_left R P Q f (x ∷ xs) [] z h = absurd z
all_left R P Q f (x ∷ xs) (y ∷ ys) z h = All-cons P x xs (f x y z.0 (All-head Q y ys h)) (all_left R P Q f xs ys z.1 (All-tail Q y ys h))

pub all_right : {A B : Type 0} (R : A → B → Type 0) (P : A → Type 0) (Q : B → Type 0) → ((x : A) (y : B) → R x y → P x → Q y) → (xs : List A) (ys : List B) → AllZip R xs ys → All P xs → All Q ys
all_right R P Q f [] [] z h = All-nil Q
all_right R P Q f [] (y ∷ ys) z h = absurd z
all_right R P Q f (x ∷ xs) [] z h = absurd z
all_right R P Q f (x ∷ xs) (y ∷ ys) z h = All-cons Q y ys (f x y z.0 (All-head P x xs h)) (all_right R P Q f xs ys z.1 (All-tail P x xs h))
