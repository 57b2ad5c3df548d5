-- Names of files.
use Rattle.std.proofs.Common.{◌≡◌, ℕ, List, [], ◌∷◌, ◌++◌, refl, ◌∙◌, ap}
use Rattle.sv_preproc.specs.Roles.{without_last}

pub without_none : (xs : List ℕ) → xs ≡ [] → without_last xs ≡ xs
unfolding without_last
without_none xs e = rw e refl

last_gone : (xs : List ℕ) (x : ℕ) → without_last (xs ++ x ∷ []) ≡ xs
unfolding without_last
last_gone [] x = refl
last_gone (b ∷ []) x = refl
last_gone (b ∷ c ∷ xs) x = ap (λ i. b ∷ i) (last_gone (c ∷ xs) x)

pub without_last_of : (text xs : List ℕ) (x : ℕ) → text ≡ xs ++ x ∷ [] → without_last text ≡ xs
without_last_of text xs x e = ap without_last e ∙ last_gone xs x
