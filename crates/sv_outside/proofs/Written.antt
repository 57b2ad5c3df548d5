-- What one text after another leaves.
use Rattle.std.proofs.Common.{◌≡◌, List, ℕ, ◌++◌, Option, Some, None, refl, ap, append_assoc}
use Rattle.sv_outside.specs.Outside.{with_text}

pub with_text-twice : (known : Option (List ℕ)) (xs ys : List ℕ) → with_text (with_text known xs) ys ≡ with_text known (xs ++ ys)
with_text-twice None xs ys = refl
with_text-twice (Some so_far) xs ys = ap Some (append_assoc so_far xs ys)
