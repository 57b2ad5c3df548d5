-- Names stand for what was declared last.
use Rattle.std.proofs.Common.{◌≡◌, ◌≢◌, true, false, List, [], ◌∷◌, ◌++◌, ap, Some, None, cond, rules}
use Rattle.std.specs.Prelude.{bytes_eq}
use Rattle.std.proofs.lemmas.Slice.Eq.{bytes_eq-Decides}
use Rattle.sv_meaning.specs.Layouts.{Name, Entry, What, last_of, or_else}
use Rattle.sv_meaning.specs.Laws.{LastIsFound, OthersStay}

same-text : (n : Name) → bytes_eq n n ≡ true
same-text n = search (bytes_eq-Decides n n, rules)

other-text : (n m : Name) → m ≢ n → bytes_eq m n ≡ false
other-text n m h = search (bytes_eq-Decides m n, h, rules)

last-found : (n : Name) (at : List Entry) (x : What) → last_of n (at ++ (n, x) ∷ []) ≡ Some x
unfolding last_of
last-found n [] x = ap (λ b. cond b (Some x) None) (same-text n)
last-found n (e ∷ more) x = ap (λ o. or_else o (cond (bytes_eq e.0 n) (Some e.1) None)) (last-found n more x)

other-stays : (n m : Name) (at : List Entry) (x : What) → m ≢ n → last_of n (at ++ (m, x) ∷ []) ≡ last_of n at
unfolding last_of
other-stays n m [] x h = ap (λ b. cond b (Some x) None) (other-text n m h)
other-stays n m (e ∷ more) x h = ap (λ o. or_else o (cond (bytes_eq e.0 n) (Some e.1) None)) (other-stays n m more x h)

pub last_is_found : LastIsFound
last_is_found n at x = last-found n at.all x

pub others_stay : OthersStay
others_stay n m at x h = other-stays n m at.all x h
