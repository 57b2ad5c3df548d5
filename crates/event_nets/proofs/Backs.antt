-- A vector that was changed as a slice, and lists of gifts with one more.
use Rattle.std.proofs.Common.{◌≡◌, ℕ, List, [], ◌∷◌, ◌++◌, length, take, drop, ap, ◌∙◌, arith, Vec, Global}
use Rattle.std.proofs.lemmas.List.{append-nil, drop_all, map-append, take_all}
use Rattle.event_nets.specs.declared.gift.Gift.{Gift}
use Rattle.event_nets.specs.Needs.{gift_rows}

pub slice_back : {A : Type 0} → (n : ℕ) (new items was : List A) → n ≡ length items → length new ≡ length was → was ≡ items → take n (new ++ drop (length new) items) ≡ new
slice_back n new items was e same is =
    let l : length new ≡ length items = same ∙ ap length is in
    ap (λ r. take n (new ++ r)) (drop_all (length new) items (omega arith)) ∙ ap (take n) (append-nil new) ∙ take_all n new (omega arith)

-- one more list, which is empty
pub gift_rows-push : (given : List (Vec Gift Global)) (v : Vec Gift Global) → v.items ≡ [] → gift_rows (given ++ v ∷ []) ≡ gift_rows given ++ [] ∷ []
gift_rows-push given v is = map-append (λ v. v.items) given (v ∷ []) ∙ ap (λ (row : List Gift). gift_rows given ++ row ∷ []) is
