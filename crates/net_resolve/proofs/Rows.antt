-- What is given to each class is gathered.
use Rattle.std.proofs.Common.{◌≡◌, List, [], ◌∷◌, ◌++◌, ap, ◌∙◌, Vec, Global}
use Rattle.std.proofs.lemmas.List.{map-append}
use Rattle.event_nets.specs.declared.gift.Gift.{Gift}
use Rattle.event_nets.specs.Needs.{gift_rows}

-- one more list, which is empty
pub gift_rows-push : (given : List (Vec Gift Global)) (v : Vec Gift Global) → v.items ≡ [] → gift_rows (given ++ v ∷ []) ≡ gift_rows given ++ [] ∷ []
gift_rows-push given v is = map-append (λ v. v.items) given (v ∷ []) ∙ ap (λ (row : List Gift). gift_rows given ++ row ∷ []) is
