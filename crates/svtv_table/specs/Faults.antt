-- The faults of a text, in its order, of which a call refuses by the first.
use Rattle.std.specs.Prelude.{◌≡◌, ◌+◌, ℕ, Bool, List, [], ◌∷◌, ◌++◌, Option, Some, None, if◌then◌else◌}
use Rattle.svtv_table.specs.Fields.{IsRecords}
use Rattle.sv_outside.specs.declared.refusal.Refusal.{Refusal}
use Rattle.sv_outside.specs.declared.refusal.TextErr.{TextErr}
use Rattle.sv_outside.specs.declared.refusal.TextErr.TheVariants.{No, Memory}

-- a reason by its number, at a record and one of its fields, both counted from 1
abbrev pub fault : ℕ → ℕ → ℕ → Refusal
fault number line column = record { number = number; place = record { file = 0; line = line; column = column }; count = 0 }

-- the fault, where the test holds
abbrev pub fault_if : Bool → Refusal → List Refusal
fault_if holds refusal = if holds then refusal ∷ [] else []

-- what f gives for each element at its place, in order; the first stands at `place`
abbrev pub at_each : {A B : Type 0} → (ℕ → A → List B) → ℕ → List A → List B
at_each f place [] = []
at_each f place (x ∷ xs) = f place x ++ at_each f (place + 1) xs

abbrev pub first_of : List Refusal → Option Refusal
first_of [] = None
first_of (refusal ∷ more) = Some refusal

-- an error refuses by the first of the faults; want of memory says nothing
unfoldable pub Stops : List Refusal → TextErr → Type 0
Stops faults (No refusal) = first_of faults ≡ Some refusal
Stops faults Memory = Unit {0}

-- an error refuses by the first of the faults of the text's records
abbrev pub StopsText : (List (List (List ℕ)) → List Refusal) → List ℕ → TextErr → Type 0
StopsText faults text (No refusal) = (rows : List (List (List ℕ))) × IsRecords text rows × (first_of (faults rows) ≡ Some refusal)
StopsText faults text Memory = Unit {0}
