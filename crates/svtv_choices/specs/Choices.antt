-- The choices of variables, each by a number.
use Rattle.std.specs.Prelude.{◌≡◌, ℕ, ◌+◌, ◌/◌, ◌^◌, ◌<◌, List, [], ◌∷◌}
use Rattle.std.specs.List.{All}
use Rattle.fourvec.specs.declared.Bit.{Bit}
use Rattle.fourvec.specs.Bits.{vector}
use Rattle.svtv_table.specs.Binding.{HasWidth}
use Rattle.svtv_table.specs.Stimuli.{IsChoice}
use Rattle.svtv_table.specs.declared.bound.VarDecl.{VarDecl}

-- the bits of variables
unfoldable pub bits_of : List VarDecl → ℕ
bits_of [] = 0
bits_of (v ∷ more) = v.width + bits_of more

-- the choice of a number, whose least significant bits are those of the first variable
unfoldable pub choice_of : List VarDecl → ℕ → List (List Bit)
choice_of [] n = []
choice_of (v ∷ more) n = vector v.width n ∷ choice_of more (n / 2 ^ v.width)

-- Each number has a choice, and each choice a number below 2 to the bits of the variables.
abbrev pub AreNumbered : Type 0
AreNumbered = (vars : List VarDecl) → All (λ v. HasWidth v.width) vars
    → ((n : ℕ) → IsChoice vars (choice_of vars n)) × ((choice : List (List Bit)) → IsChoice vars choice → (n : ℕ) × (n < 2 ^ bits_of vars) × (choice_of vars n ≡ choice))
