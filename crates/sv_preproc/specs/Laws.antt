-- Contents that are told by name.
use Rattle.std.specs.Prelude.{◌≡◌, ℕ, List, Option, Some, IfSome}
use Rattle.sv_outside.specs.Text.{TokenList}
use Rattle.sv_preproc.specs.Directives.{Contents, State, IsText}

-- the text that is told of the name
abbrev pub Told : (List ℕ → Option (List ℕ)) → Contents
Told told name text = told name ≡ Some text

-- a text that the name may have, by what is told
abbrev pub Possible : (List ℕ → Option (List ℕ)) → Contents
Possible told name text = IfSome (told name) (λ own. text ≡ own)

-- one list at most
abbrev pub HasOne : Contents → List ℕ → Type 0
HasOne C main = (a b : TokenList) (s t : State) → IsText C main a s → IsText C main b t → a ≡ b
