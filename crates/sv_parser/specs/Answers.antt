-- What an answer says of the texts that the tokens spell.
use Rattle.std.specs.Prelude.{◌≡◌, ℕ, ◌+◌, ◌-◌, ◌≤◌, List, [], length, take, Ok, Err}
use Rattle.sv_outside.specs.declared.text.Token.{Token}
use Rattle.sv_tree.specs.declared.design.Source.{Source}
use Rattle.sv_tree.specs.GrammarDesign.{SpellsSource}
use Rattle.sv_tree.specs.Nesting.{IsTooDeep}
use Rattle.sv_tree.specs.NestingDesign.{source_depths}
use Rattle.sv_cursor.specs.declared.error.ParseErr.TheVariants.{Memory, Syntax, TooDeep}
use Rattle.sv_cursor.specs.Parsers.{Outcome}

-- all of the tokens spell the tree
abbrev pub IsSpelled : Source → List Token → Type 0
IsSpelled x tokens = SpellsSource x tokens []

-- An answer: the one tree that the tokens spell. Where the syntax is refused, no tree spells the tokens, and none a text that begins with the
-- tokens up to the one at which reading stops, so many from the end. Where nesting is refused, it exceeds the limit.
abbrev pub Decides : List Token → Outcome Source → Type 0
Decides i (Ok p) = IsSpelled p.0 i × (p.1 ≡ []) × ((y : Source) → IsSpelled y i → y ≡ p.0)
Decides i (Err (Syntax left)) =
    (left ≤ length i) × ((y : Source) → IsSpelled y i → ⊥) × ((y : Source) (spelling : List Token) (m : ℕ) → IsSpelled y spelling → take m spelling ≡ take m i → m + left ≤ length i)
Decides i (Err (TooDeep deep left)) = IsTooDeep IsSpelled source_depths i (length i - deep)
Decides i (Err Memory) = ⊥
