-- What is answered of a whole text.
use Rattle.std.specs.Prelude.{◌≡◌, ◌⊎◌, ℕ, ◌+◌, ◌-◌, ◌≤◌, if◌then◌else◌, List, length, take, slice_get, Result, Ok, Err}
use Rattle.sv_outside.specs.declared.refusal.Place.{Place}
use Rattle.sv_outside.specs.declared.refusal.TextErr.{TextErr}
use Rattle.sv_outside.specs.declared.refusal.TextErr.TheVariants as text_err
use Rattle.sv_outside.specs.declared.text.Token.{Token}
use Rattle.sv_tree.specs.declared.design.Source.{Source}
use Rattle.sv_tree.specs.Nesting.{IsTooDeep}
use Rattle.sv_tree.specs.NestingDesign.{source_depths}
use Rattle.sv_cursor.specs.declared.error.ParseErr.{ParseErr}
use Rattle.sv_cursor.specs.declared.error.ParseErr.TheVariants.{Memory, Syntax, TooDeep}
use Rattle.sv_cursor.specs.Refusals.{syntax_number_of, place_at, refused}
use Rattle.sv_parser.specs.Answers.{IsSpelled}
use Rattle.sv_parser.specs.Source.{source}
use Rattle.sv_parser.specs.TwoState.{is_two_state_type}

-- ---- the number of a refusal

-- 25 at `int` or `bit` where `logic` could be read, and at what is in no rule of the grammar
unfoldable pub number_at : List Token → ℕ → ℕ
number_at tokens n = if is_two_state_type tokens n then 25 else syntax_number_of (slice_get tokens n)

-- ---- answers

-- What reading says of all the tokens.
abbrev pub IsRead : List Token → Result Source ParseErr → Type 0
IsRead tokens (Ok x) = IsSpelled x tokens × ((y : Source) → IsSpelled y tokens → y ≡ x)
IsRead tokens (Err (Syntax left)) =
    (left ≤ length tokens) × (source tokens ≡ Err (Syntax left)) × ((y : Source) → IsSpelled y tokens → ⊥)
    × ((y : Source) (spelling : List Token) (m : ℕ) → IsSpelled y spelling → take m spelling ≡ take m tokens → m + left ≤ length tokens)
IsRead tokens (Err (TooDeep deep left)) = IsTooDeep IsSpelled source_depths tokens (length tokens - deep)
IsRead tokens (Err Memory) = Unit {0}

-- No tree spells the tokens, nor a text that begins with them up to the one at which reading stops.
pub record IsSyntax (tokens : List Token) (end : Place) (e : TextErr) : Type 0 where
  pub left : ℕ
  pub inside : left ≤ length tokens
  pub none : (y : Source) → IsSpelled y tokens → ⊥
  pub beyond : (y : Source) (spelling : List Token) (m : ℕ) → IsSpelled y spelling → take m spelling ≡ take m tokens → m + left ≤ length tokens
  pub stops : source tokens ≡ Err (Syntax left)
  pub is : e ≡ refused (number_at tokens (length tokens - left)) (place_at tokens end (length tokens - left))

-- Nesting exceeds the limit at a token.
pub record IsDeep (tokens : List Token) (end : Place) (e : TextErr) : Type 0 where
  pub number : ℕ
  pub deep : IsTooDeep IsSpelled source_depths tokens number
  pub is : e ≡ refused 9 (place_at tokens end number)

-- An answer: the one tree that the tokens spell.
abbrev pub IsParsed : List Token → Place → Result Source TextErr → Type 0
IsParsed tokens end (Ok x) = IsSpelled x tokens × ((y : Source) → IsSpelled y tokens → y ≡ x)
IsParsed tokens end (Err text_err.Memory) = Unit {0}
IsParsed tokens end (Err (text_err.No r)) = IsSyntax tokens end (text_err.No r) ⊎ IsDeep tokens end (text_err.No r)
