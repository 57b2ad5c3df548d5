-- The types `int` and `bit` where no two-state type may stand.
use Rattle.std.specs.Prelude.{◌≡◌, ◌≢◌, ℕ, ◌==◌, not, Bool, true, false, if◌then◌else◌, List, [], ◌∷◌, ◌++◌, codes, take, slice_get, Option, Some, None, Result, Ok, Err}
use Rattle.sv_outside.specs.declared.refusal.Place.{Place}
use Rattle.sv_outside.specs.declared.text.Kind.TheVariants as kind
use Rattle.sv_outside.specs.declared.text.Token.{Token}
use Rattle.sv_tree.specs.declared.design.Source.{Source}
use Rattle.sv_cursor.specs.declared.error.ParseErr.{ParseErr}
use Rattle.sv_cursor.specs.declared.error.ParseErr.TheVariants.{Memory, Syntax}
use Rattle.sv_cursor.specs.declared.sort.Keyword.{Keyword}
use Rattle.sv_cursor.specs.declared.sort.Keyword.TheVariants as key
use Rattle.sv_cursor.specs.declared.sort.Sort.{Sort}
use Rattle.sv_cursor.specs.declared.sort.Sort.TheVariants as s
use Rattle.sv_cursor.specs.Parsers.{Outcome}
use Rattle.sv_cursor.specs.Sorts.{sort}
use Rattle.sv_parser.specs.Source.{source}

abbrev pub is_two_state_word : Keyword → Bool
is_two_state_word key.Int = true
is_two_state_word key.Bit = true
is_two_state_word _ = false

abbrev pub is_two_state : Sort → Bool
is_two_state (s.Keyword word) = is_two_state_word word
is_two_state _ = false

-- the word `logic` at a place
unfoldable pub logic_at : Place → Token
logic_at place = record { kind = kind.Word; text = codes "logic"; place = place }

abbrev pub with_logic : List Token → Place → List Token
with_logic tokens place = tokens ++ logic_at place ∷ []

-- whether a refusal stands at the last token
abbrev pub is_at_last : ParseErr → Bool
is_at_last (Syntax left) = left == 1
is_at_last _ = false

abbrev pub stops_at_last : Outcome Source → Bool
stops_at_last (Ok p) = false
stops_at_last (Err refusal) = is_at_last refusal

-- Whether `logic` can be read behind the tokens.
abbrev pub takes_logic : List Token → Place → Bool
takes_logic tokens place = not (stops_at_last (source (with_logic tokens place)))

-- `int` or `bit` where `logic` can be read
abbrev pub is_two_state_at : List Token → ℕ → Option Token → Bool
is_two_state_at tokens n None = false
is_two_state_at tokens n (Some a) = if is_two_state (sort a) then takes_logic (take n tokens) a.place else false

abbrev pub is_two_state_type : List Token → ℕ → Bool
is_two_state_type tokens n = is_two_state_at tokens n (slice_get tokens n)

-- ---- what the code answers of a refusal

abbrev pub IsAtLast : {E : Type 0} → ParseErr → Result Bool E → Type 0
IsAtLast refusal (Ok b) = (refusal ≢ Memory) × (b ≡ is_at_last refusal)
IsAtLast refusal (Err e) = Unit {0}
