-- Numbers and places of refusals.
use Rattle.std.specs.Prelude.{ℕ, Bool, true, false, if◌then◌else◌, List, codes, slice_get, Option, Some, None}
use Rattle.std.specs.Str.{bytes_eq}
use Rattle.sv_outside.specs.declared.refusal.Place.{Place}
use Rattle.sv_outside.specs.declared.refusal.TextErr.{TextErr}
use Rattle.sv_outside.specs.declared.refusal.TextErr.TheVariants as text_err
use Rattle.sv_outside.specs.declared.text.Kind.{Kind}
use Rattle.sv_outside.specs.declared.text.Kind.TheVariants as k
use Rattle.sv_outside.specs.declared.text.Token.{Token}
use Rattle.sv_cursor.specs.declared.sort.Sort.{Sort}
use Rattle.sv_cursor.specs.declared.sort.Sort.TheVariants as s
use Rattle.sv_cursor.specs.Sorts.{sort}

abbrev pub place_of : Place → Option Token → Place
place_of end None = end
place_of end (Some a) = a.place

-- the place of the token with that number, and of the end behind the last
abbrev pub place_at : List Token → Place → ℕ → Place
place_at tokens end n = place_of end (slice_get tokens n)

-- the operators on unknown bits that the tool does not take (IEEE 1800-2017, 11.4.5 and 11.4.6)
unfoldable pub is_listed_mark : List ℕ → Bool
is_listed_mark text =
    if bytes_eq text (codes "===") then true else (if bytes_eq text (codes "!==") then true else (if bytes_eq text (codes "==?") then true else bytes_eq text (codes "!=?")))

abbrev pub is_other : Sort → Bool
is_other s.Other = true
is_other _ = false

-- A word that is reserved and in no rule of the grammar, one of these operators, or a system name that the grammar does not have.
abbrev pub is_listed_by : Kind → List ℕ → Sort → Bool
is_listed_by k.Word text x = is_other x
is_listed_by k.System text x = is_other x
is_listed_by k.Mark text x = is_listed_mark text
is_listed_by _ text x = false

abbrev pub is_listed : Token → Bool
is_listed a = is_listed_by a.kind a.text (sort a)

abbrev pub syntax_number_of : Option Token → ℕ
syntax_number_of None = 8
syntax_number_of (Some a) = if is_listed a then 25 else 8

abbrev pub refused : ℕ → Place → TextErr
refused number place = text_err.No (record { number = number; place = place; count = 0 })
