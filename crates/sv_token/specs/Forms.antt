-- The forms of tokens (IEEE 1800-2017, clause 5): tests on a whole text. Words and literals have theirs in sv_outside.
use Rattle.std.specs.Prelude.{◌==◌, ◌&&◌, ◌||◌, not, ℕ, Bool, false, List, [], ◌∷◌, Option, Some, None, codes, if◌then◌else◌}
use Rattle.std.specs.List.{list_any}
use Rattle.std.specs.Str.{bytes_eq}
use Rattle.sv_outside.specs.Words.{is_within, is_word}
use Rattle.sv_outside.specs.Literals.{behind_mark, is_literal}
use Rattle.sv_outside.specs.declared.text.Kind.{Kind}
use Rattle.sv_outside.specs.declared.text.Kind.TheVariants as kind

-- ---- bytes

-- tab, line feed, carriage return and blank (5.3)
abbrev pub is_blank : ℕ → Bool
is_blank b = (b == 9) || (b == 10) || (b == 13) || (b == 32)

-- what may stand outside comments and quoted texts: these and the printed bytes
abbrev pub may_stand : ℕ → Bool
may_stand b = (b == 9) || (b == 10) || (b == 13) || is_within 32 126 b

-- ---- forms

-- `$` and a word (5.6.3)
abbrev pub is_system : List ℕ → Bool
is_system = behind_mark 36 is_word

-- a backtick and a word (5.6.4)
abbrev pub is_directive : List ℕ → Bool
is_directive = behind_mark 96 is_word

-- Up to a `"` at the end and nowhere before it, in one line; a backslash takes the next byte along (5.9).
abbrev pub is_body : List ℕ → Bool
is_body [] = false
is_body (b ∷ []) = b == 34
is_body (b ∷ c ∷ bs) = if b == 34 then false else if b == 10 then false else if b == 92 then (not (c == 10) && is_body bs) else is_body (c ∷ bs)

-- `"` and such a text (5.9)
abbrev pub is_quoted : List ℕ → Bool
is_quoted = behind_mark 34 is_body

-- marks of one byte (5.5 and Annex A)
abbrev pub singles : List ℕ
singles = codes "()[]{}.,;:?@#'=+-*/%&|^~!<>"

-- the same in groups
abbrev pub brackets : List ℕ
brackets = codes "()[]{}"

abbrev pub separators : List ℕ
separators = codes ".,;:?@#'="

abbrev pub operators : List ℕ
operators = codes "+-*/%&|^~!<>"

-- marks of two bytes, in groups (11.3, 11.5)
abbrev pub counting : List (List ℕ)
counting = codes "++" ∷ codes "--" ∷ codes "+=" ∷ codes "-=" ∷ codes "**" ∷ []

abbrev pub comparing : List (List ℕ)
comparing = codes "==" ∷ codes "!=" ∷ codes "<=" ∷ codes ">=" ∷ codes "<<" ∷ codes ">>" ∷ []

abbrev pub joining : List (List ℕ)
joining = codes "&&" ∷ codes "||" ∷ codes "~&" ∷ codes "~|" ∷ codes "~^" ∷ codes "^~" ∷ []

abbrev pub pointing : List (List ℕ)
pointing = codes "->" ∷ codes "+:" ∷ codes "-:" ∷ []

-- marks of three bytes (11.3)
abbrev pub triples : List (List ℕ)
triples = codes "===" ∷ codes "!==" ∷ codes "==?" ∷ codes "!=?" ∷ codes "<<<" ∷ codes ">>>" ∷ codes "<->" ∷ []

-- an operator or a punctuation mark
abbrev pub is_mark : List ℕ → Bool
is_mark [] = false
is_mark (a ∷ []) = list_any (λ k. a == k) singles
is_mark (a ∷ b ∷ []) = list_any (bytes_eq (a ∷ b ∷ [])) counting || list_any (bytes_eq (a ∷ b ∷ [])) comparing
    || list_any (bytes_eq (a ∷ b ∷ [])) joining || list_any (bytes_eq (a ∷ b ∷ [])) pointing
is_mark (a ∷ b ∷ c ∷ []) = list_any (bytes_eq (a ∷ b ∷ c ∷ [])) triples
is_mark (a ∷ b ∷ c ∷ d ∷ bs) = false

-- the kind of the token that a whole text is; no text has two of these forms
unfoldable pub kind_of : List ℕ → Option Kind
kind_of t =
    if is_word t then Some kind.Word
    else if is_system t then Some kind.System
    else if is_literal t then Some kind.Literal
    else if is_quoted t then Some kind.Quoted
    else if is_directive t then Some kind.Directive
    else if is_mark t then Some kind.Mark
    else None

-- A backslash directly before a line end, which is not a part of it (22.5.1). A carriage return before a line feed belongs to the line end.
abbrev pub is_continue : List ℕ → Bool
is_continue [] = false
is_continue (b ∷ []) = false
is_continue (b ∷ c ∷ []) = (b == 92) && (c == 10)
is_continue (b ∷ c ∷ d ∷ bs) = (b == 92) && ((c == 10) || ((c == 13) && (d == 10)))
