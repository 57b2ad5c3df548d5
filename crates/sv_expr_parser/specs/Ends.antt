-- Where an expression can end: behind a token that ends operands, with no bracket open and no `?` without its `:`.
use Rattle.std.specs.Prelude.{◌≡◌, ◌==◌, ℕ, ◌+◌, ◌-◌, Bool, true, false, if◌then◌else◌, List, [], ◌∷◌, take}
use Rattle.sv_outside.specs.declared.text.Token.{Token}
use Rattle.sv_cursor.specs.declared.sort.Mark.{Mark as MarkName}
use Rattle.sv_cursor.specs.declared.sort.Mark.TheVariants as m
use Rattle.sv_cursor.specs.declared.sort.Sort.{Sort}
use Rattle.sv_cursor.specs.declared.sort.Sort.TheVariants as s
use Rattle.sv_cursor.specs.Sorts.{sort}
use Rattle.sv_expr_parser.specs.declared.ends.Open.{Open}

abbrev pub nothing_open : Open
nothing_open = record { brackets = 0; questions = 0; ends = false }

-- behind a token that may end an operand, and behind one that may not
abbrev pub ended : Open → Open
ended o = record { brackets = o.brackets; questions = o.questions; ends = true }

abbrev pub going_on : Open → Open
going_on o = record { brackets = o.brackets; questions = o.questions; ends = false }

abbrev pub opened : Open → Open
opened o = record { brackets = o.brackets + 1; questions = o.questions; ends = false }

abbrev pub closed : Open → Open
closed o = record { brackets = o.brackets - 1; questions = o.questions; ends = true }

-- A `:` inside brackets may be that of a range, so only the `?` outside of them are counted.
abbrev pub asked : Open → Open
asked o = record { brackets = o.brackets; questions = if o.brackets == 0 then o.questions + 1 else o.questions; ends = false }

abbrev pub answered : Open → Open
answered o = record { brackets = o.brackets; questions = if o.brackets == 0 then o.questions - 1 else o.questions; ends = false }

abbrev pub after_mark : MarkName → Open → Open
after_mark m.LeftParen o = opened o
after_mark m.LeftBracket o = opened o
after_mark m.LeftBrace o = opened o
after_mark m.RightParen o = closed o
after_mark m.RightBracket o = closed o
after_mark m.RightBrace o = closed o
after_mark m.Question o = asked o
after_mark m.Colon o = answered o
after_mark _ o = going_on o

abbrev pub after_sort : Sort → Open → Open
after_sort s.Id o = ended o
after_sort s.Literal o = ended o
after_sort (s.Mark name) o = after_mark name o
after_sort _ o = going_on o

abbrev pub after : Open → Token → Open
after o a = after_sort (sort a) o

unfoldable pub all_after : Open → List Token → Open
all_after o [] = o
all_after o (a ∷ i) = all_after (after o a) i

abbrev pub may_end : Open → Bool
may_end o = if o.brackets == 0 then (if o.questions == 0 then o.ends else false) else false

-- An expression can end behind the first n tokens.
abbrev pub CanEnd : List Token → ℕ → Type 0
CanEnd i n = all_after nothing_open (take n i) ≡ ended nothing_open
