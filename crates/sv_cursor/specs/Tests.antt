-- What is told of a token by its sort.
use Rattle.std.specs.Prelude.{Bool, true, false, Option, Some, None, List, [], ◌∷◌}
use denote.Enum.Bare.{sameb}
use Rattle.sv_outside.specs.declared.refusal.Place.{Place}
use Rattle.sv_outside.specs.declared.text.Token.{Token}
use Rattle.sv_tree.specs.declared.word.Word.{Word}
use Rattle.sv_tree.specs.declared.exprs.SystemName.{SystemName}
use Rattle.sv_cursor.specs.contracts.sort.Keyword as keyword_row
use Rattle.sv_cursor.specs.contracts.sort.Mark as mark_row
use Rattle.sv_cursor.specs.declared.sort.Keyword.{Keyword}
use Rattle.sv_cursor.specs.declared.sort.Mark.{Mark as MarkName}
use Rattle.sv_cursor.specs.declared.sort.Sort.{Sort}
use Rattle.sv_cursor.specs.declared.sort.Sort.TheVariants as s
use Rattle.sv_cursor.specs.Sorts.{sort}
use Rattle.sv_cursor.specs.Parsers.{Parser, token}

-- the sort of the first token
abbrev pub first_sort : List Token → Sort
first_sort [] = s.Other
first_sort (a ∷ t) = sort a

-- `==` on marks and on keywords
unfoldable pub same_mark : MarkName → MarkName → Bool
same_mark = sameb mark_row.the_type

unfoldable pub same_keyword : Keyword → Keyword → Bool
same_keyword = sameb keyword_row.the_type

abbrev pub is_mark : MarkName → Sort → Bool
is_mark name (s.Mark other) = same_mark other name
is_mark name _ = false

abbrev pub is_keyword : Keyword → Sort → Bool
is_keyword word (s.Keyword other) = same_keyword other word
is_keyword word _ = false

abbrev pub if_so : {A : Type 0} → Bool → A → Option A
if_so true x = Some x
if_so false x = None

-- the place of a mark or a keyword
unfoldable pub mark_test : MarkName → Token → Option Place
mark_test name a = if_so (is_mark name (sort a)) a.place

unfoldable pub keyword_test : Keyword → Token → Option Place
keyword_test word a = if_so (is_keyword word (sort a)) a.place

abbrev pub id_by : Sort → Word → Option Word
id_by s.Id w = Some w
id_by _ w = None

abbrev pub literal_by : Sort → Word → Option Word
literal_by s.Literal w = Some w
literal_by _ w = None

-- the place of any token
abbrev pub place_of : Token → Option Place
place_of a = Some a.place

unfoldable pub place_test : Token → Option Place
place_test a = place_of a

unfoldable pub id_test : Token → Option Word
id_test a = id_by (sort a) (record { text = a.text; place = a.place })

unfoldable pub literal_test : Token → Option Word
literal_test a = literal_by (sort a) (record { text = a.text; place = a.place })

abbrev pub system_by : Sort → Place → Option (SystemName × Place)
system_by (s.System name) p = Some (name, p)
system_by _ p = None

unfoldable pub system_test : Token → Option (SystemName × Place)
system_test a = system_by (sort a) a.place

abbrev pub mark : MarkName → Parser Place
mark name = token (mark_test name)

abbrev pub keyword : Keyword → Parser Place
keyword word = token (keyword_test word)

-- ---- the first token, where it is wanted

abbrev pub is_id_sort : Sort → Bool
is_id_sort s.Id = true
is_id_sort _ = false

abbrev pub is_literal_sort : Sort → Bool
is_literal_sort s.Literal = true
is_literal_sort _ = false

abbrev pub place_if : Bool → Parser Place
place_if wanted = token (λ a. if_so wanted a.place)

abbrev pub word_if : Bool → Parser Word
word_if wanted = token (λ a. if_so wanted (record { text = a.text; place = a.place }))
