-- Whether the first token is wanted is told by its sort.
use Rattle.std.proofs.Common.{◌≡◌, List, [], ◌∷◌, refl, ap}
use Rattle.sv_outside.specs.declared.text.Token.{Token}
use Rattle.sv_tree.specs.declared.word.Word.{Word}
use Rattle.sv_cursor.specs.declared.sort.Keyword.{Keyword}
use Rattle.sv_cursor.specs.declared.sort.Mark.{Mark as MarkName}
use Rattle.sv_cursor.specs.declared.sort.Sort.{Sort}
use Rattle.sv_cursor.specs.declared.sort.Sort.TheVariants as s
use Rattle.sv_cursor.specs.Parsers.{token, take_told}
use Rattle.sv_cursor.specs.Sorts.{sort}
use Rattle.sv_cursor.specs.Tests.{first_sort, is_mark, is_keyword, if_so, mark, mark_test, keyword, keyword_test, id_by, id_test, literal_by, literal_test, is_id_sort, is_literal_sort, place_if, word_if}

pub mark_reads : (name : MarkName) (i : List Token) → mark name i ≡ place_if (is_mark name (first_sort i)) i
unfolding token mark_test
mark_reads name [] = refl
mark_reads name (a ∷ t) = refl

pub keyword_reads : (word : Keyword) (i : List Token) → keyword word i ≡ place_if (is_keyword word (first_sort i)) i
unfolding token keyword_test
keyword_reads word [] = refl
keyword_reads word (a ∷ t) = refl

id_so : (x : Sort) (w : Word) → id_by x w ≡ if_so (is_id_sort x) w
id_so s.Other w = refl
id_so s.Id w = refl
id_so s.Literal w = refl
id_so (s.Keyword k) w = refl
id_so (s.Mark m) w = refl
id_so (s.System n) w = refl

pub id_reads : (i : List Token) → token id_test i ≡ word_if (is_id_sort (first_sort i)) i
unfolding token id_test
id_reads [] = refl
id_reads (a ∷ t) = ap (λ o. take_told o (a ∷ t)) (id_so (sort a) (record { text = a.text; place = a.place }))

literal_so : (x : Sort) (w : Word) → literal_by x w ≡ if_so (is_literal_sort x) w
literal_so s.Other w = refl
literal_so s.Id w = refl
literal_so s.Literal w = refl
literal_so (s.Keyword k) w = refl
literal_so (s.Mark m) w = refl
literal_so (s.System n) w = refl

pub literal_reads : (i : List Token) → token literal_test i ≡ word_if (is_literal_sort (first_sort i)) i
unfolding token literal_test
literal_reads [] = refl
literal_reads (a ∷ t) = ap (λ o. take_told o (a ∷ t)) (literal_so (sort a) (record { text = a.text; place = a.place }))
