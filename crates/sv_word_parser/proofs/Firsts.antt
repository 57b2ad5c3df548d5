-- What is told of the first token, by its sort.
use Rattle.std.proofs.Common.{◌≡◌, List, [], ◌∷◌, Option, None, refl, sym}
use Rattle.sv_outside.specs.declared.text.Token.{Token}
use Rattle.sv_cursor.specs.declared.sort.Keyword.{Keyword}
use Rattle.sv_cursor.specs.declared.sort.Mark.{Mark as MarkName}
use Rattle.sv_cursor.specs.declared.sort.Sort.{Sort}
use Rattle.sv_cursor.specs.declared.sort.Sort.TheVariants as s
use Rattle.sv_cursor.specs.Parsers.{told}
use Rattle.sv_cursor.specs.Tests.{first_sort}
use Rattle.sv_word_parser.specs.Combined.{word_of, word_test, sign_of, sign_test, sort_test}

pub word_first : {A : Type 0} (of : Keyword → Option A) (i : List Token) → told (word_test of) i ≡ word_of of (first_sort i)
unfolding word_test
word_first of [] = refl
word_first of (a ∷ i) = refl

pub sign_first : {A : Type 0} (of : MarkName → Option A) (i : List Token) → told (sign_test of) i ≡ sign_of of (first_sort i)
unfolding sign_test
sign_first of [] = refl
sign_first of (a ∷ i) = refl

-- where nothing is told of the end
pub sort_first : {A : Type 0} (of : Sort → Option A) (i : List Token) → of s.Other ≡ None → told (sort_test of) i ≡ of (first_sort i)
unfolding sort_test
sort_first of [] e = sym e
sort_first of (a ∷ i) e = refl
