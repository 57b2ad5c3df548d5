-- What is told of the first token, by its sort.
use Rattle.std.proofs.Common.{◌≡◌, List, [], ◌∷◌, refl}
use Rattle.sv_outside.specs.declared.text.Token.{Token}
use Rattle.sv_cursor.specs.Parsers.{told}
use Rattle.sv_cursor.specs.Tests.{first_sort}
use Rattle.sv_expr_words.specs.Signs.{opener, opener_test, select_opener, select_test, range_sign, range_test, joiner, joiner_test}

pub opener_first : (i : List Token) → told opener_test i ≡ opener (first_sort i)
unfolding opener_test
opener_first [] = refl
opener_first (a ∷ i) = refl

pub select_first : (i : List Token) → told select_test i ≡ select_opener (first_sort i)
unfolding select_test
select_first [] = refl
select_first (a ∷ i) = refl

pub range_first : (i : List Token) → told range_test i ≡ range_sign (first_sort i)
unfolding range_test
range_first [] = refl
range_first (a ∷ i) = refl

pub joiner_first : (i : List Token) → told joiner_test i ≡ joiner (first_sort i)
unfolding joiner_test
joiner_first [] = refl
joiner_first (a ∷ i) = refl
