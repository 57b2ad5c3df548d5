-- What is told of the first token, by its sort.
use Rattle.std.proofs.Common.{◌≡◌, List, refl}
use Rattle.sv_outside.specs.declared.text.Token.{Token}
use Rattle.sv_tree.specs.declared.design.Item.{Item}
use Rattle.sv_tree.specs.declared.design.Gen.{Gen}
use Rattle.sv_cursor.specs.declared.sort.Keyword.TheVariants as key
use Rattle.sv_cursor.specs.Parsers.{Outcome, Parser, by_told}
use Rattle.sv_cursor.specs.Tests.{keyword_test}
use Rattle.sv_item_parser.specs.Items.{gen, gen_block, single}

pub gen_parts : (item : Parser Item) (i : List Token) → ◌≡◌ {A = Outcome Gen} (gen item i) (by_told (keyword_test key.Begin) (λ _. gen_block item) (single item) i)
unfolding gen
gen_parts item i = refl
