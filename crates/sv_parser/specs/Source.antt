-- Modules and whole texts on lists of tokens.
use Rattle.std.specs.Prelude.{List, [], ◌∷◌, length, Option, Some, None, Ok, Err}
use Rattle.sv_tree.specs.declared.word.Word.{Word}
use Rattle.sv_tree.specs.declared.design.Way.{Way}
use Rattle.sv_tree.specs.declared.design.NetWord.{NetWord}
use Rattle.sv_tree.specs.declared.design.Port.{Port}
use Rattle.sv_tree.specs.declared.design.ParPort.{ParPort}
use Rattle.sv_tree.specs.declared.design.Item.{Item}
use Rattle.sv_tree.specs.declared.design.Module.{Module}
use Rattle.sv_tree.specs.declared.design.SourcePart.{SourcePart}
use Rattle.sv_tree.specs.declared.design.SourcePart.TheVariants as source_part
use Rattle.sv_tree.specs.declared.design.Source.{Source}
use Rattle.sv_cursor.specs.declared.error.ParseErr.TheVariants.{Syntax}
use Rattle.sv_cursor.specs.declared.sort.Keyword.TheVariants as key
use Rattle.sv_cursor.specs.declared.sort.Mark.TheVariants as m
use Rattle.sv_cursor.specs.Parsers.{Parser, and_then, ◌<$>◌, ◌▷◌, ◌⊗◌, refuse, token, by_told, maybe_read, cons, many}
use Rattle.sv_cursor.specs.Tests.{mark_test, id_test, mark, keyword}
use Rattle.sv_word_parser.specs.declared.openers.PartOpener.{PartOpener}
use Rattle.sv_word_parser.specs.declared.openers.PartOpener.TheVariants as part_by
use Rattle.sv_word_parser.specs.Combined.{◌▸◌, ◌◂◌, word_test}
use Rattle.sv_word_parser.specs.Words.{way_by_word, net_by_word, part_by_word}
use Rattle.sv_type_parser.specs.Forms.{typedef}
use Rattle.sv_type_parser.specs.Params.{TypedName, typed_name, made_port, port, par_port, param}
use Rattle.sv_stmt_parser.specs.Targets.{label_behind}
use Rattle.sv_item_parser.specs.Items.{items, item}

-- a list that may be absent
abbrev pub list_of : {A : Type 0} → Option (List A) → List A
list_of None = []
list_of (Some all) = all

-- ---- the header of a module

abbrev pub made_first : Way × (Option NetWord × TypedName) → Port
made_first c = made_port (Some c.0, c.1)

-- the first port has a direction
unfoldable pub first_port : Parser Port
first_port = made_first <$> (token (word_test way_by_word) ⊗ (maybe_read (word_test net_by_word) (token (word_test net_by_word)) ⊗ typed_name))

unfoldable pub more_ports : Parser (List Port)
more_ports = many (mark_test m.Comma) (mark m.Comma ▸ port)

unfoldable pub some_ports : Parser (List Port)
some_ports = cons <$> (first_port ⊗ more_ports)

unfoldable pub ports_inside : Parser (List Port)
ports_inside = list_of <$> maybe_read (word_test way_by_word) some_ports

unfoldable pub ports : Parser (List Port)
ports = mark m.LeftParen ▸ (ports_inside ◂ mark m.RightParen)

unfoldable pub maybe_ports : Parser (Option (List Port))
maybe_ports = maybe_read (mark_test m.LeftParen) ports

unfoldable pub more_par_ports : Parser (List ParPort)
more_par_ports = many (mark_test m.Comma) (mark m.Comma ▸ par_port)

unfoldable pub params_inside : Parser (ParPort × List ParPort)
params_inside = mark m.Hash ▸ (mark m.LeftParen ▸ ((par_port ⊗ more_par_ports) ◂ mark m.RightParen))

abbrev pub made_params : Option (ParPort × List ParPort) → List ParPort
made_params None = []
made_params (Some c) = c.0 ∷ c.1

unfoldable pub params : Parser (List ParPort)
params = made_params <$> maybe_read (mark_test m.Hash) params_inside

-- ---- modules

abbrev pub ModuleRest : Type 0
ModuleRest = List ParPort × (Option (List Port) × (List Item × Option Word))

abbrev pub made_module : Word × ModuleRest → Module
made_module c = record { name = c.0; params = c.1.0; ports = c.1.1.0; items = c.1.1.1.0; label = c.1.1.1.1 }

abbrev pub module_rest : Word → Parser ModuleRest
module_rest n = params ⊗ (maybe_ports ⊗ (mark m.Semicolon ▸ (items (item 200) ⊗ (keyword key.Endmodule ▸ label_behind n))))

unfoldable pub modul : Parser Module
modul = made_module <$> (keyword key.Module ▸ (token id_test ▷ module_rest))

-- ---- whole texts

abbrev pub part_for : PartOpener → Parser SourcePart
part_for part_by.Module = source_part.Module <$> modul
part_for part_by.Typedef = source_part.Typedef <$> typedef
part_for part_by.Param = source_part.Param <$> param

unfoldable pub part : Parser SourcePart
part = by_told (word_test part_by_word) part_for refuse

abbrev pub made_source : List SourcePart → Source
made_source all = record { parts = all }

unfoldable pub parts : Parser Source
parts = made_source <$> many (word_test part_by_word) part

abbrev pub ended : {A : Type 0} → A → Parser A
ended x [] = Ok (x, [])
ended x (a ∷ t) = Err (Syntax (length (a ∷ t)))

-- the whole text
unfoldable pub source : Parser Source
source = λ i. and_then (parts i) ended
