-- What is answered of a whole text.
use Rattle.std.specs.Prelude.{◌≡◌, List, []}
use Rattle.sv_outside.specs.declared.text.Token.{Token}
use Rattle.sv_tree.specs.declared.design.Source.{Source}
use Rattle.sv_tree.specs.GrammarDesign.{SpellsSource}
use Rattle.sv_write.specs.declared.lexeme.Lexeme.{Lexeme}
use Rattle.sv_write.specs.Writing.{lexemes}

-- Whatever tokens spell the text, these are their kinds and texts.
abbrev pub AreLexemesOf : Source → List Lexeme → Type 0
AreLexemesOf x all = (tokens : List Token) → SpellsSource x tokens [] → lexemes tokens ≡ all
