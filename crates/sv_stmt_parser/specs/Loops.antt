-- The heads of loops on lists of tokens.
use Rattle.sv_tree.specs.declared.word.Word.{Word}
use Rattle.sv_tree.specs.declared.exprs.Expr.{Expr}
use Rattle.sv_tree.specs.declared.forms.WholeWord.{WholeWord}
use Rattle.sv_tree.specs.declared.stmts.Step.{Step}
use Rattle.sv_cursor.specs.declared.sort.Mark.TheVariants as m
use Rattle.sv_cursor.specs.Tests.{id_test, mark}
use Rattle.sv_cursor.specs.Parsers.{Parser, ◌<$>◌, ◌▷◌, ◌⊗◌, token}
use Rattle.sv_word_parser.specs.Combined.{◌▸◌, ◌◂◌, word_test}
use Rattle.sv_word_parser.specs.Words.{whole_by_word}
use Rattle.sv_type_parser.specs.Forms.{expression}
use Rattle.sv_stmt_parser.specs.Targets.{step}

-- the start, the test and the step of a loop
abbrev pub Turns : Type 0
Turns = Expr × (Expr × Step)

-- these, up to the `)`
abbrev pub head_turns : Word → Parser Turns
head_turns v = mark m.Assign ▸ (expression ⊗ (mark m.Semicolon ▸ (expression ⊗ (mark m.Semicolon ▸ (step v ◂ mark m.RightParen)))))

-- behind the `for` of a loop of statements
abbrev pub LoopHead : Type 0
LoopHead = WholeWord × (Word × Turns)

unfoldable pub loop_head : Parser LoopHead
loop_head = mark m.LeftParen ▸ (token (word_test whole_by_word) ⊗ (token id_test ▷ head_turns))
