-- Targets, the steps of loops, and labels on lists of tokens.
use Rattle.std.specs.Prelude.{ℕ, zero, suc, if◌then◌else◌, List, Option, Some, None}
use Rattle.std.specs.Str.{bytes_eq}
use Rattle.sv_outside.specs.declared.refusal.Place.{Place}
use Rattle.sv_outside.specs.declared.text.Token.{Token}
use Rattle.sv_tree.specs.declared.word.Word.{Word}
use Rattle.sv_tree.specs.declared.exprs.Expr.{Expr}
use Rattle.sv_tree.specs.declared.exprs.Select.{Select}
use Rattle.sv_tree.specs.declared.stmts.Lvalue.{Lvalue}
use Rattle.sv_tree.specs.declared.stmts.Lvalue.TheVariants as lv
use Rattle.sv_tree.specs.declared.stmts.Step.{Step}
use Rattle.sv_tree.specs.declared.stmts.Step.TheVariants as step_of
use Rattle.sv_tree.specs.declared.stmts.StepMark.{StepMark}
use Rattle.sv_tree.specs.declared.stmts.StepSign.{StepSign}
use Rattle.sv_cursor.specs.declared.sort.Mark.TheVariants as m
use Rattle.sv_cursor.specs.Parsers.{Parser, ◌<$>◌, ◌⊗◌, pure, refuse, too_deep, token, by_told, maybe_read, guarded}
use Rattle.sv_cursor.specs.Tests.{mark_test, id_test, mark}
use Rattle.sv_expr_reader.specs.Reading.{expr, selects}
use Rattle.sv_word_parser.specs.declared.openers.TargetOpener.{TargetOpener}
use Rattle.sv_word_parser.specs.declared.openers.TargetOpener.TheVariants as target_by
use Rattle.sv_word_parser.specs.declared.openers.StepOpener.{StepOpener}
use Rattle.sv_word_parser.specs.declared.openers.StepOpener.TheVariants as step_by
use Rattle.sv_stmt_parser.specs.declared.tails.StepTail.{StepTail}
use Rattle.sv_stmt_parser.specs.declared.tails.StepTail.TheVariants as tail
use Rattle.sv_word_parser.specs.Combined.{◌▸◌, ◌◂◌, sign_test, sort_test, listed}
use Rattle.sv_word_parser.specs.Words.{target_by_sort, step_by_mark, step_sign_by_mark, step_opener_by_sort}
use Rattle.sv_type_parser.specs.Forms.{expression}

-- ---- targets

abbrev pub made_target : Word × List Select → Lvalue
made_target c = lv.Name c.0 c.1

-- Less than so many expressions may hold a token.
unfoldable pub named_target : ℕ → Parser Lvalue
named_target d = made_target <$> (token id_test ⊗ selects d (expr d))

abbrev pub made_targets : Place × List Lvalue → Lvalue
made_targets c = lv.Concat c.0 c.1

-- A function value reads the targets in braces.
unfoldable pub braced_targets : Parser Lvalue → Parser Lvalue
braced_targets target = made_targets <$> (mark m.LeftBrace ⊗ (listed target ◂ mark m.RightBrace))

-- Targets in braces are read by a function value. So many expressions may hold a token of this one.
module _ (d : ℕ) (target : Parser Lvalue) where
  -- the brace itself lies too deep where no expression more may hold a token
  abbrev pub target_for : TargetOpener → Parser Lvalue
  target_for target_by.Name = named_target (suc d)
  target_for target_by.Brace = guarded d (braced_targets target)

  unfoldable pub target_level : Parser Lvalue
  target_level = by_told (sort_test target_by_sort) target_for refuse

-- targets, a token of which less than so many expressions hold
unfoldable pub target : ℕ → Parser Lvalue
target zero = too_deep
target (suc d) = target_level d (target d)

abbrev pub lvalue : Parser Lvalue
lvalue = target 201

-- ---- a name that repeats another

abbrev pub repeats : Word → Token → Option Word
repeats v a = if bytes_eq a.text v.text then id_test a else None

unfoldable pub repeat_test : Word → Token → Option Word
repeat_test v a = repeats v a

-- the name of a block, behind its `begin`
unfoldable pub block_label : Parser (Option Word)
block_label = maybe_read (mark_test m.Colon) (mark m.Colon ▸ token id_test)

-- the label of an end, where the name that it repeats is there
unfoldable pub label_behind : Word → Parser (Option Word)
label_behind n = maybe_read (mark_test m.Colon) (mark m.Colon ▸ token (repeat_test n))

abbrev pub end_label : Option Word → Parser (Option Word)
end_label None = pure None
end_label (Some n) = label_behind n

-- ---- steps

abbrev pub made_before : StepMark × Word → Step
made_before c = step_of.Before c.0 c.1

abbrev pub made_set : StepSign × Expr → StepTail
made_set c = tail.Set c.0 c.1

unfoldable pub step_tail : Parser StepTail
step_tail = by_told (sign_test step_by_mark) (λ _. tail.By <$> token (sign_test step_by_mark)) (made_set <$> (token (sign_test step_sign_by_mark) ⊗ expression))

abbrev pub made_named_step : Word × StepTail → Step
made_named_step (w, tail.By k) = step_of.After w k
made_named_step (w, tail.Set k x) = step_of.Assign w k x

-- a step of the loop of that variable
module _ (v : Word) where
  unfoldable pub step_before : Parser Step
  step_before = made_before <$> (token (sign_test step_by_mark) ⊗ token (repeat_test v))

  unfoldable pub named_step : Parser Step
  named_step = made_named_step <$> (token (repeat_test v) ⊗ step_tail)

  abbrev pub step_for : StepOpener → Parser Step
  step_for step_by.Mark = step_before
  step_for step_by.Name = named_step

  unfoldable pub step : Parser Step
  step = by_told (sort_test step_opener_by_sort) step_for refuse
