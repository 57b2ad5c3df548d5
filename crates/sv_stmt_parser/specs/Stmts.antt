-- Statements and blocks on lists of tokens.
use Rattle.std.specs.Prelude.{ℕ, zero, suc, Bool, true, false, List, [], ◌∷◌, ◌++◌, Option, Some, None}
use Rattle.sv_outside.specs.declared.refusal.Place.{Place}
use Rattle.sv_outside.specs.declared.text.Token.{Token}
use Rattle.sv_tree.specs.declared.word.Word.{Word}
use Rattle.sv_tree.specs.declared.exprs.Expr.{Expr}
use Rattle.sv_tree.specs.declared.stmts.Lvalue.{Lvalue}
use Rattle.sv_tree.specs.declared.stmts.Uniq.{Uniq}
use Rattle.sv_tree.specs.declared.stmts.CaseWord.{CaseWord}
use Rattle.sv_tree.specs.declared.stmts.AssignMark.{AssignMark}
use Rattle.sv_tree.specs.declared.stmts.Stmt.{Stmt}
use Rattle.sv_tree.specs.declared.stmts.Stmt.TheVariants as st
use Rattle.sv_tree.specs.declared.stmts.Arm.{Arm}
use Rattle.sv_tree.specs.declared.stmts.Arm.TheVariants as ar
use Rattle.sv_cursor.specs.declared.sort.Keyword.TheVariants as key
use Rattle.sv_cursor.specs.declared.sort.Mark.TheVariants as m
use Rattle.sv_cursor.specs.Sorts.{sort}
use Rattle.sv_cursor.specs.Parsers.{Parser, ◌<$>◌, ◌▷◌, ◌⊗◌, refuse, too_deep, token, by_told, maybe_read, many}
use Rattle.sv_cursor.specs.Tests.{mark_test, keyword_test, mark, keyword}
use Rattle.sv_expr_words.specs.Signs.{opener_test}
use Rattle.sv_stmt_parser.specs.declared.tails.BranchTail.{BranchTail}
use Rattle.sv_stmt_parser.specs.declared.tails.BranchTail.TheVariants as branch_tail
use Rattle.sv_word_parser.specs.declared.openers.StmtOpener.{StmtOpener}
use Rattle.sv_word_parser.specs.declared.openers.StmtOpener.TheVariants as stmt_by
use Rattle.sv_word_parser.specs.Combined.{◌▸◌, ◌◂◌, word_test, sign_of, sort_test, listed}
use Rattle.sv_word_parser.specs.Words.{uniq_by_word, case_by_word, assign_by_mark, stmt_by_sort}
use Rattle.sv_type_parser.specs.Forms.{expression}
use Rattle.sv_stmt_parser.specs.Targets.{lvalue}
use Rattle.sv_stmt_parser.specs.Loops.{LoopHead, loop_head}
use Rattle.sv_stmt_parser.specs.Within as within

-- ---- assignments

abbrev pub with_place : {A : Type 0} → Option A → Place → Option (A × Place)
with_place None p = None
with_place (Some x) p = Some (x, p)

unfoldable pub assign_test : Token → Option (AssignMark × Place)
assign_test a = with_place (sign_of assign_by_mark (sort a)) a.place

abbrev pub made_assign : Lvalue × ((AssignMark × Place) × Expr) → Stmt
made_assign c = st.Assign c.0 c.1.0.0 c.1.0.1 c.1.1

unfoldable pub assign : Parser Stmt
assign = made_assign <$> (lvalue ⊗ (token assign_test ⊗ (expression ◂ mark m.Semicolon)))

unfoldable pub empty : Parser Stmt
empty = (λ _. st.Empty) <$> mark m.Semicolon

abbrev pub made_block : Place × (Option Word × (List Stmt × Option Word)) → Stmt
made_block c = st.Block c.0 c.1.0 c.1.1.0 c.1.1.1

abbrev pub made_labels : List Expr × Stmt → Arm
made_labels c = ar.Labels c.0 c.1

abbrev pub is_given : {A : Type 0} → Option A → Bool
is_given None = false
is_given (Some x) = true

abbrev pub made_default : Option Place × Stmt → Arm
made_default c = ar.Default (is_given c.0) c.1

abbrev pub made_arms : List Arm × Option (Arm × List Arm) → List Arm
made_arms (a, None) = a
made_arms (a, Some c) = a ++ (c.0 ∷ c.1)

abbrev pub made_if : Expr × (Stmt × Option Stmt) → BranchTail
made_if c = branch_tail.If c.0 c.1.0 c.1.1

abbrev pub made_case : CaseWord × (Expr × List Arm) → BranchTail
made_case c = branch_tail.Case c.0 c.1.0 c.1.1

abbrev pub made_branch : Option Uniq × BranchTail → Stmt
made_branch (u, branch_tail.If c x y) = st.If u c x y
made_branch (u, branch_tail.Case w x all) = st.Case u w x all

abbrev pub made_for : Place × (LoopHead × Stmt) → Stmt
made_for c = st.For c.0 c.1.0.0 c.1.0.1.0 c.1.0.1.1.0 c.1.0.1.1.1.0 c.1.0.1.1.1.1 c.1.1

-- A function value reads the statements in a statement.
module _ (stmt : Parser Stmt) where
  unfoldable pub block : Parser Stmt
  block = made_block <$> within.block (sort_test stmt_by_sort) stmt

  unfoldable pub conditional : Parser BranchTail
  conditional = made_if <$> (keyword key.If ▸ (mark m.LeftParen ▸ (expression ⊗ (mark m.RightParen ▸ within.branches stmt))))

  unfoldable pub labelled : Parser Arm
  labelled = made_labels <$> (listed expression ⊗ (mark m.Colon ▸ stmt))

  unfoldable pub default : Parser Arm
  default = made_default <$> (keyword key.Default ▸ (maybe_read (mark_test m.Colon) (mark m.Colon) ⊗ stmt))

  unfoldable pub all_labelled : Parser (List Arm)
  all_labelled = many opener_test labelled

  unfoldable pub from_default : Parser (Arm × List Arm)
  from_default = default ⊗ all_labelled

  -- one arm at least
  abbrev pub behind_labelled : List Arm → Parser (Option (Arm × List Arm))
  behind_labelled [] = Some <$> from_default
  behind_labelled (x ∷ all) = maybe_read (keyword_test key.Default) from_default

  unfoldable pub arms : Parser (List Arm)
  arms = made_arms <$> (all_labelled ▷ behind_labelled)

  unfoldable pub choice : Parser BranchTail
  choice = made_case <$> (token (word_test case_by_word) ⊗ (mark m.LeftParen ▸ (expression ⊗ (mark m.RightParen ▸ (arms ◂ keyword key.Endcase)))))

  unfoldable pub branched : Parser BranchTail
  branched = by_told (keyword_test key.If) (λ _. conditional) choice

  unfoldable pub branch : Parser Stmt
  branch = made_branch <$> (maybe_read (word_test uniq_by_word) (token (word_test uniq_by_word)) ⊗ branched)

  unfoldable pub loop : Parser Stmt
  loop = made_for <$> within.counted loop_head stmt

  abbrev pub stmt_for : StmtOpener → Parser Stmt
  stmt_for stmt_by.Empty = empty
  stmt_for stmt_by.Block = block
  stmt_for stmt_by.Branch = branch
  stmt_for stmt_by.For = loop
  stmt_for stmt_by.Target = assign

  unfoldable pub stmt_level : Parser Stmt
  stmt_level = by_told (sort_test stmt_by_sort) stmt_for refuse

-- statements, of which at most so many hold a token
unfoldable pub stmt : ℕ → Parser Stmt
stmt zero = too_deep
stmt (suc n) = stmt_level (stmt n)
