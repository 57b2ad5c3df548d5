-- The first tokens of expressions and statements.
use Rattle.std.proofs.Common.{◌≡◌, ◌<◌, false, List, [], ◌∷◌, ◌++◌, length, Option, Some, None, Err, refl, sym, ◌∙◌, ap, subst, arith}
use Rattle.sv_outside.specs.declared.text.Token.{Token}
use Rattle.sv_tree.specs.declared.exprs.Expr.{Expr}
use Rattle.sv_tree.specs.declared.stmts.Stmt.{Stmt}
use Rattle.sv_tree.specs.declared.stmts.Stmt.TheVariants as st
use Rattle.sv_tree.specs.declared.stmts.Uniq.{Uniq}
use Rattle.sv_tree.specs.declared.stmts.Uniq.TheVariants as uniq
use Rattle.sv_tree.specs.declared.stmts.CaseWord.{CaseWord}
use Rattle.sv_tree.specs.declared.stmts.CaseWord.TheVariants as case_word
use Rattle.sv_tree.specs.Spelling.{commas, maybe}
use Rattle.sv_tree.specs.GrammarExprs.{Spells}
use Rattle.sv_tree.specs.GrammarStmts.{SpellsStmt, uniq_key, case_key}
use Rattle.sv_tree.specs.Nesting.{expr_depths}
use Rattle.sv_tree.proofs.Framed.{frame}
use Rattle.sv_tree.proofs.MadeStmts as made
use Rattle.sv_cursor.specs.declared.error.ParseErr.TheVariants.{Syntax}
use Rattle.sv_cursor.specs.declared.sort.Keyword.TheVariants as k
use Rattle.sv_cursor.specs.declared.sort.Mark.TheVariants as m
use Rattle.sv_cursor.specs.declared.sort.Sort.{Sort}
use Rattle.sv_cursor.specs.declared.sort.Sort.TheVariants as so
use Rattle.sv_cursor.specs.Sorts.{mark_text, keyword_text}
use Rattle.sv_cursor.specs.Tests.{first_sort, same_keyword, is_keyword, keyword_test}
use Rattle.sv_cursor.specs.Parsers.{Outcome, and_then, told, branch, refuse}
use Rattle.sv_cursor.proofs.Readers.{Agrees}
use Rattle.sv_expr_words.specs.declared.openers.Opener.{Opener}
use Rattle.sv_expr_words.specs.Signs.{opener, opener_test}
use Rattle.sv_expr_reader.specs.Reading.{expr, level, prefix, prefix_for, climb}
use Rattle.sv_expr_reader.proofs.Tokens.{Bad}
use Rattle.sv_expr_reader.proofs.Heights.{short}
use Rattle.sv_expr_reader.proofs.Laws.{expr_reader}
use Rattle.sv_word_parser.specs.declared.openers.TargetOpener.{TargetOpener}
use Rattle.sv_word_parser.specs.declared.openers.StmtOpener.{StmtOpener}
use Rattle.sv_word_parser.specs.declared.openers.StmtOpener.TheVariants as stmt_by
use Rattle.sv_word_parser.specs.Combined.{sort_test}
use Rattle.sv_word_parser.specs.Words.{target_by_sort, stmt_by_word, stmt_by_sort}
use Rattle.sv_type_parser.specs.Forms.{expression}
use Rattle.sv_type_parser.proofs.Rules.{IsFirst, first_of_mark, first_of_key, first_of_key_at, told_sort, no_key}
use Rattle.sv_type_parser.proofs.Words.{uniq_first, uniq_word_name, case_first, case_word_name}
use Rattle.sv_stmt_parser.proofs.Targets.{lvalue_begins}

-- ---- expressions

-- where no expression begins, reading one refuses the first token
none_read : (w : List Token) → told opener_test w ≡ None → ◌≡◌ {A = Outcome Expr} (expression w) (Err (Syntax (length w)))
unfolding expr level prefix
none_read w e = ap (λ q. and_then (branch q (prefix_for 200 (expr 200)) refuse w) (climb 200 (expr 200) 0 w (length w))) e

told_front : (u t o : List Token) → 0 < length u → told opener_test (u ++ t) ≡ told opener_test (u ++ o)
told_front [] t o some = absurd (omega arith)
told_front (a ∷ u) t o some = refl

pub expr_begins : (x : Expr) (i o : List Token) → Spells 0 x i o → (c : Opener) × (told opener_test i ≡ Some c)
expr_begins x i o h = by_told_test (told opener_test i) refl
  where
    refused : told opener_test i ≡ None → ⊥
    refused e =
        let f = frame x 0 i o h in
        let w = f.0 ++ [] in
        let none : told opener_test w ≡ None = told_front f.0 [] o (omega (arith, short x, f.2)) ∙ (ap (told opener_test) (sym f.1) ∙ e) in
        let g : Agrees (Bad 201) expr_depths x 1 w (Err (Syntax (length w))) =
        subst (λ r. Agrees (Bad 201) expr_depths x 1 w r) (none_read w none) ((expr_reader 201 0 (omega arith)).agrees x w [] 1 w (f.3 []) (refl, refl, omega arith) refl) in
        omega arith

    by_told_test : (q : Option Opener) → told opener_test i ≡ q → (c : Opener) × (told opener_test i ≡ Some c)
    by_told_test None e = absurd (refused e)
    by_told_test (Some c) e = (c, e)

pub told_opener : (i : List Token) → told opener_test i ≡ opener (first_sort i)
unfolding opener_test
told_opener [] = refl
told_opener (a ∷ i) = refl

pub exprs_begin : (all : List Expr) (i o : List Token) → commas (Spells 0) all i o → (c : Opener) × (told opener_test i ≡ Some c)
exprs_begin [] i o h = absurd h
exprs_begin (x ∷ all) i o h = expr_begins x i h.0 h.1

-- ---- statements

told_stmt : (x : Sort) (i : List Token) → IsFirst x i → told (sort_test stmt_by_sort) i ≡ stmt_by_sort x
told_stmt x i h = told_sort stmt_by_sort i refl ∙ ap stmt_by_sort h

uniq_begin : (u : Uniq) → stmt_by_word (uniq_word_name u) ≡ Some stmt_by.Branch
uniq_begin uniq.Unique = refl
uniq_begin uniq.Unique0 = refl
uniq_begin uniq.Priority = refl

case_begin : (w : CaseWord) → stmt_by_word (case_word_name w) ≡ Some stmt_by.Branch
case_begin case_word.Case = refl
case_begin case_word.Casez = refl

pub branch_told : (u : Option Uniq) (i t : List Token) → maybe uniq_key u i t → told (sort_test stmt_by_sort) t ≡ Some stmt_by.Branch → told (sort_test stmt_by_sort) i ≡ Some stmt_by.Branch
branch_told None i t h e = subst (λ i. told (sort_test stmt_by_sort) i ≡ Some stmt_by.Branch) (sym h) e
branch_told (Some u) i t h e = told_stmt (so.Keyword (uniq_word_name u)) i (uniq_first u i t h) ∙ uniq_begin u

pub if_told : (i o : List Token) → Rattle.sv_tree.specs.Spelling.key (keyword_text k.If) i o → told (sort_test stmt_by_sort) i ≡ Some stmt_by.Branch
if_told i o h = told_stmt (so.Keyword k.If) i (first_of_key k.If i o h)

pub case_told : (w : CaseWord) (i o : List Token) → case_key w i o → told (sort_test stmt_by_sort) i ≡ Some stmt_by.Branch
case_told w i o h = told_stmt (so.Keyword (case_word_name w)) i (case_first w i o h) ∙ case_begin w

-- a target begins an assignment
target_told : (y : Sort) (c : TargetOpener) → target_by_sort y ≡ Some c → stmt_by_sort y ≡ Some stmt_by.Target
target_told so.Id c h = refl
target_told (so.Mark m.LeftBrace) c h = refl
target_told (so.Mark _) c h = absurd (cc)
target_told (so.Keyword w) c h = absurd (cc)
target_told so.Other c h = absurd (cc)
target_told so.Literal c h = absurd (cc)
target_told (so.System f) c h = absurd (cc)

abbrev pub StmtTold : Stmt → StmtOpener → Type 0
StmtTold x c = (i o : List Token) → SpellsStmt x i o → told (sort_test stmt_by_sort) i ≡ Some c

pub empty_told : StmtTold st.Empty stmt_by.Empty
unfolding mark_text
empty_told i o h = told_stmt (so.Mark m.Semicolon) i (first_of_mark m.Semicolon i o (made.of_empty i o h))

pub block_told : (p : _) (b : _) (all : List Stmt) (e : _) → StmtTold (st.Block p b all e) stmt_by.Block
unfolding keyword_text
block_told p b all e i o h = let g = made.of_block p b all e i o h in told_stmt (so.Keyword k.Begin) i (first_of_key_at k.Begin p i g.0 g.1)

pub stmt_if_told : (u : Option Uniq) (c : Expr) (x : Stmt) (y : Option Stmt) → StmtTold (st.If u c x y) stmt_by.Branch
unfolding keyword_text
stmt_if_told u c x y i o h = let g = made.of_if u c x y i o h in branch_told u i g.0 g.1 (if_told g.0 g.2.0 g.2.1)

pub stmt_case_told : (u : Option Uniq) (w : CaseWord) (x : Expr) (all : _) → StmtTold (st.Case u w x all) stmt_by.Branch
stmt_case_told u w x all i o h = let g = (made.of_case u w x all i o h).1 in branch_told u i g.0 g.1 (case_told w g.0 g.2.0 g.2.1)

pub for_told : (p : _) (form : _) (v : _) (start test : Expr) (next : _) (body : Stmt) → StmtTold (st.For p form v start test next body) stmt_by.For
unfolding keyword_text
for_told p form v start test next body i o h = let g = made.of_for p form v start test next body i o h in told_stmt (so.Keyword k.For) i (first_of_key_at k.For p i g.0 g.1)

pub assign_told : (to : _) (mk : _) (p : _) (x : Expr) → StmtTold (st.Assign to mk p x) stmt_by.Target
assign_told to mk p x i o h =
    let g = made.of_assign to mk p x i o h in
    let b = lvalue_begins to i g.0 g.1 in told_sort stmt_by_sort i refl ∙ target_told (first_sort i) b.0 (sym (told_sort target_by_sort i refl) ∙ b.1)

pub stmt_begins : (x : Stmt) (i o : List Token) → SpellsStmt x i o → (c : StmtOpener) × (told (sort_test stmt_by_sort) i ≡ Some c)
stmt_begins = made.by_cases_stmt (λ x. (i o : List Token) → SpellsStmt x i o → (c : StmtOpener) × (told (sort_test stmt_by_sort) i ≡ Some c))
    (λ i o h. (stmt_by.Empty, empty_told i o h))
    (λ p b all e i o h. (stmt_by.Block, block_told p b all e i o h))
    (λ u c x y i o h. (stmt_by.Branch, stmt_if_told u c x y i o h))
    (λ u w x all i o h. (stmt_by.Branch, stmt_case_told u w x all i o h))
    (λ p form v start test next body i o h. (stmt_by.For, for_told p form v start test next body i o h))
    (λ to mk p x i o h. (stmt_by.Target, assign_told to mk p x i o h))

-- ---- what is no `else`

-- no `else` stands there
abbrev pub NoElse : List Token → Type 0
NoElse o = told (keyword_test k.Else) o ≡ None

stmt_apart : (y : Sort) (c : StmtOpener) → stmt_by_sort y ≡ Some c → is_keyword k.Else y ≡ false
unfolding same_keyword
stmt_apart (so.Keyword k.Else) c h = absurd (cc)
stmt_apart (so.Keyword _) c h = refl
stmt_apart _ c h = refl

pub stmt_no_else : (x : Stmt) (i o : List Token) → SpellsStmt x i o → NoElse i
stmt_no_else x i o h = let b = stmt_begins x i o h in no_key k.Else (first_sort i) i (stmt_apart (first_sort i) b.0 (sym (told_sort stmt_by_sort i refl) ∙ b.1)) refl

opener_apart : (y : Sort) (c : Opener) → opener y ≡ Some c → is_keyword k.Else y ≡ false
unfolding same_keyword
opener_apart (so.Keyword k.Else) c h = absurd (cc)
opener_apart (so.Keyword _) c h = refl
opener_apart _ c h = refl

pub exprs_no_else : (all : List Expr) (i o : List Token) → commas (Spells 0) all i o → NoElse i
exprs_no_else all i o h = let b = exprs_begin all i o h in no_key k.Else (first_sort i) i (opener_apart (first_sort i) b.0 (sym (told_opener i) ∙ b.1)) refl
