-- Statements are read as they are spelled, at each depth.
use Rattle.std.proofs.Common.{◌≡◌, ℕ, zero, suc, ◌≤◌, ◌⊎◌, inl, inr, Bool, true, false, List, [], ◌∷◌, ◌++◌, length, Option, Some, None, refl, sym, ◌∙◌, ap, subst, append_assoc, arith}
use Rattle.sv_outside.specs.declared.refusal.Place.{Place}
use Rattle.sv_outside.specs.declared.text.Token.{Token}
use Rattle.sv_tree.specs.declared.word.Word.{Word}
use Rattle.sv_tree.specs.declared.exprs.Expr.{Expr}
use Rattle.sv_tree.specs.declared.forms.WholeWord.{WholeWord}
use Rattle.sv_tree.specs.declared.stmts.Lvalue.{Lvalue}
use Rattle.sv_tree.specs.declared.stmts.Step.{Step}
use Rattle.sv_tree.specs.declared.stmts.Uniq.{Uniq}
use Rattle.sv_tree.specs.declared.stmts.CaseWord.{CaseWord}
use Rattle.sv_tree.specs.declared.stmts.CaseWord.TheVariants as case_word
use Rattle.sv_tree.specs.declared.stmts.AssignMark.{AssignMark}
use Rattle.sv_tree.specs.declared.stmts.Stmt.{Stmt}
use Rattle.sv_tree.specs.declared.stmts.Stmt.TheVariants as st
use Rattle.sv_tree.specs.declared.stmts.Arm.{Arm}
use Rattle.sv_tree.specs.Spelling.{Spelled, ◌⨟◌, mark as mark_spelled, mark_at, key, key_at, name, maybe, each, label_of}
use Rattle.sv_tree.specs.GrammarExprs.{Spells}
use Rattle.sv_tree.specs.GrammarForms.{whole_key}
use Rattle.sv_tree.specs.GrammarStmts.{SpellsLvalue, SpellsStep, uniq_key, case_key, block_name, is_closed}
use Rattle.sv_tree.specs.Nesting.{Depths, one, in_stmt, if_given, each_depths, word_depths, label_depths, expr_depths}
use Rattle.sv_tree.specs.NestingDesign.{stmt_depths, arm_depths}
use Rattle.sv_tree.proofs.MadeStmts.{some, default_count, other_stmt_depths, is_other_closed, other_spelled}
use Rattle.sv_tree.proofs.MadeStmts as made
use Rattle.sv_cursor.specs.declared.sort.Keyword.{Keyword}
use Rattle.sv_cursor.specs.declared.sort.Keyword.TheVariants as k
use Rattle.sv_cursor.specs.declared.sort.Mark.{Mark as MarkName}
use Rattle.sv_cursor.specs.declared.sort.Mark.TheVariants as m
use Rattle.sv_cursor.specs.declared.sort.Sort.TheVariants as so
use Rattle.sv_cursor.specs.Sorts.{mark_text, keyword_text}
use Rattle.sv_cursor.specs.Tests.{same_keyword, keyword_test}
use Rattle.sv_cursor.specs.Parsers.{Parser, told}
use Rattle.sv_cursor.proofs.Readers.{IsReader, BadAt, deep_reader}
use Rattle.sv_expr_words.specs.Signs.{opener}
use Rattle.sv_expr_reader.proofs.Tokens.{placed_mark, some_mark}
use Rattle.sv_stmt_parser.specs.declared.tails.BranchTail.{BranchTail}
use Rattle.sv_stmt_parser.specs.declared.tails.BranchTail.TheVariants as branch_tail
use Rattle.sv_word_parser.specs.declared.openers.StmtOpener.{StmtOpener}
use Rattle.sv_word_parser.specs.declared.openers.StmtOpener.TheVariants as stmt_by
use Rattle.sv_word_parser.specs.Combined.{word_of, word_test, sort_test}
use Rattle.sv_word_parser.specs.Words.{uniq_by_word, stmt_by_sort}
use Rattle.sv_stmt_parser.specs.Targets.{end_label}
use Rattle.sv_stmt_parser.specs.Stmts.{made_assign, assign, empty, made_block, made_if, made_case, made_branch, made_for, block, conditional, choice, branched, branch, loop, stmt_for, stmt_level, stmt}
use Rattle.sv_stmt_parser.specs.Loops.{Turns, LoopHead}
use Rattle.sv_stmt_parser.specs.Within.{block_rest, maybe_else}
use Rattle.sv_type_parser.specs.Lists.{while_told}
use Rattle.sv_type_parser.proofs.Rules.{Rule, Fixed, the_mark, the_key, placed, before, opening, seq, seq_by, seq_up, closing, optional, several, Shut, shut, rule_of, Way, choose_reads, fork_reads, fork_moved, ReadBy, reader_of, moved_counted, key_begins, first_of_key, told_sort, told_word, no_key}
use Rattle.sv_type_parser.proofs.Words.{uniq_rule, uniq_begins, case_rule, case_first}
use Rattle.sv_type_parser.proofs.Limits.{Over, expression_rule, end_mark, stated}
use Rattle.sv_stmt_parser.proofs.Targets.{lvalue_rule}
use Rattle.sv_stmt_parser.proofs.Steps.{NoColon, block_label_rule, end_label_reads, end_label_moved}
use Rattle.sv_stmt_parser.proofs.Begins.{NoElse, empty_told, block_told, stmt_if_told, stmt_case_told, for_told, assign_told, stmt_begins, told_opener}
use Rattle.sv_stmt_parser.proofs.Arms.{Closed, DoneStmt, counted_done, ArmsEnd, DoneArms, arms_rule, stmt_told_no_colon, stmt_no_colon}
use Rattle.sv_stmt_parser.proofs.Stmts.{AssignSpelled, assign_mark_rule, assign_no_select, key_no_colon, end_no_else, endcase_no_else, each_done, each_stmt, some_arm_done, some_arm, stmt_grows, head_rule}

-- ---- what stands behind `unique` and its like

abbrev OtherSpelled : Stmt → Spelled
OtherSpelled y = key (keyword_text k.Else) ⨟ DoneStmt y

abbrev BranchSpelled : BranchTail → Spelled
BranchSpelled (branch_tail.If c x y) =
    key (keyword_text k.If) ⨟ (mark_spelled (mark_text m.LeftParen) ⨟ (Spells 0 c ⨟ (mark_spelled (mark_text m.RightParen) ⨟ (DoneStmt x ⨟ Shut (keyword_test k.Else) OtherSpelled y))))
BranchSpelled (branch_tail.Case w x all) =
    case_key w ⨟ (mark_spelled (mark_text m.LeftParen) ⨟ (Spells 0 x ⨟ (mark_spelled (mark_text m.RightParen) ⨟ (DoneArms all ⨟ key (keyword_text k.Endcase)))))

abbrev other_nests : Option Stmt → Depths
other_nests = if_given (λ y. one ++ stmt_depths y)

abbrev branch_nests : BranchTail → Depths
branch_nests (branch_tail.If c x y) = one ++ (one ++ (expr_depths c ++ (one ++ (stmt_depths x ++ other_nests y))))
branch_nests (branch_tail.Case w x all) = one ++ (one ++ (expr_depths x ++ (one ++ (each_depths arm_depths all ++ one))))

other_same : (y : Option Stmt) → other_nests y ≡ other_stmt_depths y
other_same None = refl
other_same (Some y) = refl

branch_nested : (c : Option Uniq × BranchTail) → in_stmt (if_given word_depths c.0 ++ branch_nests c.1) ≡ stmt_depths (made_branch c)
branch_nested (u, branch_tail.If c x y) =
    ap (λ l. in_stmt (if_given word_depths u ++ (one ++ (one ++ (expr_depths c ++ (one ++ (stmt_depths x ++ l))))))) (other_same y) ∙ sym (made.nests_if u c x y ∙ ap in_stmt (simp append_assoc))
branch_nested (u, branch_tail.Case w x all) = sym (made.nests_case u w x all ∙ ap in_stmt (simp append_assoc))

case_no_if : (w : CaseWord) (i o : List Token) → case_key w i o → told (keyword_test k.If) i ≡ None
unfolding same_keyword
case_no_if case_word.Case i o h = no_key k.If (so.Keyword k.Case) i refl (case_first case_word.Case i o h)
case_no_if case_word.Casez i o h = no_key k.If (so.Keyword k.Casez) i refl (case_first case_word.Casez i o h)

if_no_uniq : (i o : List Token) → key (keyword_text k.If) i o → told (word_test uniq_by_word) i ≡ None
if_no_uniq i o h = told_word uniq_by_word i ∙ ap (word_of uniq_by_word) (first_of_key k.If i o h)

case_no_uniq : (w : CaseWord) (i o : List Token) → case_key w i o → told (word_test uniq_by_word) i ≡ None
case_no_uniq case_word.Case i o h = told_word uniq_by_word i ∙ ap (word_of uniq_by_word) (case_first case_word.Case i o h)
case_no_uniq case_word.Casez i o h = told_word uniq_by_word i ∙ ap (word_of uniq_by_word) (case_first case_word.Casez i o h)

branch_no_uniq : (x : BranchTail) (i o : List Token) → BranchSpelled x i o → told (word_test uniq_by_word) i ≡ None
branch_no_uniq (branch_tail.If c x y) i o h = if_no_uniq i h.0 h.1
branch_no_uniq (branch_tail.Case w x all) i o h = case_no_uniq w i h.0 h.1

endcase_stops : (i o : List Token) → key (keyword_text k.Endcase) i o → ArmsEnd i
unfolding same_keyword
endcase_stops i o h = let f = first_of_key k.Endcase i o h in (no_key k.Default (so.Keyword k.Endcase) i refl f, (told_opener i ∙ ap opener f, key_no_colon k.Endcase i o h))

-- where `else` stands, the statement before it takes no other
closed_before : (x : Stmt) (i o : List Token) → Closed (is_closed x) i → key (keyword_text k.Else) i o → is_closed x ≡ true
closed_before x i o (inl h) e = h
closed_before x i o (inr h) e = let p = key_begins k.Else i o e in let f = p.1 in absurd (cc)

other_no_colon : (y : Option Stmt) (i o : List Token) → Shut (keyword_test k.Else) OtherSpelled y i o → NoColon o → NoColon i
other_no_colon None i o h stops = subst NoColon (sym h.1) stops
other_no_colon (Some y) i o h stops = key_no_colon k.Else i h.0 h.1

-- ---- an `if`

closed_none : (c : Bool) (o : List Token) → c ≡ false → Closed c o → NoElse o
closed_none c o e (inl h) = let f : true ≡ false = sym h ∙ e in absurd (cc)
closed_none c o e (inr h) = h

if_to : (u : Option Uniq) (c : Expr) (x : Stmt) (y : Option Stmt) (i o : List Token) → (maybe uniq_key u ⨟ BranchSpelled (branch_tail.If c x y)) i o → DoneStmt (st.If u c x y) i o
unfolding keyword_text mark_text
if_to u c x None i o h =
    let a = h.2.2.2.2.2 in
    (made.to_if u c x None i o (h.0, h.1, (h.2.0, h.2.1, (h.2.2.0, h.2.2.1, (h.2.2.2.0, h.2.2.2.1, (h.2.2.2.2.0, h.2.2.2.2.1, (a.0, a.1.0, a.2.1)))))), inr (subst NoElse a.2.1 a.2.0))
if_to u c x (Some y) i o h =
    let a = h.2.2.2.2.2 in (
      made.to_if u c x (Some y) i o
          (h.0, h.1, (h.2.0, h.2.1, (h.2.2.0, h.2.2.1, (h.2.2.2.0, h.2.2.2.1, (h.2.2.2.2.0, h.2.2.2.2.1, (a.0, a.1.0, (closed_before x a.0 a.2.0 a.1.1 a.2.1, (a.2.0, a.2.1, a.2.2.0)))))))),
      subst (λ b. Closed b o) (sym (made.closed_if u c x (Some y))) a.2.2.1,
    )

if_from : (u : Option Uniq) (c : Expr) (x : Stmt) (y : Option Stmt) (i o : List Token) → DoneStmt (st.If u c x y) i o → (maybe uniq_key u ⨟ BranchSpelled (branch_tail.If c x y)) i o
unfolding keyword_text mark_text
if_from u c x None i o h =
    let g = made.of_if u c x None i o h.0 in
    let n = closed_none (is_closed (st.If u c x None)) o (made.closed_if u c x None) h.1 in
    let a = g.2.2.2.2.2 in
    (g.0, g.1, (g.2.0, g.2.1, (g.2.2.0, g.2.2.1, (g.2.2.2.0, g.2.2.2.1, (g.2.2.2.2.0, g.2.2.2.2.1, (a.0, (a.1, inr (subst NoElse (sym a.2) n)), (subst NoElse (sym a.2) n, a.2)))))))
if_from u c x (Some y) i o h =
    let g = made.of_if u c x (Some y) i o h.0 in
    let a = g.2.2.2.2.2 in (
      g.0,
      g.1,
      (
        g.2.0,
        g.2.1,
        (
          g.2.2.0,
          g.2.2.1,
          (
            g.2.2.2.0,
            g.2.2.2.1,
            (
              g.2.2.2.2.0,
              g.2.2.2.2.1,
              (a.0, (a.1, inl a.2.0), (a.2.1.0, a.2.1.1, (a.2.1.2, subst (λ b. Closed b o) (made.closed_if u c x (Some y)) h.1))),
            ),
          ),
        ),
      ),
    )

-- ---- a `case`

case_to : (u : Option Uniq) (w : CaseWord) (x : Expr) (all : List Arm) (i o : List Token) → (maybe uniq_key u ⨟ BranchSpelled (branch_tail.Case w x all)) i o → DoneStmt (st.Case u w x all) i o
unfolding keyword_text mark_text
case_to u w x all i o h =
    let a = h.2.2.2.2.2 in
    (made.to_case u w x all i o (a.1.0, (h.0, h.1, (h.2.0, h.2.1, (h.2.2.0, h.2.2.1, (h.2.2.2.0, h.2.2.2.1, (h.2.2.2.2.0, h.2.2.2.2.1, (a.0, some_arm all h.2.2.2.2.0 a.0 a.1.1, a.2))))))), inl (made.closed_case u w x all))

case_from : (u : Option Uniq) (w : CaseWord) (x : Expr) (all : List Arm) (i o : List Token) → DoneStmt (st.Case u w x all) i o → (maybe uniq_key u ⨟ BranchSpelled (branch_tail.Case w x all)) i o
unfolding keyword_text mark_text
case_from u w x all i o h =
    let g = made.of_case u w x all i o h.0 in
    let b = g.1 in
    let a = b.2.2.2.2.2 in
    (b.0, b.1, (b.2.0, b.2.1, (b.2.2.0, b.2.2.1, (b.2.2.2.0, b.2.2.2.1, (b.2.2.2.2.0, b.2.2.2.2.1, (a.0, (g.0, some_arm_done all b.2.2.2.2.0 a.0 a.1 (endcase_no_else a.0 o a.2)), a.2))))))

branch_to : (c : Option Uniq × BranchTail) (i o : List Token) → (maybe uniq_key c.0 ⨟ BranchSpelled c.1) i o → DoneStmt (made_branch c) i o
branch_to (u, branch_tail.If c x y) i o h = if_to u c x y i o h
branch_to (u, branch_tail.Case w x all) i o h = case_to u w x all i o h

-- ---- blocks and loops

abbrev BlockSpelled : Place × (Option Word × (List Stmt × Option Word)) → Spelled
BlockSpelled c = key_at (keyword_text k.Begin) c.0 ⨟ (maybe block_name c.1.0 ⨟ (each DoneStmt c.1.1.0 ⨟ (key (keyword_text k.End) ⨟ label_of c.1.0 c.1.1.1)))

block_to : (c : Place × (Option Word × (List Stmt × Option Word))) (i o : List Token) → BlockSpelled c i o → DoneStmt (made_block c) i o
unfolding keyword_text
block_to c i o h =
    (made.to_block c.0 c.1.0 c.1.1.0 c.1.1.1 i o (h.0, h.1, (h.2.0, h.2.1, (h.2.2.0, each_stmt c.1.1.0 h.2.0 h.2.2.0 h.2.2.1, h.2.2.2))), inl (made.closed_block c.0 c.1.0 c.1.1.0 c.1.1.1))

block_from : (p : Place) (b : Option Word) (all : List Stmt) (e : Option Word) (i o : List Token) → DoneStmt (st.Block p b all e) i o → BlockSpelled (p, (b, (all, e))) i o
unfolding keyword_text
block_from p b all e i o h =
    let g = made.of_block p b all e i o h.0 in
    (g.0, g.1, (g.2.0, g.2.1, (g.2.2.0, each_done all g.2.0 g.2.2.0 g.2.2.1 (end_no_else g.2.2.0 g.2.2.2.0 g.2.2.2.1), g.2.2.2)))

abbrev TurnsSpelled : Word → Turns → Spelled
TurnsSpelled v c = mark_spelled (mark_text m.Assign) ⨟ (Spells 0 c.0 ⨟ (mark_spelled (mark_text m.Semicolon) ⨟ (Spells 0 c.1.0 ⨟ (mark_spelled (mark_text m.Semicolon) ⨟ (SpellsStep v c.1.1 ⨟ mark_spelled (mark_text m.RightParen))))))

abbrev LoopSpelled : Place × (LoopHead × Stmt) → Spelled
LoopSpelled c = key_at (keyword_text k.For) c.0 ⨟ ((mark_spelled (mark_text m.LeftParen) ⨟ (whole_key c.1.0.0 ⨟ (name c.1.0.1.0 ⨟ TurnsSpelled c.1.0.1.0 c.1.0.1.1))) ⨟ DoneStmt c.1.1)

loop_to : (c : Place × (LoopHead × Stmt)) (i o : List Token) → LoopSpelled c i o → DoneStmt (made_for c) i o
unfolding keyword_text mark_text
loop_to c i o h =
    let a = h.2.1 in
    let b = a.2.2.2 in
    let e = b.2.2.2.2.2 in (
      made.to_for c.0 c.1.0.0 c.1.0.1.0 c.1.0.1.1.0 c.1.0.1.1.1.0 c.1.0.1.1.1.1 c.1.1 i o
          (h.0, h.1, (a.0, a.1, (a.2.0, a.2.1, (a.2.2.0, a.2.2.1, (b.0, b.1, (b.2.0, b.2.1, (b.2.2.0, b.2.2.1, (b.2.2.2.0, b.2.2.2.1, (b.2.2.2.2.0, b.2.2.2.2.1, (e.0, e.1, (h.2.0, e.2, h.2.2.0))))))))))),
      subst (λ q. Closed q o) (sym (made.closed_for c.0 c.1.0.0 c.1.0.1.0 c.1.0.1.1.0 c.1.0.1.1.1.0 c.1.0.1.1.1.1 c.1.1)) h.2.2.1,
    )

loop_from : (p : Place) (form : WholeWord) (v : Word) (start test : Expr) (next : Step) (body : Stmt) (i o : List Token) → DoneStmt (st.For p form v start test next body) i o → LoopSpelled (p, ((form, (v, (start, (test, next)))), body)) i o
unfolding keyword_text mark_text
loop_from p form v start test next body i o h =
    let g = made.of_for p form v start test next body i o h.0 in
    let b = g.2.2.2.2 in
    let e = b.2.2.2.2.2 in
    let a = e.2 in
    (g.0, g.1, (a.0, (g.2.0, g.2.1, (g.2.2.0, g.2.2.1, (g.2.2.2.0, g.2.2.2.1, (b.0, b.1, (b.2.0, b.2.1, (b.2.2.0, b.2.2.1, (b.2.2.2.0, b.2.2.2.1, (b.2.2.2.2.0, b.2.2.2.2.1, (e.0, e.1, a.1))))))))), (a.2, subst (λ q. Closed q o) (made.closed_for p form v start test next body) h.1)))

assign_to : (c : Lvalue × ((AssignMark × Place) × Expr)) (i o : List Token) → (SpellsLvalue c.0 ⨟ (AssignSpelled c.1.0 ⨟ (Spells 0 c.1.1 ⨟ mark_spelled (mark_text m.Semicolon)))) i o → DoneStmt (made_assign c) i o
unfolding mark_text
assign_to c i o h = (made.to_assign c.0 c.1.0.0 c.1.0.1 c.1.1 i o h, inl refl)

assign_from : (to : Lvalue) (mk : AssignMark) (p : Place) (x : Expr) (i o : List Token) → DoneStmt (st.Assign to mk p x) i o
    → (SpellsLvalue to ⨟ (AssignSpelled (mk, p) ⨟ (Spells 0 x ⨟ mark_spelled (mark_text m.Semicolon)))) i o
unfolding mark_text
assign_from to mk p x i o h = made.of_assign to mk p x i o h.0

empty_to : (p : Place) (i o : List Token) → mark_at (mark_text m.Semicolon) p i o → DoneStmt st.Empty i o
unfolding mark_text
empty_to p i o h = (made.to_empty i o (some_mark (mark_text m.Semicolon) p i o h), inl refl)

empty_from : (i o : List Token) → DoneStmt st.Empty i o → (p : Place) × mark_at (mark_text m.Semicolon) p i o
unfolding mark_text
empty_from i o h = placed_mark (mark_text m.Semicolon) i o (made.of_empty i o h.0)

first_no_colon : (all : List Stmt) (i t o : List Token) → each DoneStmt all i t → key (keyword_text k.End) t o → NoColon i
first_no_colon [] i t o h e = subst NoColon (sym h) (key_no_colon k.End t o e)
first_no_colon (x ∷ all) i t o h e = stmt_no_colon x i h.0 h.1.0

end_no_stmt : (i o : List Token) → key (keyword_text k.End) i o → (told (sort_test stmt_by_sort) i ≡ None) × NoColon i
end_no_stmt i o h = (told_sort stmt_by_sort i refl ∙ ap stmt_by_sort (first_of_key k.End i o h), key_no_colon k.End i o h)

-- Statements are read of which at most s hold a token; a token that lies too deep is held by so many as the limit.
abbrev pub IsStmts : (limit s g t : ℕ) → Parser Stmt → Type 0
IsStmts limit s g t f = IsReader (Over limit g t) s DoneStmt DoneStmt stmt_depths NoColon f

-- The statements in a statement are read by f.
module _ (limit s g t : ℕ) (le : suc s ≤ 200) (f : Parser Stmt) (reads : IsStmts limit s g t f) where
  abbrev mk : MarkName → Fixed (Over limit g t)
  mk x = the_mark (Over limit g t) x

  abbrev ky : Keyword → Fixed (Over limit g t)
  ky x = the_key (Over limit g t) x

  abbrev inner_rule : Rule (Over limit g t) s Stmt
  inner_rule = rule_of reads counted_done

  abbrev part_rule : Rule (Over limit g t) s Expr
  part_rule = expression_rule limit g t s (omega arith)

  -- ---- blocks

  abbrev several_stmts : Rule (Over limit g t) s (List Stmt)
  several_stmts = several (sort_test stmt_by_sort) inner_rule (λ x i o h. stmt_begins x i o h.0) (λ x i o h. stmt_grows x) stmt_told_no_colon

  abbrev StmtsStop : List Token → Type 0
  StmtsStop o = (told (sort_test stmt_by_sort) o ≡ None) × NoColon o

  stmts_reads : IsReader (Over limit g t) s (each DoneStmt) (each DoneStmt) (each_depths stmt_depths) StmtsStop (while_told (sort_test stmt_by_sort) f)
  unfolding while_told
  stmts_reads = several_stmts.reads

  abbrev stmts_rule : Rule (Over limit g t) s (List Stmt)
  stmts_rule = record { spelled = each DoneStmt; nests = each_depths stmt_depths; stops = StmtsStop; parser = while_told (sort_test stmt_by_sort) f; reads = stmts_reads; moved = several_stmts.moved }

  abbrev end_rule : Option Word → Rule (Over limit g t) s (Option Word)
  end_rule b = record { spelled = label_of b; nests = if_given label_depths; stops = NoColon; parser = end_label b; reads = end_label_reads (Over limit g t) s b; moved = end_label_moved b }

  abbrev rest_rule : Option Word → Rule (Over limit g t) s (List Stmt × Option Word)
  rest_rule b = seq stmts_rule (before (ky k.End) (end_rule b)) (λ x y i o h stops. end_no_stmt i h.0 h.1)

  abbrev block_rule : Rule (Over limit g t) (suc s) (Place × (Option Word × (List Stmt × Option Word)))
  block_rule =
      seq_up (placed (ky k.Begin))
      (seq_by (block_label_rule (Over limit g t) s) (λ b c. (rest_rule b).spelled c) (λ c. each_depths stmt_depths c.0 ++ (one ++ if_given label_depths c.1)) NoColon (block_rest (sort_test stmt_by_sort) f)
      (λ b. (rest_rule b).reads) (λ b. (rest_rule b).moved) (λ b c i o h stops. first_no_colon c.0 i h.0 h.2.0 h.1 h.2.1))
      (λ x y i o h stops. tt) (λ x i o h. omega arith)

  -- ---- branches

  abbrev else_rule : Rule (Over limit g t) s Stmt
  else_rule = before (ky k.Else) inner_rule

  else_reads : IsReader (Over limit g t) s (Shut (keyword_test k.Else) OtherSpelled) (Shut (keyword_test k.Else) OtherSpelled) other_nests NoColon (maybe_else f)
  unfolding maybe_else
  else_reads = (shut (keyword_test k.Else) else_rule (λ x i o h. key_begins k.Else i h.0 h.1)).reads

  abbrev maybe_else_rule : Rule (Over limit g t) s (Option Stmt)
  maybe_else_rule = record {
    spelled = Shut (keyword_test k.Else) OtherSpelled;
    nests = other_nests;
    stops = NoColon;
    parser = maybe_else f;
    reads = else_reads;
    moved = (shut (keyword_test k.Else) else_rule (λ x i o h. key_begins k.Else i h.0 h.1)).moved;
  }

  abbrev if_rule : Rule (Over limit g t) (suc s) (Expr × (Stmt × Option Stmt))
  if_rule =
      opening (ky k.If)
      (before (mk m.LeftParen)
      (seq part_rule (before (mk m.RightParen) (seq inner_rule maybe_else_rule (λ x y i o h stops. other_no_colon y i o h stops))) (λ x y i o h stops. end_mark m.RightParen refl i h.0 h.1)))

  abbrev choice_rule : Rule (Over limit g t) (suc s) (CaseWord × (Expr × List Arm))
  choice_rule =
      seq_up (case_rule (Over limit g t) (suc s))
      (before (mk m.LeftParen)
      (seq part_rule (before (mk m.RightParen) (closing (arms_rule limit g t s (omega arith) f reads) (ky k.Endcase) endcase_stops)) (λ x y i o h stops. end_mark m.RightParen refl i h.0 h.1)))
      (λ x y i o h stops. tt) (λ x i o h. omega arith)

  abbrev BranchWay : Type 1
  BranchWay = Way (Over limit g t) (suc s) BranchTail BranchSpelled branch_nests NoColon

  abbrev if_way : BranchWay
  if_way = record { A = Expr × (Stmt × Option Stmt); rule = if_rule; made = made_if; nested = λ c. refl; to = λ c i o h. h; ends = λ o h. h }

  abbrev case_way : BranchWay
  case_way = record { A = CaseWord × (Expr × List Arm); rule = choice_rule; made = made_case; nested = λ c. refl; to = λ c i o h. h; ends = λ o h. tt }

  branch_view : (x : BranchTail) (i o : List Token) → BranchSpelled x i o → ((c : Place) × (told (keyword_test k.If) i ≡ Some c) × ReadBy if_way x i o) ⊎ ((told (keyword_test k.If) i ≡ None) × ReadBy case_way x i o)
  branch_view (branch_tail.If c x y) i o h = let p = key_begins k.If i h.0 h.1 in inl (p.0, p.1, ((c, (x, y)), refl, h))
  branch_view (branch_tail.Case w x all) i o h = inr (case_no_if w i h.0 h.1, ((w, (x, all)), refl, h))

  branched_reads : IsReader (Over limit g t) (suc s) BranchSpelled BranchSpelled branch_nests NoColon (branched f)
  unfolding branched conditional choice
  branched_reads = fork_reads (keyword_test k.If) if_way case_way branch_view

  abbrev branched_rule : Rule (Over limit g t) (suc s) BranchTail
  branched_rule = record { spelled = BranchSpelled; nests = branch_nests; stops = NoColon; parser = branched f; reads = branched_reads; moved = fork_moved (keyword_test k.If) if_way case_way branch_view }

  abbrev branch_rule : Rule (Over limit g t) (suc s) (Option Uniq × BranchTail)
  branch_rule = seq (optional (word_test uniq_by_word) (uniq_rule (Over limit g t) (suc s)) uniq_begins) branched_rule (λ u x i o h stops. (branch_no_uniq x i o h, tt))

  -- ---- loops and assignments

  abbrev loop_rule : Rule (Over limit g t) (suc s) (Place × (LoopHead × Stmt))
  loop_rule = seq_up (placed (ky k.For)) (seq (head_rule limit g t s (omega arith)) inner_rule (λ x y i o h stops. tt)) (λ x y i o h stops. tt) (λ x i o h. omega arith)

  abbrev assign_rule : Rule (Over limit g t) (suc s) (Lvalue × ((AssignMark × Place) × Expr))
  assign_rule =
      seq (lvalue_rule limit g t (suc s) le)
      (seq (assign_mark_rule (Over limit g t) (suc s)) (closing (expression_rule limit g t (suc s) le) (mk m.Semicolon) (end_mark m.Semicolon refl)) (λ x y i o h stops. tt))
      (λ x y i o h stops. assign_no_select y.0 i h.0 h.1)

  -- ---- a statement

  abbrev StmtWay : Type 1
  StmtWay = Way (Over (suc limit) g t) (suc s) Stmt DoneStmt stmt_depths NoColon

  abbrev ways : StmtOpener → StmtWay
  ways stmt_by.Empty = record { A = Place; rule = stated limit g t (placed (mk m.Semicolon)); made = λ c. st.Empty; nested = λ c. sym made.nests_empty; to = empty_to; ends = λ o h. tt }
  ways stmt_by.Block = record {
    A = Place × (Option Word × (List Stmt × Option Word));
    rule = stated limit g t block_rule;
    made = made_block;
    nested = λ c. sym (made.nests_block c.0 c.1.0 c.1.1.0 c.1.1.1 ∙ ap in_stmt (simp append_assoc));
    to = block_to;
    ends = λ o h. h;
  }
  ways stmt_by.Branch = record { A = Option Uniq × BranchTail; rule = stated limit g t branch_rule; made = made_branch; nested = branch_nested; to = branch_to; ends = λ o h. h }
  ways stmt_by.For = record {
    A = Place × (LoopHead × Stmt);
    rule = stated limit g t loop_rule;
    made = made_for;
    nested = λ c. sym (made.nests_for c.0 c.1.0.0 c.1.0.1.0 c.1.0.1.1.0 c.1.0.1.1.1.0 c.1.0.1.1.1.1 c.1.1 ∙ ap in_stmt (simp append_assoc));
    to = loop_to;
    ends = λ o h. h;
  }
  ways stmt_by.Target = record {
    A = Lvalue × ((AssignMark × Place) × Expr);
    rule = stated limit g t assign_rule;
    made = made_assign;
    nested = λ c. sym (made.nests_assign c.0 c.1.0.0 c.1.0.1 c.1.1 ∙ ap in_stmt (simp append_assoc));
    to = assign_to;
    ends = λ o h. tt;
  }

  same : (c : StmtOpener) → ◌≡◌ {A = Parser Stmt} (reader_of (ways c)) (stmt_for f c)
  unfolding empty block branch loop assign
  same stmt_by.Empty = refl
  same stmt_by.Block = refl
  same stmt_by.Branch = refl
  same stmt_by.For = refl
  same stmt_by.Target = refl

  abbrev StmtView : Stmt → Type 0
  StmtView x = (i o : List Token) → DoneStmt x i o → (c : StmtOpener) × (told (sort_test stmt_by_sort) i ≡ Some c) × ReadBy (ways c) x i o

  view : (x : Stmt) → StmtView x
  view = made.by_cases_stmt StmtView
      (λ i o h. let p = empty_from i o h in (stmt_by.Empty, empty_told i o h.0, (p.0, refl, p.1)))
      (λ p b all e i o h. (stmt_by.Block, block_told p b all e i o h.0, ((p, (b, (all, e))), refl, block_from p b all e i o h)))
      (λ u c x y i o h. (stmt_by.Branch, stmt_if_told u c x y i o h.0, ((u, branch_tail.If c x y), refl, if_from u c x y i o h)))
      (λ u w x all i o h. (stmt_by.Branch, stmt_case_told u w x all i o h.0, ((u, branch_tail.Case w x all), refl, case_from u w x all i o h)))
      (λ p form v start test next body i o h. (stmt_by.For, for_told p form v start test next body i o h.0, ((p, ((form, (v, (start, (test, next)))), body)), refl, loop_from p form v start test next body i o h)))
      (λ to mk p x i o h. (stmt_by.Target, assign_told to mk p x i o h.0, ((to, ((mk, p), x)), refl, assign_from to mk p x i o h)))

  pub stmt_level_reads : IsReader (Over (suc limit) g t) (suc s) DoneStmt DoneStmt stmt_depths NoColon (stmt_level f)
  unfolding stmt_level
  stmt_level_reads = choose_reads (sort_test stmt_by_sort) ways (stmt_for f) same view

stated_over : (g t : ℕ) (x : Stmt) (m : Depths) → stmt_depths x ≡ in_stmt m → BadAt (Over 1 g t) (stmt_depths x) 0
unfolding in_stmt
stated_over g t x [] e = absurd (omega (arith, ap length e, stmt_grows x))
stated_over g t x (n ∷ m) e = subst (λ l. BadAt (Over 1 g t) l 0) (sym e) (inr (inl (omega arith)))

-- each token of a statement is held by it
none_stated : (g t : ℕ) (x : Stmt) (i o : List Token) → DoneStmt x i o → BadAt (Over 1 g t) (stmt_depths x) 0
none_stated g t x i o h =
    made.by_cases_stmt (λ x. BadAt (Over 1 g t) (stmt_depths x) 0)
    (stated_over g t st.Empty _ made.nests_empty)
    (λ p b all e. stated_over g t (st.Block p b all e) _ (made.nests_block p b all e))
    (λ u c x y. stated_over g t (st.If u c x y) _ (made.nests_if u c x y))
    (λ u w x all. stated_over g t (st.Case u w x all) _ (made.nests_case u w x all))
    (λ p form v start test next body. stated_over g t (st.For p form v start test next body) _ (made.nests_for p form v start test next body))
    (λ to m p x. stated_over g t (st.Assign to m p x) _ (made.nests_assign to m p x))
    x

-- Statements, of which at most so many hold a token.
pub stmt_reads : (s g t : ℕ) → s ≤ 200 → IsStmts (suc s) s g t (stmt s)
unfolding stmt
stmt_reads zero g t le = deep_reader (Over 1 g t) DoneStmt stmt_depths (moved_counted counted_done) (none_stated g t) DoneStmt NoColon
stmt_reads (suc s) g t le = stmt_level_reads (suc s) s g t le (stmt s) (stmt_reads s g t (omega arith))
