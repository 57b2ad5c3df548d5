-- Statements are read as they are spelled, at each depth.
use Rattle.std.proofs.Common.{◌≡◌, ℕ, ◌<◌, ◌≤◌, inr, List, [], ◌∷◌, ◌++◌, length, Option, Some, None, refl, sym, ◌∙◌, ap, subst, length-append, arith}
use Rattle.sv_outside.specs.declared.refusal.Place.{Place}
use Rattle.sv_outside.specs.declared.text.Token.{Token}
use Rattle.sv_tree.specs.declared.word.Word.{Word}
use Rattle.sv_tree.specs.declared.stmts.AssignMark.{AssignMark}
use Rattle.sv_tree.specs.declared.stmts.AssignMark.TheVariants as assign_mark
use Rattle.sv_tree.specs.declared.stmts.Stmt.{Stmt}
use Rattle.sv_tree.specs.declared.stmts.Arm.{Arm}
use Rattle.sv_tree.specs.Spelling.{Spelled, mark_at, key, each}
use Rattle.sv_tree.specs.GrammarStmts.{assign_text, SpellsStmt, SpellsArm}
use Rattle.sv_tree.specs.Nesting.{Nesting, one, expr_depths}
use Rattle.sv_tree.specs.NestingDesign.{step_depths, stmt_depths}
use Rattle.sv_tree.proofs.MadeStmts.{some, default_count, other_stmt_depths, is_other_closed, other_spelled}
use Rattle.sv_tree.proofs.MadeStmts as made
use Rattle.sv_tree.proofs.Counted.{counted_token, length_in_stmt}
use Rattle.sv_cursor.specs.declared.sort.Keyword.{Keyword}
use Rattle.sv_cursor.specs.declared.sort.Keyword.TheVariants as k
use Rattle.sv_cursor.specs.declared.sort.Mark.{Mark as MarkName}
use Rattle.sv_cursor.specs.declared.sort.Mark.TheVariants as m
use Rattle.sv_cursor.specs.declared.sort.Sort.{Sort}
use Rattle.sv_cursor.specs.declared.sort.Sort.TheVariants as so
use Rattle.sv_cursor.specs.Sorts.{sort, mark_text, keyword_text}
use Rattle.sv_cursor.specs.Tests.{same_keyword}
use Rattle.sv_cursor.specs.Parsers.{token}
use Rattle.sv_cursor.proofs.Readers.{IsReader, Told, one_nest, token_reader, less_reader}
use Rattle.sv_cursor.proofs.Tested.{mark_here, sort_mark}
use Rattle.sv_expr_words.specs.Signs.{opener, opener_test}
use Rattle.sv_expr_reader.proofs.Tokens.{Any, outside}
use Rattle.sv_word_parser.specs.Combined.{sign_of}
use Rattle.sv_word_parser.specs.Words.{assign_by_mark}
use Rattle.sv_stmt_parser.specs.Stmts.{with_place, assign_test}
use Rattle.sv_stmt_parser.specs.Loops.{Turns, head_turns, LoopHead, loop_head}
use Rattle.sv_type_parser.proofs.Rules.{Rule, the_mark, before, closing, seq, seq_by, rule_of, name_rule, first_of_key, no_mark, no_key}
use Rattle.sv_type_parser.proofs.Words.{whole_rule}
use Rattle.sv_type_parser.proofs.Limits.{Over, expression_rule, end_mark}
use Rattle.sv_stmt_parser.proofs.Targets.{NoSelect, no_select}
use Rattle.sv_stmt_parser.proofs.Steps.{NoColon, step_tree_rule}
use Rattle.sv_stmt_parser.proofs.Begins.{NoElse, stmt_no_else, exprs_no_else}
use Rattle.sv_stmt_parser.proofs.Arms.{DoneStmt, DoneArm}

-- ---- the mark of an assignment

abbrev assign_name : AssignMark → MarkName
assign_name assign_mark.Blocking = m.Assign
assign_name assign_mark.Nonblocking = m.LessEqual

assign_texts : (x : AssignMark) → assign_text x ≡ mark_text (assign_name x)
unfolding mark_text
assign_texts assign_mark.Blocking = refl
assign_texts assign_mark.Nonblocking = refl

assign_is : (x : AssignMark) → assign_by_mark (assign_name x) ≡ Some x
assign_is assign_mark.Blocking = refl
assign_is assign_mark.Nonblocking = refl

assign_so : (k : MarkName) (x : AssignMark) → assign_by_mark k ≡ Some x → k ≡ assign_name x
assign_so m.Assign x h = let e : assign_mark.Blocking ≡ x = cc in ap assign_name e
assign_so m.LessEqual x h = let e : assign_mark.Nonblocking ≡ x = cc in ap assign_name e
assign_so _ x h = absurd (cc)

assign_sort : (y : Sort) (x : AssignMark) → sign_of assign_by_mark y ≡ Some x → y ≡ so.Mark (assign_name x)
assign_sort (so.Mark k) x h = ap so.Mark (assign_so k x h)
assign_sort _ x h = absurd (cc)

abbrev pub AssignSpelled : AssignMark × Place → Spelled
AssignSpelled c = mark_at (assign_text c.0) c.1

with_some : {A : Type 0} (q : Option A) (p : Place) (c : A × Place) → with_place q p ≡ Some c → (q ≡ Some c.0) × (p ≡ c.1)
with_some None p c h = absurd (cc)
with_some {A = A} (Some x) p c h = let e : ◌≡◌ {A = A × Place} (x, p) c = cc in (ap (λ c. Some c.0) e, ap (λ c. c.1) e)

assign_of : (c : AssignMark × Place) (i o : List Token) → Told assign_test c i o → AssignSpelled c i o
unfolding assign_test sort
assign_of c [] o h = absurd h
assign_of c (a ∷ i) o h =
    let g = with_some (sign_of assign_by_mark (sort a)) a.place c h.0 in
    let e = sort_mark a.kind a.text (assign_name c.0) (assign_sort (sort a) c.0 g.0) in ((e.0, e.1 ∙ sym (assign_texts c.0), g.1), h.1)

told_of_assign : (c : AssignMark × Place) (i o : List Token) → AssignSpelled c i o → Told assign_test c i o
unfolding assign_test
told_of_assign c [] o h = absurd h
told_of_assign c (a ∷ i) o h =
    (ap (λ y. with_place (sign_of assign_by_mark y) a.place) (mark_here a (assign_name c.0) h.0.0 (h.0.1 ∙ assign_texts c.0)) ∙ (ap (λ q. with_place q a.place) (assign_is c.0) ∙ ap (λ p. Some (c.0, p)) h.0.2), h.1)

pub assign_mark_reads : (Bad : Nesting → Type 0) (depth : ℕ) → IsReader Bad depth AssignSpelled AssignSpelled (one_nest outside) Any (token assign_test)
assign_mark_reads Bad depth = less_reader Bad depth depth (Told assign_test) (Told assign_test) AssignSpelled AssignSpelled (one_nest outside) Any Any (token assign_test)
    (token_reader Bad depth outside assign_test Any) (omega arith) assign_of told_of_assign (λ o h. h)

abbrev pub assign_mark_rule : (Bad : Nesting → Type 0) (depth : ℕ) → Rule Bad depth (AssignMark × Place)
assign_mark_rule Bad depth = rule_of (assign_mark_reads Bad depth) (λ c. counted_token _)

pub assign_no_select : (c : AssignMark × Place) (i o : List Token) → AssignSpelled c i o → NoSelect i
assign_no_select (x, p) [] o h = absurd h
assign_no_select (x, p) (a ∷ i) o h = no_select (so.Mark (assign_name x)) (a ∷ i) (mark_here a (assign_name x) h.0.0 (h.0.1 ∙ assign_texts x)) (by_mark x)
  where
    by_mark : (x : AssignMark) → Rattle.sv_expr_words.specs.Signs.select_opener (so.Mark (assign_name x)) ≡ None
    by_mark assign_mark.Blocking = refl
    by_mark assign_mark.Nonblocking = refl

-- ---- what stands where a statement ends

pub key_no_colon : (w : Keyword) (i o : List Token) → key (keyword_text w) i o → NoColon i
key_no_colon w i o h = no_mark m.Colon (so.Keyword w) i refl (first_of_key w i o h)

pub end_no_else : (i o : List Token) → key (keyword_text k.End) i o → NoElse i
unfolding same_keyword
end_no_else i o h = no_key k.Else (so.Keyword k.End) i refl (first_of_key k.End i o h)

pub endcase_no_else : (i o : List Token) → key (keyword_text k.Endcase) i o → NoElse i
unfolding same_keyword
endcase_no_else i o h = no_key k.Else (so.Keyword k.Endcase) i refl (first_of_key k.Endcase i o h)

-- each of several statements is whole
pub each_done : (all : List Stmt) (i o : List Token) → each SpellsStmt all i o → NoElse o → each DoneStmt all i o
each_done [] i o h none = h
each_done (x ∷ []) i o h none = (h.0, (h.1, inr (subst NoElse (sym h.2) none)), h.2)
each_done (x ∷ y ∷ all) i o h none = (h.0, (h.1, inr (stmt_no_else y h.0 h.2.0 h.2.1)), each_done (y ∷ all) h.0 o h.2 none)

pub each_stmt : (all : List Stmt) (i o : List Token) → each DoneStmt all i o → each SpellsStmt all i o
each_stmt [] i o h = h
each_stmt (x ∷ all) i o h = (h.0, h.1.0, each_stmt all h.0 o h.2)

arm_no_else : (x : Arm) (i o : List Token) → SpellsArm x i o → NoElse i
unfolding same_keyword keyword_text
arm_no_else = made.by_cases_arm (λ x. (i o : List Token) → SpellsArm x i o → NoElse i)
    (λ xs x i o h. let g = made.of_labels xs x i o h in exprs_no_else xs i g.0 g.1)
    (λ b x i o h. let g = made.of_default b x i o h in no_key k.Else (so.Keyword k.Default) i refl (first_of_key k.Default i g.0 g.1))

each_arm_done : (all : List Arm) (i o : List Token) → each SpellsArm all i o → NoElse o → each DoneArm all i o
each_arm_done [] i o h none = h
each_arm_done (x ∷ []) i o h none = (h.0, (h.1, inr (subst NoElse (sym h.2) none)), h.2)
each_arm_done (x ∷ y ∷ all) i o h none = (h.0, (h.1, inr (arm_no_else y h.0 h.2.0 h.2.1)), each_arm_done (y ∷ all) h.0 o h.2 none)

pub some_arm_done : (all : List Arm) (i o : List Token) → some SpellsArm all i o → NoElse o → some DoneArm all i o
some_arm_done [] i o h none = h
some_arm_done (x ∷ all) i o h none = each_arm_done (x ∷ all) i o h none

each_arm : (all : List Arm) (i o : List Token) → each DoneArm all i o → each SpellsArm all i o
each_arm [] i o h = h
each_arm (x ∷ all) i o h = (h.0, h.1.0, each_arm all h.0 o h.2)

pub some_arm : (all : List Arm) (i o : List Token) → some DoneArm all i o → some SpellsArm all i o
some_arm [] i o h = h
some_arm (x ∷ all) i o h = each_arm (x ∷ all) i o h

pub stmt_grows : (x : Stmt) → 0 < length (stmt_depths x)
stmt_grows = made.by_cases_stmt (λ x. 0 < length (stmt_depths x))
    (subst (λ l. 0 < length l) (sym made.nests_empty) (simp length_in_stmt (omega arith)))
    (λ p b all e. subst (λ l. 0 < length l) (sym (made.nests_block p b all e)) (simp (length_in_stmt, length-append) (omega arith)))
    (λ u c x y. subst (λ l. 0 < length l) (sym (made.nests_if u c x y)) (simp (length_in_stmt, length-append) (omega arith)))
    (λ u w x all. subst (λ l. 0 < length l) (sym (made.nests_case u w x all)) (simp (length_in_stmt, length-append) (omega arith)))
    (λ p form v start test next body. subst (λ l. 0 < length l) (sym (made.nests_for p form v start test next body)) (simp (length_in_stmt, length-append) (omega arith)))
    (λ to mk p x. subst (λ l. 0 < length l) (sym (made.nests_assign to mk p x)) (simp (length_in_stmt, length-append) (omega arith)))

-- ---- the head of a loop

module _ (s g t d : ℕ) (le : d ≤ 200) where
  abbrev turns_rule : Word → Rule (Over s g t) d Turns
  turns_rule v =
      before (the_mark (Over s g t) m.Assign)
      (seq (expression_rule s g t d le)
      (before (the_mark (Over s g t) m.Semicolon)
      (seq (expression_rule s g t d le) (before (the_mark (Over s g t) m.Semicolon) (closing (step_tree_rule s g t d le v) (the_mark (Over s g t) m.RightParen) (end_mark m.RightParen refl)))
      (λ x y i o h stops. end_mark m.Semicolon refl i h.0 h.1)))
      (λ x y i o h stops. end_mark m.Semicolon refl i h.0 h.1))

  -- the variable of a loop, and its turns
  abbrev pub variable_rule : Rule (Over s g t) d (Word × Turns)
  variable_rule =
      seq_by (name_rule (Over s g t) d) (λ v c. (turns_rule v).spelled c) (λ c. one ++ (expr_depths c.0 ++ (one ++ (expr_depths c.1.0 ++ (one ++ (step_depths c.1.1 ++ one)))))) Any
      head_turns (λ v. (turns_rule v).reads) (λ v. (turns_rule v).moved) (λ v c i o h stops. tt)

  abbrev head_tuple : Rule (Over s g t) d LoopHead
  head_tuple = before (the_mark (Over s g t) m.LeftParen) (seq (whole_rule (Over s g t) d) variable_rule (λ x y i o h stops. tt))

  pub head_reads : IsReader (Over s g t) d head_tuple.spelled head_tuple.spelled head_tuple.nests Any loop_head
  unfolding loop_head
  head_reads = head_tuple.reads

  abbrev pub head_rule : Rule (Over s g t) d LoopHead
  head_rule = record { spelled = head_tuple.spelled; nests = head_tuple.nests; stops = Any; parser = loop_head; reads = head_reads; moved = head_tuple.moved }
