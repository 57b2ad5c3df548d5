-- Targets are read as they are spelled, at each depth.
use Rattle.std.proofs.Common.{◌≡◌, ℕ, zero, suc, ◌+◌, ◌-◌, ◌<◌, ◌≤◌, inl, List, [], ◌∷◌, ◌++◌, length, drop, Option, Some, None, Err, refl, sym, ◌∙◌, ap, subst, append_assoc, arith}
use Rattle.sv_outside.specs.declared.refusal.Place.{Place}
use Rattle.sv_outside.specs.declared.text.Token.{Token}
use Rattle.sv_tree.specs.declared.word.Word.{Word}
use Rattle.sv_tree.specs.declared.exprs.Select.{Select}
use Rattle.sv_tree.specs.declared.stmts.Lvalue.{Lvalue}
use Rattle.sv_tree.specs.declared.stmts.Lvalue.TheVariants as lv
use Rattle.sv_tree.specs.Spelling.{Spelled, ◌⨟◌, mark as mark_spelled, mark_at, commas}
use Rattle.sv_tree.specs.GrammarExprs.{SpellsSelect, is_range}
use Rattle.sv_tree.specs.GrammarStmts.{SpellsChain, SpellsLvalue}
use Rattle.sv_tree.specs.Nesting.{Depths, one, in_expr, each_depths, commas_depths, select_depths}
use Rattle.sv_tree.specs.NestingDesign.{lvalue_depths}
use Rattle.sv_tree.proofs.MadeStmts as made
use Rattle.sv_tree.proofs.Counted.{counted_chain, counted_lvalue}
use Rattle.sv_tree.proofs.Framed.{length_in}
use Rattle.sv_cursor.specs.declared.sort.Mark.TheVariants as m
use Rattle.sv_cursor.specs.declared.error.ParseErr.TheVariants.{Syntax}
use Rattle.sv_cursor.specs.declared.sort.Sort.{Sort}
use Rattle.sv_cursor.specs.declared.sort.Sort.TheVariants as so
use Rattle.sv_cursor.specs.Sorts.{mark_text}
use Rattle.sv_cursor.specs.Tests.{same_mark, mark_test, mark}
use Rattle.sv_cursor.specs.Parsers.{Outcome, Parser, ◌<$>◌, ◌⊗◌, guarded, told, branch, refuse}
use Rattle.sv_cursor.proofs.Readers.{IsReader, IsMoved, BadAt, Chain, nests_reader, less_reader, deep_reader}
use Rattle.sv_expr_words.specs.Signs.{select_test, select_opener}
use Rattle.sv_expr_reader.specs.Reading.{expr, selects}
use Rattle.sv_expr_reader.proofs.Tokens.{Bad, Any, bad_in, in_append}
use Rattle.sv_expr_reader.proofs.SelectParts.{select_part, selects_reader, chain_of, of_chain}
use Rattle.sv_expr_reader.proofs.Laws.{expr_reader}
use Rattle.sv_expr_reader.proofs.Turns.{deeper as deeper_by}
use Rattle.sv_word_parser.specs.declared.openers.TargetOpener.{TargetOpener}
use Rattle.sv_word_parser.specs.declared.openers.TargetOpener.TheVariants as target_by
use Rattle.sv_word_parser.specs.Combined.{◌◂◌, sort_test, listed}
use Rattle.sv_word_parser.specs.Words.{target_by_sort}
use Rattle.sv_stmt_parser.specs.Targets.{made_target, named_target, made_targets, braced_targets, target_for, target_level, target, lvalue}
use Rattle.sv_type_parser.proofs.Rules.{Rule, the_mark, placed, seq, seq_up, closing, deeper, rule_of, list_rule, name_rule, moved_counted, Way, choose_reads, ReadBy, reader_of, IsFirst, first_of_mark, first_of_mark_at, first_of_name, told_sort, no_mark}
use Rattle.sv_type_parser.proofs.Limits.{Over, bad_weaker}

-- what stops the selects of a target
abbrev pub NoSelect : List Token → Type 0
NoSelect o = told select_test o ≡ None

pub no_select : (x : Sort) (i : List Token) → IsFirst x i → select_opener x ≡ None → NoSelect i
unfolding select_test
no_select x [] h e = refl
no_select x (a ∷ i) h e = ap select_opener h ∙ e

bad_out : (m : ℕ) (d : Depths) (k : ℕ) → BadAt (Bad (suc m)) (in_expr d) k → BadAt (Bad m) d k
unfolding in_expr
bad_out m [] k h = h
bad_out m (n ∷ d) zero h = omega arith
bad_out m (n ∷ d) (suc k) h = bad_out m d k h

each_in : (all : List Select) → in_expr (each_depths select_depths all) ≡ each_depths select_part all
unfolding in_expr
each_in [] = refl
each_in (x ∷ all) = in_append (select_depths x) (each_depths select_depths all) ∙ ap (λ l. select_part x ++ l) (each_in all)

comma_no_select : (i : List Token) → IsFirst (so.Mark m.Comma) i → NoSelect i
comma_no_select i h = no_select (so.Mark m.Comma) i h refl

brace_no_select : (i o : List Token) → mark_spelled (mark_text m.RightBrace) i o → (told (mark_test m.Comma) i ≡ None) × NoSelect i
unfolding same_mark
brace_no_select i o h = let f = first_of_mark m.RightBrace i o h in (no_mark m.Comma (so.Mark m.RightBrace) i refl f, no_select (so.Mark m.RightBrace) i f refl)

told_target : (x : Sort) (i : List Token) → IsFirst x i → told (sort_test target_by_sort) i ≡ target_by_sort x
told_target x i h = told_sort target_by_sort i refl ∙ ap target_by_sort h

-- the first token of a target
pub lvalue_begins : (x : Lvalue) (i o : List Token) → SpellsLvalue x i o → (c : TargetOpener) × (told (sort_test target_by_sort) i ≡ Some c)
unfolding mark_text
lvalue_begins = made.by_cases_lvalue (λ x. (i o : List Token) → SpellsLvalue x i o → (c : TargetOpener) × (told (sort_test target_by_sort) i ≡ Some c))
    (λ w all i o h. (target_by.Name, told_target so.Id i (first_of_name w i h.0 h.1)))
    (λ p all i o h. let g = made.of_targets p all i o h in (target_by.Brace, told_target (so.Mark m.LeftBrace) i (first_of_mark_at m.LeftBrace p i g.0 g.1)))

-- ---- the law at each depth

-- so many tokens stand before one that lies too deep
abbrev before_deep : ℕ → ℕ
before_deep zero = zero
before_deep (suc d) = d

-- Targets are read, a token of which less than so many expressions hold.
abbrev IsTargets : ℕ → Parser Lvalue → Type 0
IsTargets d f = IsReader (Bad d) (before_deep d) SpellsLvalue SpellsLvalue lvalue_depths NoSelect f

chain_reads : (d : ℕ) → IsReader (Bad (suc d)) d SpellsChain SpellsChain (each_depths select_depths) NoSelect (selects (suc d) (expr (suc d)))
chain_reads d =
    less_reader (Bad (suc d)) (suc d) d (Chain is_range SpellsSelect) (Chain is_range SpellsSelect) SpellsChain SpellsChain (each_depths select_depths) (λ o. (told select_test o ≡ None) × Any o) NoSelect (selects (suc d) (expr (suc d)))
    (nests_reader (Bad (suc (suc d))) (Bad (suc d)) (each_depths select_part) (each_depths select_depths)
    (λ all. sym (ap length (sym (each_in all)) ∙ length_in (each_depths select_depths all)))
    (λ all k h. bad_out (suc d) (each_depths select_depths all) k (subst (λ l. BadAt (Bad (suc (suc d))) l k) (sym (each_in all)) h))
    (suc d) (Chain is_range SpellsSelect) (Chain is_range SpellsSelect) (λ o. (told select_test o ≡ None) × Any o) (selects (suc d) (expr (suc d))) (selects_reader (suc d) (expr (suc d)) (expr_reader (suc d))))
    (omega arith) of_chain chain_of (λ o h. (h, tt))

abbrev BraceSpelled : Place × List Lvalue → Spelled
BraceSpelled c = mark_at (mark_text m.LeftBrace) c.0 ⨟ (commas SpellsLvalue c.1 ⨟ mark_spelled (mark_text m.RightBrace))

abbrev brace_nests : Place × List Lvalue → Depths
brace_nests c = in_expr (one ++ (commas_depths lvalue_depths c.1 ++ one))

brace_to : (c : Place × List Lvalue) (i o : List Token) → BraceSpelled c i o → SpellsLvalue (made_targets c) i o
unfolding mark_text
brace_to c i o h = made.to_targets c.0 c.1 i o h

brace_nested : (c : Place × List Lvalue) → brace_nests c ≡ lvalue_depths (made_targets c)
brace_nested c = sym (made.nests_targets c.0 c.1 ∙ ap in_expr (simp append_assoc))

brace_moved : IsMoved BraceSpelled brace_nests
brace_moved = record {
  count = λ c i o h. (counted_lvalue (made_targets c)).count i o (brace_to c i o h) ∙ ap (λ l. length l + length o) (sym (brace_nested c));
  rest = λ c i o h. (counted_lvalue (made_targets c)).rest i o (brace_to c i o h) ∙ ap (λ l. drop (length l) i) (sym (brace_nested c));
}

brace_first : (c : Place × List Lvalue) → BadAt (Bad 1) (brace_nests c) 0
unfolding in_expr
brace_first c = omega arith

-- the targets in braces are read by f
module _ (d : ℕ) (f : Parser Lvalue) (reads : IsReader (Bad (suc d)) d SpellsLvalue SpellsLvalue lvalue_depths NoSelect f) where
  abbrev brace_rule : Rule (Bad (suc (suc d))) (suc d) (Place × List Lvalue)
  brace_rule =
      deeper in_expr length_in (bad_in (suc d))
      (seq_up (placed (the_mark (Bad (suc d)) m.LeftBrace)) (closing (list_rule (rule_of reads counted_lvalue) comma_no_select) (the_mark (Bad (suc d)) m.RightBrace) brace_no_select) (λ x y i o h stops. tt) (λ x i o h. omega arith))

abbrev inside : Parser Lvalue → Parser (Place × List Lvalue)
inside f = mark m.LeftBrace ⊗ (listed f ◂ mark m.RightBrace)

inside_reads : (d : ℕ) (f : Parser Lvalue) → IsTargets d f → IsReader (Bad (suc d)) d BraceSpelled BraceSpelled brace_nests Any (guarded d (inside f))
inside_reads zero f reads = deep_reader (Bad 1) BraceSpelled brace_nests brace_moved (λ c i o h. brace_first c) BraceSpelled Any
inside_reads (suc d) f reads = (brace_rule d f reads).reads

inside_same : (d : ℕ) (f : Parser Lvalue) → ◌≡◌ {A = Parser Lvalue} (made_targets <$> guarded d (inside f)) (guarded d (braced_targets f))
unfolding braced_targets
inside_same zero f = refl
inside_same (suc d) f = refl

module _ (d : ℕ) (f : Parser Lvalue) (reads : IsTargets d f) where
  abbrev TargetWay : Type 1
  TargetWay = Way (Bad (suc d)) d Lvalue SpellsLvalue lvalue_depths NoSelect

  abbrev ways : TargetOpener → TargetWay
  ways target_by.Name = record {
    A = Word × List Select;
    rule = seq (name_rule (Bad (suc d)) d) (rule_of (chain_reads d) counted_chain) (λ x y i o h stops. tt);
    made = made_target;
    nested = λ c. sym (made.nests_target c.0 c.1);
    to = λ c i o h. h;
    ends = λ o h. h;
  }
  ways target_by.Brace = record {
    A = Place × List Lvalue;
    rule = record { spelled = BraceSpelled; nests = brace_nests; stops = Any; parser = guarded d (inside f); reads = inside_reads d f reads; moved = brace_moved };
    made = made_targets;
    nested = brace_nested;
    to = brace_to;
    ends = λ o h. tt;
  }

  same : (c : TargetOpener) → ◌≡◌ {A = Parser Lvalue} (reader_of (ways c)) (target_for d f c)
  unfolding named_target
  same target_by.Name = refl
  same target_by.Brace = inside_same d f

  abbrev TargetView : Lvalue → Type 0
  TargetView x = (i o : List Token) → SpellsLvalue x i o → (c : TargetOpener) × (told (sort_test target_by_sort) i ≡ Some c) × ReadBy (ways c) x i o

  view : (x : Lvalue) → TargetView x
  unfolding mark_text
  view = made.by_cases_lvalue TargetView
      (λ w all i o h. (target_by.Name, told_target so.Id i (first_of_name w i h.0 h.1), ((w, all), refl, h)))
      (λ p all i o h. let g = made.of_targets p all i o h in (target_by.Brace, told_target (so.Mark m.LeftBrace) i (first_of_mark_at m.LeftBrace p i g.0 g.1), ((p, all), refl, g)))

  level_reads : IsReader (Bad (suc d)) d SpellsLvalue SpellsLvalue lvalue_depths NoSelect (target_level d f)
  unfolding target_level
  level_reads = choose_reads (sort_test target_by_sort) ways (target_for d f) same view

first_held : (x : Lvalue) → BadAt (Bad 0) (lvalue_depths x) 0
unfolding in_expr
first_held = made.by_cases_lvalue (λ x. BadAt (Bad 0) (lvalue_depths x) 0) (λ w all. rw (made.nests_target w all) (omega arith)) (λ p all. rw (made.nests_targets p all) (omega arith))

target_reads : (d : ℕ) → IsTargets d (target d)
unfolding target
target_reads zero = deep_reader (Bad 0) SpellsLvalue lvalue_depths (moved_counted counted_lvalue) (λ x i o h. first_held x) SpellsLvalue NoSelect
target_reads (suc d) = level_reads d (target d) (target_reads d)

module _ (s g t d : ℕ) (le : d ≤ 200) where
  -- Targets.
  pub lvalue_reads : IsReader (Over s g t) d SpellsLvalue SpellsLvalue lvalue_depths NoSelect lvalue
  lvalue_reads =
      less_reader (Over s g t) 200 d SpellsLvalue SpellsLvalue SpellsLvalue SpellsLvalue lvalue_depths NoSelect NoSelect lvalue
      (nests_reader (Bad 201) (Over s g t) lvalue_depths lvalue_depths (λ x. refl) (λ x k h. bad_weaker (Bad 201) (Over s g t) (λ n e. inl e) (lvalue_depths x) k h) 200 SpellsLvalue SpellsLvalue NoSelect lvalue (target_reads 201))
      le (λ a i o h. h) (λ a i o h. h) (λ o h. h)

  abbrev pub lvalue_rule : Rule (Over s g t) d Lvalue
  lvalue_rule = rule_of lvalue_reads counted_lvalue

-- ---- what the first token chooses, for the code

module _ (d : ℕ) (i : List Token) (some : 0 < d) where
  pub name_told : told (sort_test target_by_sort) i ≡ Some target_by.Name → ◌≡◌ {A = Outcome Lvalue} (target d i) (named_target d i)
  unfolding target target_level
  name_told e = let k : suc (d - 1) ≡ d = omega (arith, some) in deeper_by (λ n. target n i) d some ∙ (ap (λ q. branch q (target_for (d - 1) (target (d - 1))) refuse i) e ∙ ap (λ n. named_target n i) k)

  pub brace_told : told (sort_test target_by_sort) i ≡ Some target_by.Brace → ◌≡◌ {A = Outcome Lvalue} (target d i) (guarded (d - 1) (braced_targets (target (d - 1))) i)
  unfolding target target_level
  brace_told e = deeper_by (λ n. target n i) d some ∙ ap (λ q. branch q (target_for (d - 1) (target (d - 1))) refuse i) e

  pub none_told : told (sort_test target_by_sort) i ≡ None → ◌≡◌ {A = Outcome Lvalue} (target d i) (Err (Syntax (length i)))
  unfolding target target_level
  none_told e = deeper_by (λ n. target n i) d some ∙ ap (λ q. branch q (target_for (d - 1) (target (d - 1))) refuse i) e
