-- Labels and the steps of loops are read as they are spelled.
use Rattle.std.proofs.Common.{◌≡◌, ℕ, ◌≤◌, ◌⊎◌, inl, inr, Bool, true, false, if◌then◌else◌, List, [], ◌∷◌, ◌++◌, Option, Some, None, refl, sym, ◌∙◌, ap, arith}
use Rattle.std.proofs.lemmas.Slice.Eq.{bytes_eq-Decides}
use Rattle.std.specs.Str.{bytes_eq}
use Rattle.sv_outside.specs.declared.text.Token.{Token}
use Rattle.sv_tree.specs.declared.word.Word.{Word}
use Rattle.sv_tree.specs.declared.exprs.Expr.{Expr}
use Rattle.sv_tree.specs.declared.stmts.Step.{Step}
use Rattle.sv_tree.specs.declared.stmts.Step.TheVariants as step_of
use Rattle.sv_tree.specs.declared.stmts.StepMark.{StepMark}
use Rattle.sv_tree.specs.declared.stmts.StepMark.TheVariants as step_mark
use Rattle.sv_tree.specs.declared.stmts.StepSign.{StepSign}
use Rattle.sv_tree.specs.declared.stmts.StepSign.TheVariants as step_sign
use Rattle.sv_tree.specs.Spelling.{Spelled, ◌⨟◌, when, mark as mark_spelled, name, maybe, label, label_of}
use Rattle.sv_tree.specs.GrammarExprs.{Spells}
use Rattle.sv_tree.specs.GrammarStmts.{SpellsStep, step_text, step_sign_text, block_name}
use Rattle.sv_tree.specs.Nesting.{Nesting, Depths, one, if_given, label_depths, expr_depths}
use Rattle.sv_tree.specs.NestingDesign.{step_depths}
use Rattle.sv_tree.proofs.Counted.{counted_name, counted_when, counted_step, counted_label_of, counted_maybe, counted_block_name}
use Rattle.sv_cursor.specs.declared.sort.Mark.TheVariants as m
use Rattle.sv_cursor.specs.declared.sort.Sort.{Sort}
use Rattle.sv_cursor.specs.declared.sort.Sort.TheVariants as so
use Rattle.sv_cursor.specs.Sorts.{mark_text}
use Rattle.sv_cursor.specs.Tests.{mark_test, id_test}
use Rattle.sv_cursor.specs.Parsers.{Parser, told, token}
use Rattle.sv_cursor.proofs.Readers.{IsReader, IsMoved, Told, one_nest, token_reader, less_reader, pure_reader}
use Rattle.sv_cursor.proofs.Sorted.{equal}
use Rattle.sv_cursor.proofs.Tested.{name_of, told_of_name}
use Rattle.sv_expr_reader.proofs.Tokens.{Any, Stops, outside}
use Rattle.sv_stmt_parser.specs.declared.tails.StepTail.{StepTail}
use Rattle.sv_stmt_parser.specs.declared.tails.StepTail.TheVariants as tail
use Rattle.sv_word_parser.specs.declared.openers.StepOpener.{StepOpener}
use Rattle.sv_word_parser.specs.declared.openers.StepOpener.TheVariants as step_by
use Rattle.sv_word_parser.specs.Combined.{sign_of, sign_test, sort_test}
use Rattle.sv_word_parser.specs.Words.{step_by_mark, step_opener_by_mark, step_opener_by_sort}
use Rattle.sv_stmt_parser.specs.Targets.{repeat_test, block_label, label_behind, end_label, made_before, made_set, step_tail, made_named_step, step_before, named_step, step_for, step}
use Rattle.sv_type_parser.proofs.Rules.{Rule, the_mark, before, seq, optional, rule_of, until, Way, choose_reads, fork_reads, fork_moved, ReadBy, reader_of, name_rule, moved_counted, mark_begins, IsFirst, first_of_name, told_sort, told_sign}
use Rattle.sv_type_parser.proofs.Words.{step_rule, step_first, step_begins, step_mark_name, step_sign_rule, step_sign_first, step_sign_mark_name, step_sign_spelled}
use Rattle.sv_type_parser.proofs.Limits.{Over, expression_rule}

-- ---- a name that repeats another

-- the name, with the same text
abbrev pub Repeats : Word → Word → Spelled
Repeats v w = when (w.text ≡ v.text) (name w)

same_bytes : (a b : List ℕ) → a ≡ b → bytes_eq a b ≡ true
same_bytes a b h = grind (arith, bytes_eq-Decides, h)

repeats_so : (b : Bool) (q : Option Word) (w : Word) → (if b then q else None) ≡ Some w → (b ≡ true) × (q ≡ Some w)
repeats_so true q w h = (refl, h)
repeats_so false q w h = absurd (cc)

repeat_of : (v w : Word) (i o : List Token) → Told (repeat_test v) w i o → Repeats v w i o
unfolding repeat_test
repeat_of v w [] o h = absurd h
repeat_of v w (a ∷ i) o h =
    let g = repeats_so (bytes_eq a.text v.text) (id_test a) w h.0 in
    let n = name_of w (a ∷ i) o (g.1, h.1) in (sym n.0.1 ∙ equal a.text v.text g.0, n)

told_of_repeat : (v w : Word) (i o : List Token) → Repeats v w i o → Told (repeat_test v) w i o
unfolding repeat_test
told_of_repeat v w [] o h = absurd h.1
told_of_repeat v w (a ∷ i) o h =
    let n = told_of_name w (a ∷ i) o h.1 in (ap (λ b. if b then id_test a else None) (same_bytes a.text v.text (h.1.0.1 ∙ h.0)) ∙ n.0, n.1)

pub repeat_reads : (Bad : Nesting → Type 0) (depth : ℕ) (v : Word) → IsReader Bad depth (Repeats v) (Repeats v) (one_nest outside) Any (token (repeat_test v))
repeat_reads Bad depth v = less_reader Bad depth depth (Told (repeat_test v)) (Told (repeat_test v)) (Repeats v) (Repeats v) (one_nest outside) Any Any (token (repeat_test v))
    (token_reader Bad depth outside (repeat_test v) Any) (omega arith) (repeat_of v) (told_of_repeat v) (λ o h. h)

abbrev pub repeat_rule : (Bad : Nesting → Type 0) (depth : ℕ) → Word → Rule Bad depth Word
repeat_rule Bad depth v = rule_of (repeat_reads Bad depth v) (λ w. counted_when (counted_name w))

-- ---- labels

-- what stops a label
abbrev pub NoColon : List Token → Type 0
NoColon o = told (mark_test m.Colon) o ≡ None

module _ (Bad : Nesting → Type 0) (depth : ℕ) where
  pub block_label_reads : IsReader Bad depth (maybe block_name) (maybe block_name) (if_given label_depths) NoColon block_label
  unfolding block_label mark_text
  block_label_reads = (until NoColon (optional (mark_test m.Colon) (before (the_mark Bad m.Colon) (name_rule Bad depth)) (λ w i o h. mark_begins m.Colon i h.0 h.1)) (λ o h. (h, tt))).reads

  abbrev pub block_label_rule : Rule Bad depth (Option Word)
  block_label_rule = rule_of block_label_reads (counted_maybe block_name label_depths counted_block_name)

  abbrev behind_rule : Word → Rule Bad depth (Option Word)
  behind_rule n = optional (mark_test m.Colon) (before (the_mark Bad m.Colon) (repeat_rule Bad depth n)) (λ w i o h. mark_begins m.Colon i h.0 h.1)

  label_to : (n : Word) (w : Option Word) (i o : List Token) → (behind_rule n).spelled w i o → label n w i o
  unfolding mark_text
  label_to n None i o h = h
  label_to n (Some w) i o h = (h.2.0, (h.0, h.1, h.2.1))

  label_from : (n : Word) (w : Option Word) (i o : List Token) → label n w i o → (behind_rule n).spelled w i o
  unfolding mark_text
  label_from n None i o h = h
  label_from n (Some w) i o h = (h.1.0, h.1.1, (h.0, h.1.2))

  pub label_behind_reads : (n : Word) → IsReader Bad depth (label n) (label n) (if_given label_depths) NoColon (label_behind n)
  unfolding label_behind
  label_behind_reads n =
      less_reader Bad depth depth (behind_rule n).spelled (behind_rule n).spelled (label n) (label n) (if_given label_depths) (behind_rule n).stops NoColon (behind_rule n).parser (behind_rule n).reads (omega arith)
      (label_to n) (label_from n) (λ o h. (h, tt))

  none_only : (e : Option Word) (i o : List Token) → label_of None e i o → None ≡ e
  none_only None i o h = refl
  none_only (Some w) i o h = absurd h

  pub end_label_reads : (b : Option Word) → IsReader Bad depth (label_of b) (label_of b) (if_given label_depths) NoColon (end_label b)
  end_label_reads (Some n) = label_behind_reads n
  end_label_reads None = pure_reader Bad depth (label_of None) (label_of None) (if_given label_depths) NoColon None (λ i. refl) none_only

pub end_label_moved : (b : Option Word) → IsMoved (label_of b) (if_given label_depths)
end_label_moved b = moved_counted (counted_label_of b)

-- ---- steps

abbrev TailSpelled : StepTail → Spelled
TailSpelled (tail.By k) = mark_spelled (step_text k)
TailSpelled (tail.Set k x) = mark_spelled (step_sign_text k) ⨟ Spells 0 x

abbrev tail_nests : StepTail → Depths
tail_nests (tail.By k) = one
tail_nests (tail.Set k x) = one ++ expr_depths x

told_opener : (x : Sort) (i : List Token) → IsFirst x i → told (sort_test step_opener_by_sort) i ≡ step_opener_by_sort x
told_opener x i h = told_sort step_opener_by_sort i refl ∙ ap step_opener_by_sort h

set_no_step : (k : StepSign) (i o : List Token) → step_sign_spelled k i o → told (sign_test step_by_mark) i ≡ None
set_no_step k i o h = told_sign step_by_mark i ∙ (ap (sign_of step_by_mark) (step_sign_first k i o h) ∙ by_sign k)
  where
    by_sign : (k : StepSign) → step_by_mark (step_sign_mark_name k) ≡ None
    by_sign step_sign.Set = refl
    by_sign step_sign.Add = refl
    by_sign step_sign.Sub = refl

step_begin : (k : StepMark) → step_opener_by_mark (step_mark_name k) ≡ Some step_by.Mark
step_begin step_mark.Inc = refl
step_begin step_mark.Dec = refl

module _ (s g t d : ℕ) (le : d ≤ 200) where
  abbrev TailWay : Type 1
  TailWay = Way (Over s g t) d StepTail TailSpelled tail_nests (Stops 0)

  abbrev by_way : TailWay
  by_way = record { A = StepMark; rule = step_rule (Over s g t) d; made = tail.By; nested = λ c. refl; to = λ c i o h. h; ends = λ o h. tt }

  abbrev set_way : TailWay
  set_way = record { A = StepSign × Expr; rule = seq (step_sign_rule (Over s g t) d) (expression_rule s g t d le) (λ x y i o h stops. tt); made = made_set; nested = λ c. refl; to = λ c i o h. h; ends = λ o h. h }

  tail_view : (x : StepTail) (i o : List Token) → TailSpelled x i o → ((c : StepMark) × (told (sign_test step_by_mark) i ≡ Some c) × ReadBy by_way x i o) ⊎ ((told (sign_test step_by_mark) i ≡ None) × ReadBy set_way x i o)
  tail_view (tail.By k) i o h = let g = step_begins k i o h in inl (g.0, g.1, (k, refl, h))
  tail_view (tail.Set k x) i o h = inr (set_no_step k i h.0 h.1, ((k, x), refl, h))

  tail_reads : IsReader (Over s g t) d TailSpelled TailSpelled tail_nests (Stops 0) step_tail
  unfolding step_tail
  tail_reads = fork_reads (sign_test step_by_mark) by_way set_way tail_view

  abbrev tail_rule : Rule (Over s g t) d StepTail
  tail_rule = record { spelled = TailSpelled; nests = tail_nests; stops = Stops 0; parser = step_tail; reads = tail_reads; moved = fork_moved (sign_test step_by_mark) by_way set_way tail_view }

  module _ (v : Word) where
    abbrev StepWay : Type 1
    StepWay = Way (Over s g t) d Step (SpellsStep v) step_depths (Stops 0)

    named_nested : (c : Word × StepTail) → one ++ tail_nests c.1 ≡ step_depths (made_named_step c)
    named_nested (w, tail.By k) = refl
    named_nested (w, tail.Set k x) = refl

    named_to : (c : Word × StepTail) (i o : List Token) → (Repeats v c.0 ⨟ TailSpelled c.1) i o → SpellsStep v (made_named_step c) i o
    named_to (w, tail.By k) i o h = (h.1.0, (h.0, h.1.1, h.2))
    named_to (w, tail.Set k x) i o h = (h.1.0, (h.0, h.1.1, h.2))

    abbrev ways : StepOpener → StepWay
    ways step_by.Mark = record {
      A = StepMark × Word;
      rule = seq (step_rule (Over s g t) d) (repeat_rule (Over s g t) d v) (λ x y i o h stops. tt);
      made = made_before;
      nested = λ c. refl;
      to = λ c i o h. (h.2.0, (h.0, h.1, h.2.1));
      ends = λ o h. tt;
    }
    ways step_by.Name = record {
      A = Word × StepTail;
      rule = seq (repeat_rule (Over s g t) d v) tail_rule (λ x y i o h stops. tt);
      made = made_named_step;
      nested = named_nested;
      to = named_to;
      ends = λ o h. h;
    }

    same : (c : StepOpener) → ◌≡◌ {A = Parser Step} (reader_of (ways c)) (step_for v c)
    unfolding step_before named_step
    same step_by.Mark = refl
    same step_by.Name = refl

    view : (x : Step) (i o : List Token) → SpellsStep v x i o → (c : StepOpener) × (told (sort_test step_opener_by_sort) i ≡ Some c) × ReadBy (ways c) x i o
    view (step_of.After w k) i o h = (step_by.Name, told_opener so.Id i (first_of_name w i h.1.0 h.1.1), ((w, tail.By k), refl, (h.1.0, (h.0, h.1.1), h.1.2)))
    view (step_of.Before k w) i o h = (step_by.Mark, told_opener (so.Mark (step_mark_name k)) i (step_first k i h.1.0 h.1.1) ∙ step_begin k, ((k, w), refl, (h.1.0, h.1.1, (h.0, h.1.2))))
    view (step_of.Assign w k x) i o h = (step_by.Name, told_opener so.Id i (first_of_name w i h.1.0 h.1.1), ((w, tail.Set k x), refl, (h.1.0, (h.0, h.1.1), h.1.2)))

    pub step_reads : IsReader (Over s g t) d (SpellsStep v) (SpellsStep v) step_depths (Stops 0) (step v)
    unfolding step
    step_reads = choose_reads (sort_test step_opener_by_sort) ways (step_for v) same view

    abbrev pub step_tree_rule : Rule (Over s g t) d Step
    step_tree_rule = rule_of step_reads (counted_step v)
