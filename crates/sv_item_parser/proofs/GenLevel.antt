-- Bodies of generate constructs, conditions, loops and regions are read as they are spelled, where their items are.
use Rattle.std.proofs.Common.{◌≡◌, ℕ, suc, ◌<◌, ◌≤◌, true, false, List, [], ◌∷◌, ◌++◌, length, Option, Some, None, refl, sym, ◌∙◌, ap, subst, append_assoc, length-append, arith}
use Rattle.sv_outside.specs.declared.refusal.Place.{Place}
use Rattle.sv_outside.specs.declared.text.Token.{Token}
use Rattle.sv_tree.specs.declared.word.Word.{Word}
use Rattle.sv_tree.specs.declared.exprs.Expr.{Expr}
use Rattle.sv_tree.specs.declared.stmts.Block.{Block}
use Rattle.sv_tree.specs.declared.design.Item.{Item}
use Rattle.sv_tree.specs.declared.design.Item.TheVariants as it
use Rattle.sv_tree.specs.declared.design.Gen.{Gen}
use Rattle.sv_tree.specs.declared.design.Gen.TheVariants as ge
use Rattle.sv_tree.specs.Spelling.{Spelled, first_at, key, each, label_of}
use Rattle.sv_tree.specs.Nesting.{one as one_token, if_given}
use Rattle.sv_tree.specs.NestingDesign.{item_depths, gen_depths}
use Rattle.sv_tree.proofs.MadeDesign as made
use Rattle.sv_tree.proofs.Counted.{Counted}
use Rattle.sv_tree.proofs.CountedDesign.{counted_item}
use Rattle.sv_cursor.specs.declared.sort.Keyword.{Keyword}
use Rattle.sv_cursor.specs.declared.sort.Keyword.TheVariants as k
use Rattle.sv_cursor.specs.declared.sort.Mark.TheVariants as m
use Rattle.sv_cursor.specs.declared.sort.Sort.TheVariants as so
use Rattle.sv_cursor.specs.Sorts.{keyword_text}
use Rattle.sv_cursor.specs.Tests.{keyword_test}
use Rattle.sv_cursor.specs.Parsers.{told}
use Rattle.sv_word_parser.specs.declared.openers.ItemOpener.{ItemOpener}
use Rattle.sv_word_parser.specs.declared.openers.ItemOpener.TheVariants as item_by
use Rattle.sv_word_parser.specs.Combined.{sort_test}
use Rattle.sv_word_parser.specs.Words.{item_by_word, item_by_sort}
use Rattle.sv_item_parser.specs.Items.{made_gen_block, made_cond, made_loop}
use Rattle.sv_type_parser.proofs.Rules.{Shut, some_key, key_begins, IsFirst, first_of_key, first_of_name, told_sort, no_mark, no_key}
use Rattle.sv_stmt_parser.proofs.Steps.{NoColon}
use Rattle.sv_item_parser.proofs.Items.{DoneItem, DoneGen, counted_done_gen, OtherGen, ItemClass}
use Rattle.sv_item_parser.proofs.Gens.{item_begins, item_told_no_colon, item_no_begin, cond_to, loop_to, region_to, gen_block_to, gen_block_from, single_to, single_from, item_view}
use Rattle.sv_tree.specs.declared.stmts.Step.{Step}
use Rattle.sv_tree.specs.declared.stmts.BlockKind.{BlockKind}
use Rattle.sv_tree.specs.declared.stmts.BlockKind.TheVariants as kind_of
use Rattle.sv_tree.specs.Spelling.{Begins}
use Rattle.sv_tree.specs.Nesting.{Nesting, in_generate, each_depths, label_depths}
use Rattle.sv_tree.specs.NestingDesign.{stmt_depths, kind_depths, block_depths}
use Rattle.sv_tree.proofs.CountedDesign.{length_in_generate}
use Rattle.sv_cursor.specs.Parsers.{Parser, ◌<$>◌, pure, refuse}
use Rattle.sv_cursor.proofs.Readers.{IsReader, IsMoved, Meets, then_meets, equal_reader, less_reader, choose_reader, refuse_reader}
use Rattle.sv_stmt_parser.specs.Targets.{end_label}
use Rattle.sv_stmt_parser.specs.Within.{block_rest, maybe_else}
use Rattle.sv_type_parser.specs.Lists.{while_told}
use Rattle.sv_item_parser.specs.Items.{place_test, items, gen_block, single, gen, cond_head, gen_if, LoopHead, loop_head, gen_loop, region}
use Rattle.sv_type_parser.proofs.Rules.{Rule, the_mark, the_key, placed, before, opening, closing, seq, seq_by, seq_up, optional, several, shut, rule_of, Way, ReadBy, reader_of, way_reader}
use Rattle.sv_type_parser.proofs.Limits.{Over, expression_rule, end_mark, generated}
use Rattle.sv_stmt_parser.proofs.Steps.{block_label_rule, end_label_reads, end_label_moved}
use Rattle.sv_stmt_parser.proofs.Stmts.{variable_rule}
use Rattle.sv_expr_reader.proofs.Tokens.{Any}

-- what is told of the first token, and a whole item
abbrev pub Begun : ItemOpener → Item → Spelled
Begun c x i o = (told (sort_test item_by_sort) i ≡ Some c) × DoneItem x i o

pub classed : (c : ItemOpener) (x : Item) (i o : List Token) → Begun c x i o → ItemClass c x i o
classed c x i o h = let v = item_view x i o h.1 in let e : v.0 ≡ c = same v.0 c (sym v.1 ∙ h.0) in subst (λ c. ItemClass c x i o) e v.2
  where
    same : (a b : ItemOpener) → ◌≡◌ {A = Option ItemOpener} (Some a) (Some b) → a ≡ b
    same a b e = cc

pub counted_done_item : (x : Item) → Counted (DoneItem x) (length (item_depths x))
counted_done_item x = record { count = λ i o h. (counted_item x).count i o h.0; rest = λ i o h. (counted_item x).rest i o h.0 }

block_grows : (b : Block) → 0 < length (block_depths b)
block_grows b = by_kind b.kind
  where
    by_kind : (x : BlockKind) → 0 < length (kind_depths x ++ stmt_depths b.body)
    by_kind kind_of.Comb = omega arith
    by_kind kind_of.Latch = omega arith
    by_kind (kind_of.Ff e) = omega arith
    by_kind (kind_of.Always e) = omega arith
    by_kind kind_of.Star = omega arith
    by_kind kind_of.StarParen = omega arith

pub item_grows : (x : Item) → 0 < length (item_depths x)
item_grows = made.by_cases_item (λ x. 0 < length (item_depths x))
    (λ w t names. subst (λ l. 0 < length l) (sym (made.nests_net w t names)) (simp length-append (omega arith)))
    (λ t names. subst (λ l. 0 < length l) (sym (made.nests_variable t names)) (simp length-append (omega arith)))
    (λ d. subst (λ l. 0 < length l) (sym (made.nests_typedef d)) (simp length-append (omega arith)))
    (λ p. subst (λ l. 0 < length l) (sym (made.nests_param p)) (simp length-append (omega arith)))
    (λ names. subst (λ l. 0 < length l) (sym (made.nests_genvar names)) (simp length-append (omega arith)))
    (λ all. subst (λ l. 0 < length l) (sym (made.nests_assign all)) (simp length-append (omega arith)))
    (λ b. subst (λ l. 0 < length l) (sym (made.nests_always b)) (block_grows b))
    (λ x. subst (λ l. 0 < length l) (sym (made.nests_inst x)) (simp length-append (omega arith)))
    (λ p header v start test next x. subst (λ l. 0 < length l) (sym (made.nests_for p header v start test next x)) (simp (length_in_generate, length-append) (omega arith)))
    (λ p c x y. subst (λ l. 0 < length l) (sym (made.nests_if p c x y)) (simp (length_in_generate, length-append) (omega arith)))
    (λ all. subst (λ l. 0 < length l) (sym (made.nests_generate all)) (simp (length_in_generate, length-append) (omega arith)))

pub key_no_colon : (w : Keyword) (i o : List Token) → key (keyword_text w) i o → NoColon i
key_no_colon w i o h = no_mark m.Colon (so.Keyword w) i refl (first_of_key w i o h)

pub no_item : (w : Keyword) → item_by_word w ≡ None → (i o : List Token) → key (keyword_text w) i o → (told (sort_test item_by_sort) i ≡ None) × NoColon i
no_item w e i o h = (told_sort item_by_sort i refl ∙ (ap item_by_sort (first_of_key w i o h) ∙ e), key_no_colon w i o h)

first_no_colon : (all : List Item) (i t o : List Token) → each DoneItem all i t → key (keyword_text k.End) t o → NoColon i
first_no_colon [] i t o h e = subst NoColon (sym h) (key_no_colon k.End t o e)
first_no_colon (x ∷ all) i t o h e = let b = item_begins x i h.0 h.1.0 in item_told_no_colon b.0 i b.1

other_no_colon : (y : Option Gen) (i o : List Token) → Shut (keyword_test k.Else) OtherGen y i o → NoColon o → NoColon i
other_no_colon None i o h stops = subst NoColon (sym h.1) stops
other_no_colon (Some y) i o h stops = key_no_colon k.Else i h.0 h.1

-- ---- an item with no `begin`

abbrev SingleSpelled : Gen → Spelled
SingleSpelled x i o = (c : Place × Item) × (ge.Single c.0 c.1 ≡ x) × first_at c.0 (DoneItem c.1) i o

abbrev Anything : Gen → Spelled
Anything x i o = Unit {0}

place_told : (p q : Place) (i : List Token) → told place_test i ≡ Some p → Begins (λ a t. a.place ≡ q) i → q ≡ p
unfolding place_test
place_told p q [] e h = absurd h
place_told p q (a ∷ i) e h = let f : a.place ≡ p = some_same a.place p e in sym h ∙ f
  where
    some_same : (a b : Place) → ◌≡◌ {A = Option Place} (Some a) (Some b) → a ≡ b
    some_same a b e = cc

place_none : (q : Place) (i : List Token) → told place_test i ≡ None → Begins (λ a t. a.place ≡ q) i → ⊥
unfolding place_test
place_none q [] e h = h
place_none q (a ∷ i) e h = cc

name_no_genvar : (i : List Token) → IsFirst so.Id i → told (keyword_test k.Genvar) i ≡ None
name_no_genvar i h = no_key k.Genvar so.Id i refl h

module _ (h d : ℕ) (le : d ≤ 200) (f : Parser Item) (reads : IsReader (Over 201 h 201) d DoneItem DoneItem item_depths NoColon f) where
  abbrev B : Nesting → Type 0
  B = Over 201 h 201

  single_from_told : (p : Place) (x : Gen) (i o : List Token) → (told place_test i ≡ Some p) × SingleSpelled x i o → (y : Item) × (ge.Single p y ≡ x) × DoneItem y i o
  single_from_told p x i o v = let e = place_told p v.1.0.0 i v.0 v.1.2.0 in (v.1.0.1, ap (λ q. ge.Single q v.1.0.1) (sym e) ∙ v.1.1, v.1.2.1)

  single_choose : IsReader B d Anything SingleSpelled gen_depths NoColon (single f)
  unfolding single
  single_choose =
      choose_reader B d place_test Anything SingleSpelled gen_depths NoColon (λ p. ge.Single p <$> f) refuse
      (λ p. equal_reader B item_depths gen_depths (ge.Single p) (λ y. sym (made.nests_single p y)) d DoneItem DoneItem Anything (λ x i o. (told place_test i ≡ Some p) × SingleSpelled x i o) NoColon f reads (λ y i o h. tt) (single_from_told p))
      (refuse_reader B d Anything (λ x i o. (told place_test i ≡ None) × SingleSpelled x i o) gen_depths NoColon (λ x i o v. place_none v.1.0.0 i v.0 v.1.2.0))

  single_sound : (i : List Token) → Meets (single f i) (λ x j. SingleSpelled x i j)
  unfolding single place_test
  single_sound [] = tt
  single_sound (a ∷ i) = then_meets (f (a ∷ i)) (λ y. pure (ge.Single a.place y)) (λ y j. DoneItem y (a ∷ i) j) (λ x j. SingleSpelled x (a ∷ i) j) (reads.sound (a ∷ i)) (λ y j g. ((a.place, y), refl, (refl, g)))

  single_reads : IsReader B d SingleSpelled SingleSpelled gen_depths NoColon (single f)
  single_reads = record { sound = single_sound; placed = single_choose.placed; agrees = single_choose.agrees }

  -- ---- a block of items

  abbrev inner_rule : Rule B d Item
  inner_rule = rule_of reads counted_done_item

  abbrev several_items : Rule B d (List Item)
  several_items = several (sort_test item_by_sort) inner_rule (λ x i o v. item_begins x i o v.0) (λ x i o v. item_grows x) item_told_no_colon

  abbrev ItemsStop : List Token → Type 0
  ItemsStop o = (told (sort_test item_by_sort) o ≡ None) × NoColon o

  pub items_reads : IsReader B d (each DoneItem) (each DoneItem) (each_depths item_depths) ItemsStop (items f)
  unfolding items
  items_reads = several_items.reads

  pub items_moved : IsMoved (each DoneItem) (each_depths item_depths)
  items_moved = several_items.moved

  abbrev pub items_rule : Rule (Over 201 h 201) d (List Item)
  items_rule = record { spelled = each DoneItem; nests = each_depths item_depths; stops = λ o. (told (sort_test item_by_sort) o ≡ None) × NoColon o; parser = items f; reads = items_reads; moved = items_moved }

  parts_reads : IsReader B d (each DoneItem) (each DoneItem) (each_depths item_depths) ItemsStop (while_told (sort_test item_by_sort) f)
  unfolding while_told
  parts_reads = several_items.reads

  abbrev parts_rule : Rule B d (List Item)
  parts_rule = record { spelled = each DoneItem; nests = each_depths item_depths; stops = ItemsStop; parser = while_told (sort_test item_by_sort) f; reads = parts_reads; moved = several_items.moved }

  abbrev end_rule : Option Word → Rule B d (Option Word)
  end_rule b = record { spelled = label_of b; nests = if_given label_depths; stops = NoColon; parser = end_label b; reads = end_label_reads B d b; moved = end_label_moved b }

  abbrev rest_rule : Option Word → Rule B d (List Item × Option Word)
  rest_rule b = seq parts_rule (before (the_key B k.End) (end_rule b)) (λ x y i o v stops. no_item k.End refl i v.0 v.1)

  abbrev gen_block_rule : Rule B d (Place × (Option Word × (List Item × Option Word)))
  gen_block_rule =
      seq (placed (the_key B k.Begin))
      (seq_by (block_label_rule B d) (λ b c. (rest_rule b).spelled c) (λ c. each_depths item_depths c.0 ++ (one_token ++ if_given label_depths c.1)) NoColon (block_rest (sort_test item_by_sort) f)
      (λ b. (rest_rule b).reads) (λ b. (rest_rule b).moved) (λ b c i o v stops. first_no_colon c.0 i v.0 v.2.0 v.1 v.2.1))
      (λ x y i o v stops. tt)

  abbrev block_way : Way B d Gen DoneGen gen_depths NoColon
  block_way = record {
    A = Place × (Option Word × (List Item × Option Word));
    rule = gen_block_rule;
    made = made_gen_block;
    nested = λ c. sym (made.nests_block c.0 c.1.0 c.1.1.0 c.1.1.1 ∙ simp append_assoc);
    to = gen_block_to;
    ends = λ o v. v;
  }

  block_from : (p : Place) (x : Gen) (i o : List Token) → told (keyword_test k.Begin) i ≡ Some p → DoneGen x i o → ReadBy block_way x i o
  block_from p = made.by_cases_gen (λ x. (i o : List Token) → told (keyword_test k.Begin) i ≡ Some p → DoneGen x i o → ReadBy block_way x i o)
      (λ q b all e i o t v. ((q, (b, (all, e))), refl, gen_block_from q b all e i o v))
      (λ q x i o t v. let n = item_no_begin x i o (single_from q x i o v).1.0 in absurd (cc))

  to_single : (x : Gen) (i o : List Token) → (told (keyword_test k.Begin) i ≡ None) × DoneGen x i o → SingleSpelled x i o
  to_single = made.by_cases_gen (λ x. (i o : List Token) → (told (keyword_test k.Begin) i ≡ None) × DoneGen x i o → SingleSpelled x i o)
      (λ q b all e i o v.
      let g = gen_block_from q b all e i o v.1 in
      let p = key_begins k.Begin i g.0 (some_key (keyword_text k.Begin) q i g.0 g.1) in let f = p.1 in let n = v.0 in absurd (cc))
      (λ q x i o v. ((q, x), refl, single_from q x i o v.1))

  gen_reads : IsReader B d DoneGen DoneGen gen_depths NoColon (gen f)
  unfolding gen gen_block
  gen_reads =
      choose_reader B d (keyword_test k.Begin) DoneGen DoneGen gen_depths NoColon (λ _. reader_of block_way) (single f)
      (λ p. way_reader block_way (λ i. told (keyword_test k.Begin) i ≡ Some p) (block_from p))
      (less_reader B d d SingleSpelled SingleSpelled DoneGen (λ x i o. (told (keyword_test k.Begin) i ≡ None) × DoneGen x i o) gen_depths NoColon NoColon (single f) single_reads (omega arith)
      (λ x i o v. subst (λ x. DoneGen x i o) v.1 (single_to v.0.0 v.0.1 i o v.2)) to_single (λ o v. v))

  abbrev gen_rule : Rule B d Gen
  gen_rule = rule_of gen_reads counted_done_gen

  -- ---- conditions and loops

  abbrev else_rule : Rule B d Gen
  else_rule = before (the_key B k.Else) gen_rule

  abbrev maybe_rule : Rule B d (Option Gen)
  maybe_rule = shut (keyword_test k.Else) else_rule (λ x i o v. key_begins k.Else i v.0 v.1)

  else_reads : IsReader B d (Shut (keyword_test k.Else) OtherGen) (Shut (keyword_test k.Else) OtherGen) maybe_rule.nests NoColon (maybe_else (gen f))
  unfolding maybe_else
  else_reads = maybe_rule.reads

  abbrev other_rule : Rule B d (Option Gen)
  other_rule = record { spelled = Shut (keyword_test k.Else) OtherGen; nests = maybe_rule.nests; stops = NoColon; parser = maybe_else (gen f); reads = else_reads; moved = maybe_rule.moved }

  abbrev cond_head_tuple : Rule B d Expr
  cond_head_tuple = before (the_mark B m.LeftParen) (closing (expression_rule 201 h 201 d le) (the_mark B m.RightParen) (end_mark m.RightParen refl))

  cond_head_reads : IsReader B d cond_head_tuple.spelled cond_head_tuple.spelled cond_head_tuple.nests Any cond_head
  unfolding cond_head
  cond_head_reads = cond_head_tuple.reads

  abbrev cond_head_rule : Rule B d Expr
  cond_head_rule = record { spelled = cond_head_tuple.spelled; nests = cond_head_tuple.nests; stops = Any; parser = cond_head; reads = cond_head_reads; moved = cond_head_tuple.moved }

  abbrev cond_rule : Rule B (suc d) (Place × (Expr × (Gen × Option Gen)))
  cond_rule =
      seq_up (placed (the_key B k.If)) (seq cond_head_rule (seq gen_rule other_rule (λ x y i o v stops. other_no_colon y i o v stops)) (λ x y i o v stops. tt)) (λ x y i o v stops. tt) (λ x i o v. omega arith)

  cond_nested : (c : Place × (Expr × (Gen × Option Gen))) → in_generate (cond_rule.nests c) ≡ item_depths (made_cond c)
  cond_nested (p, (c, (x, None))) = sym (made.nests_if p c x None ∙ ap in_generate (simp append_assoc))
  cond_nested (p, (c, (x, Some y))) = sym (made.nests_if p c x (Some y) ∙ ap in_generate (simp append_assoc))

  pub cond_reads : IsReader (Over 201 (suc h) 201) (suc d) DoneItem (Begun item_by.If) item_depths NoColon (gen_if f)
  unfolding gen_if
  cond_reads =
      let r = generated 201 h 201 cond_rule in
      equal_reader (Over 201 (suc h) 201) r.nests item_depths made_cond cond_nested (suc d) r.spelled r.spelled DoneItem (Begun item_by.If) NoColon r.parser r.reads cond_to (classed item_by.If)

  abbrev loop_head_tuple : Rule B d LoopHead
  loop_head_tuple =
      before (the_mark B m.LeftParen)
      (seq (optional (keyword_test k.Genvar) (placed (the_key B k.Genvar)) (λ p i o v. key_begins k.Genvar i o (some_key (keyword_text k.Genvar) p i o v)))
      (variable_rule 201 h 201 d le)
      (λ x y i o v stops. (name_no_genvar i (first_of_name y.0 i v.0 v.1), tt)))

  loop_head_reads : IsReader B d loop_head_tuple.spelled loop_head_tuple.spelled loop_head_tuple.nests Any loop_head
  unfolding loop_head
  loop_head_reads = loop_head_tuple.reads

  abbrev loop_head_rule : Rule B d LoopHead
  loop_head_rule = record { spelled = loop_head_tuple.spelled; nests = loop_head_tuple.nests; stops = Any; parser = loop_head; reads = loop_head_reads; moved = loop_head_tuple.moved }

  abbrev loop_rule : Rule B (suc d) (Place × (LoopHead × Gen))
  loop_rule = seq_up (placed (the_key B k.For)) (seq loop_head_rule gen_rule (λ x y i o v stops. tt)) (λ x y i o v stops. tt) (λ x i o v. omega arith)

  loop_nested : (c : Place × (LoopHead × Gen)) → in_generate (loop_rule.nests c) ≡ item_depths (made_loop c)
  loop_nested (p, ((None, (v, (start, (test, next)))), x)) = sym (made.nests_for p false v start test next x ∙ ap in_generate (simp append_assoc))
  loop_nested (p, ((Some q, (v, (start, (test, next)))), x)) = sym (made.nests_for p true v start test next x ∙ ap in_generate (simp append_assoc))

  pub loop_reads : IsReader (Over 201 (suc h) 201) (suc d) DoneItem (Begun item_by.For) item_depths NoColon (gen_loop f)
  unfolding gen_loop
  loop_reads =
      let r = generated 201 h 201 loop_rule in
      equal_reader (Over 201 (suc h) 201) r.nests item_depths made_loop loop_nested (suc d) r.spelled r.spelled DoneItem (Begun item_by.For) NoColon r.parser r.reads loop_to (classed item_by.For)

  abbrev region_rule : Rule B (suc d) (List Item)
  region_rule = opening (the_key B k.Generate) (closing items_rule (the_key B k.Endgenerate) (no_item k.Endgenerate refl))

  region_nested : (all : List Item) → in_generate (region_rule.nests all) ≡ item_depths (it.Generate all)
  region_nested all = sym (made.nests_generate all ∙ ap in_generate (simp append_assoc))

  pub region_reads : IsReader (Over 201 (suc h) 201) (suc d) DoneItem (Begun item_by.Generate) item_depths NoColon (region f)
  unfolding region
  region_reads =
      let r = generated 201 h 201 region_rule in
      less_reader (Over 201 (suc h) 201) (suc d) (suc d) DoneItem (Begun item_by.Generate) DoneItem (Begun item_by.Generate) item_depths r.stops NoColon (region f)
      (equal_reader (Over 201 (suc h) 201) r.nests item_depths it.Generate region_nested (suc d) r.spelled r.spelled DoneItem (Begun item_by.Generate) r.stops r.parser r.reads region_to (classed item_by.Generate))
      (omega arith) (λ x i o v. v) (λ x i o v. v) (λ o v. tt)
