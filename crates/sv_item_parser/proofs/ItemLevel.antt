-- Items are read as they are spelled, at each depth.
use Rattle.std.proofs.Common.{◌≡◌, ℕ, zero, suc, ◌<◌, ◌≤◌, inl, inr, true, List, [], ◌∷◌, ◌++◌, length, Some, None, Err, refl, sym, ◌∙◌, ap, subst, append_assoc, length-append, arith}
use Rattle.sv_outside.specs.declared.text.Token.{Token}
use Rattle.sv_tree.specs.declared.word.Word.{Word}
use Rattle.sv_tree.specs.declared.forms.TypeTree.{TypeTree}
use Rattle.sv_tree.specs.declared.forms.TypeTree.TheVariants as ty
use Rattle.sv_tree.specs.declared.forms.Typedef.{Typedef}
use Rattle.sv_tree.specs.declared.stmts.Block.{Block}
use Rattle.sv_tree.specs.declared.design.AssignPair.{AssignPair}
use Rattle.sv_tree.specs.declared.design.Param.{Param}
use Rattle.sv_tree.specs.declared.design.NetWord.{NetWord}
use Rattle.sv_tree.specs.declared.design.Item.{Item}
use Rattle.sv_tree.specs.declared.design.Item.TheVariants as it
use Rattle.sv_tree.specs.Spelling.{◌⨟◌, mark as mark_spelled, key, name, commas, after_commas}
use Rattle.sv_tree.specs.GrammarDesign.{SpellsPair, is_closed}
use Rattle.sv_stmt_parser.specs.Stmts.{is_given}
use Rattle.sv_tree.specs.Nesting.{Nesting, Depths, one as one_token, in_generate, each_depths, commas_depths, word_depths}
use Rattle.sv_tree.specs.NestingDesign.{range_depths, named_type_depths, pair_depths, item_depths}
use Rattle.sv_tree.proofs.MadeForms as made_forms
use Rattle.sv_tree.proofs.MadeDesign as made
use Rattle.sv_tree.proofs.Counted.{length_named}
use Rattle.sv_tree.proofs.CountedDesign.{counted_pair}
use Rattle.sv_cursor.specs.declared.error.ParseErr.TheVariants.{Syntax}
use Rattle.sv_cursor.specs.declared.sort.Keyword.TheVariants as k
use Rattle.sv_cursor.specs.declared.sort.Mark.TheVariants as m
use Rattle.sv_cursor.specs.declared.sort.Sort.TheVariants as so
use Rattle.sv_cursor.specs.Sorts.{mark_text, keyword_text}
use Rattle.sv_cursor.specs.Tests.{same_mark, mark_test}
use Rattle.sv_cursor.specs.Parsers.{Outcome, Parser, refuse, too_deep, told, branch}
use Rattle.sv_cursor.proofs.Readers.{IsReader, IsMoved, BadAt, choose_reader, refuse_reader, deep_reader}
use Rattle.sv_expr_reader.proofs.Tokens.{Stops}
use Rattle.sv_word_parser.specs.declared.openers.ItemOpener.{ItemOpener}
use Rattle.sv_word_parser.specs.declared.openers.ItemOpener.TheVariants as item_by
use Rattle.sv_instance_parser.specs.declared.tails.NameTail.{NameTail}
use Rattle.sv_instance_parser.specs.declared.tails.NameTail.TheVariants as name_tail
use Rattle.sv_instance_parser.specs.declared.tails.PlainTail.TheVariants as plain_tail
use Rattle.sv_word_parser.specs.Combined.{sort_test}
use Rattle.sv_word_parser.specs.Words.{item_by_sort}
use Rattle.sv_type_parser.specs.Params.{TypedName}
use Rattle.sv_instance_parser.specs.Instances.{made_inst, made_named_item, named_item, more_names}
use Rattle.sv_item_parser.specs.Items.{made_net, net, made_variable, variable, genvar, made_pair, pair, assigns, region, gen_loop, gen_if, item_for, item_level, item}
use Rattle.sv_type_parser.proofs.Rules.{Rule, the_mark, the_key, before, seq, closing, tree_reads, rule_of, list_rule, renested, Way, way_reader, name_rule, IsFirst, first_of_mark, no_mark}
use Rattle.sv_type_parser.proofs.Words.{net_rule}
use Rattle.sv_type_parser.proofs.Limits.{Over, first_end, end_mark, named_type_lifts}
use Rattle.sv_type_parser.proofs.Types.{type_stops_name, names_first, names_end}
use Rattle.sv_type_parser.proofs.Params.{form_rule, typedef_rule, param_tree_rule}
use Rattle.sv_type_parser.proofs.Ports.{TypedStops, typed_ends, typed_name_rule}
use Rattle.sv_stmt_parser.proofs.Targets.{NoSelect, no_select, lvalue_rule}
use Rattle.sv_type_parser.proofs.Types.{given_rule}
use Rattle.sv_stmt_parser.proofs.Steps.{NoColon}
use Rattle.sv_item_parser.proofs.Instances.{tail_nests, tail_rule, more_names_rule}
use Rattle.sv_item_parser.proofs.Blocks.{block_rule}
use Rattle.sv_item_parser.proofs.Items.{DoneItem, Semicolon, NetSpelled, VariableSpelled, NamedSpelled, named_to}
use Rattle.sv_item_parser.proofs.Gens.{item_begins}
use Rattle.sv_item_parser.proofs.GenLevel.{Begun, classed, counted_done_item, cond_reads, loop_reads, region_reads}

-- ---- what begins with a name

named_equal_over : (w : Word) (p : _) (all : _) → one_token ++ tail_nests (name_tail.Overridden p all) ≡ item_depths (made_named_item (w, name_tail.Overridden p all))
named_equal_over w p all = sym (made.nests_inst (made_inst w (Some p) all) ∙ simp append_assoc)

named_equal_inst : (w n : Word) (p : _) (all : _) → one_token ++ tail_nests (name_tail.Plain n (plain_tail.Instances p all)) ≡ item_depths (made_named_item (w, name_tail.Plain n (plain_tail.Instances p all)))
named_equal_inst w n p all = sym (made.nests_inst (made_inst w None (record { name = n; pins = p } ∷ all)) ∙ simp append_assoc)

variable_equal : (w : Word) (ranges : _) (names : List Word) → item_depths (it.Variable (ty.Named w ranges) names) ≡ named_type_depths w ranges ++ (commas_depths word_depths names ++ one_token)
variable_equal w ranges names =
    made.nests_variable (ty.Named w ranges) names ∙ (ap (λ l. l ++ commas_depths word_depths names ++ one_token) (made_forms.nests_named w ranges) ∙ append_assoc (named_type_depths w ranges) (commas_depths word_depths names) one_token)

variable_length : (w : Word) (ranges : _) (names : List Word) (l : Depths) → l ≡ (one_token ++ each_depths range_depths ranges) ++ (commas_depths word_depths names ++ one_token)
    → length (item_depths (it.Variable (ty.Named w ranges) names)) ≡ length l
variable_length w ranges names l e = ap length (variable_equal w ranges names) ∙ (simp length-append (omega (arith, length_named w ranges)) ∙ sym (ap length e))

variable_lifts : (h : ℕ) (w : Word) (ranges : _) (names : List Word) (l : Depths) (k : ℕ) → l ≡ (one_token ++ each_depths range_depths ranges) ++ (commas_depths word_depths names ++ one_token)
    → BadAt (Over 201 h 201) l k → BadAt (Over 201 h 201) (item_depths (it.Variable (ty.Named w ranges) names)) k
variable_lifts h w ranges names l k e v =
    subst (λ l. BadAt (Over 201 h 201) l k) (sym (variable_equal w ranges names))
    (named_type_lifts 201 h 201 w ranges (commas_depths word_depths names ++ one_token) k (subst (λ l. BadAt (Over 201 h 201) l k) e v))

named_length : (c : Word × NameTail) → length (item_depths (made_named_item c)) ≡ length (one_token ++ tail_nests c.1)
named_length (w, name_tail.Overridden p all) = ap length (sym (named_equal_over w p all))
named_length (w, name_tail.Ranged ranges all) = variable_length w ranges all _ refl
named_length (w, name_tail.Plain n (plain_tail.Instances p all)) = ap length (sym (named_equal_inst w n p all))
named_length (w, name_tail.Plain n (plain_tail.Variables all)) = variable_length w [] (n ∷ all) _ refl

named_lifts : (h : ℕ) (c : Word × NameTail) (k : ℕ) → BadAt (Over 201 h 201) (one_token ++ tail_nests c.1) k → BadAt (Over 201 h 201) (item_depths (made_named_item c)) k
named_lifts h (w, name_tail.Overridden p all) k v = subst (λ l. BadAt (Over 201 h 201) l k) (named_equal_over w p all) v
named_lifts h (w, name_tail.Ranged ranges all) k v = variable_lifts h w ranges all _ k refl v
named_lifts h (w, name_tail.Plain n (plain_tail.Instances p all)) k v = subst (λ l. BadAt (Over 201 h 201) l k) (named_equal_inst w n p all) v
named_lifts h (w, name_tail.Plain n (plain_tail.Variables all)) k v = variable_lifts h w [] (n ∷ all) _ k refl v

named_whole : (c : Word × NameTail) (i o : List Token) → NamedSpelled c i o → DoneItem (made_named_item c) i o
named_whole c i o h = (named_to c i o h, inl (named_closed c))
  where
    named_closed : (c : Word × NameTail) → is_closed (made_named_item c) ≡ true
    named_closed (w, name_tail.Overridden p all) = refl
    named_closed (w, name_tail.Ranged ranges all) = refl
    named_closed (w, name_tail.Plain n (plain_tail.Instances p all)) = refl
    named_closed (w, name_tail.Plain n (plain_tail.Variables all)) = refl

-- ---- other items

net_to : (c : NetWord × (TypedName × List Word)) (i o : List Token) → NetSpelled c i o → DoneItem (made_net c) i o
unfolding mark_text
net_to c i o h =
    let a = h.2.1 in
    let b = h.2.2 in (made.to_net c.0 c.1.0.0 (c.1.0.1 ∷ c.1.1) i o (h.0, h.1, (a.0, a.1, (b.0, (h.2.0, a.2, b.1), b.2))), inl refl)

variable_to : (c : TypeTree × List Word) (i o : List Token) → VariableSpelled c i o → DoneItem (made_variable c) i o
unfolding mark_text
variable_to c i o h = (made.to_variable c.0 c.1 i o h, inl refl)

genvar_to : (c : List Word) (i o : List Token) → (key (keyword_text k.Genvar) ⨟ (commas name c ⨟ Semicolon)) i o → DoneItem (it.Genvar c) i o
unfolding keyword_text mark_text
genvar_to c i o h = (made.to_genvar c i o h, inl refl)

assign_to : (c : List AssignPair) (i o : List Token) → (key (keyword_text k.Assign) ⨟ (commas SpellsPair c ⨟ Semicolon)) i o → DoneItem (it.Assign c) i o
unfolding keyword_text mark_text
assign_to c i o h = (made.to_assign c i o h, inl refl)

typed_before_names : (all : List Word) (i t o : List Token) → after_commas name all i t → Semicolon t o → TypedStops i
unfolding mark_text
typed_before_names [] i t o h e = typed_ends (so.Mark m.Semicolon) i (subst (IsFirst (so.Mark m.Semicolon)) (sym h) (first_of_mark m.Semicolon t o e)) refl
typed_before_names (w ∷ all) i t o h e = typed_ends (so.Mark m.Comma) i (first_of_mark m.Comma i h.0 h.1) refl

given_no_select : (i o : List Token) → mark_spelled (mark_text m.Assign) i o → NoSelect i
given_no_select i o h = no_select (so.Mark m.Assign) i (first_of_mark m.Assign i o h) refl

pairs_end : (i o : List Token) → Semicolon i o → (told (mark_test m.Comma) i ≡ None) × Stops 0 i
unfolding same_mark
pairs_end i o h = (no_mark m.Comma (so.Mark m.Semicolon) i refl (first_of_mark m.Semicolon i o h), end_mark m.Semicolon refl i o h)

module _ (h d : ℕ) (le : d ≤ 200) where
  abbrev B : Nesting → Type 0
  B = Over 201 h 201

  pair_reads : IsReader B d SpellsPair SpellsPair pair_depths (Stops 0) pair
  unfolding pair mark_text
  pair_reads =
      tree_reads (seq (lvalue_rule 201 h 201 d le) (given_rule 201 h 201 d le) (λ x y i o v stops. given_no_select i v.0 v.1)) made_pair SpellsPair pair_depths (λ c. simp append_assoc) (λ c i o v. v)
      (λ p i o v. ((p.target, p.value), refl, v))

  abbrev pair_rule : Rule B d AssignPair
  pair_rule = rule_of pair_reads counted_pair

  abbrev ItemWay : Type 1
  ItemWay = Way B d Item DoneItem item_depths NoColon

  abbrev net_way : ItemWay
  net_way = record {
    A = NetWord × (TypedName × List Word);
    rule = seq (net_rule B d) (seq (typed_name_rule 201 h d le) (more_names_rule 201 h 201 d le) (λ x all i o v stops. typed_before_names all i v.0 o v.1 v.2)) (λ x y i o v stops. tt);
    made = made_net;
    nested = λ c. sym (made.nests_net c.0 c.1.0.0 (c.1.0.1 ∷ c.1.1) ∙ simp append_assoc);
    to = net_to;
    ends = λ o v. tt;
  }

  abbrev variable_way : ItemWay
  variable_way = record {
    A = TypeTree × List Word;
    rule = seq (form_rule 201 h d le) (names_end 201 h 201 d le) (λ x all i o v stops. type_stops_name i (names_first all i v.0 v.1));
    made = made_variable;
    nested = λ c. sym (made.nests_variable c.0 c.1 ∙ simp append_assoc);
    to = variable_to;
    ends = λ o v. tt;
  }

  abbrev typedef_way : ItemWay
  typedef_way = record { A = Typedef; rule = typedef_rule 201 h d le; made = it.Typedef; nested = λ c. sym (made.nests_typedef c); to = λ c i o v. (made.to_typedef c i o v, inl refl); ends = λ o v. tt }

  abbrev param_way : ItemWay
  param_way = record { A = Param; rule = param_tree_rule 201 h 201 d le; made = it.Param; nested = λ c. sym (made.nests_param c); to = λ c i o v. (made.to_param c i o v, inl refl); ends = λ o v. tt }

  abbrev genvar_way : ItemWay
  genvar_way = record {
    A = List Word;
    rule = before (the_key B k.Genvar) (names_end 201 h 201 d le);
    made = it.Genvar;
    nested = λ c. sym (made.nests_genvar c ∙ simp append_assoc);
    to = genvar_to;
    ends = λ o v. tt;
  }

  abbrev assign_way : ItemWay
  assign_way = record {
    A = List AssignPair;
    rule = before (the_key B k.Assign) (closing (list_rule pair_rule (first_end m.Comma refl)) (the_mark B m.Semicolon) pairs_end);
    made = it.Assign;
    nested = λ c. sym (made.nests_assign c ∙ simp append_assoc);
    to = assign_to;
    ends = λ o v. tt;
  }

  abbrev always_way : ItemWay
  always_way = record { A = Block; rule = block_rule h 201 d le; made = it.Always; nested = λ c. sym (made.nests_always c); to = λ c i o v. (made.to_always c i o v.0, v.1); ends = λ o v. v }

  abbrev named_way : ItemWay
  named_way = record {
    A = Word × NameTail;
    rule = renested (seq (name_rule B d) (tail_rule 201 h 201 d le) (λ x y i o v stops. tt)) (λ c. item_depths (made_named_item c)) named_length (named_lifts h);
    made = made_named_item;
    nested = λ c. refl;
    to = named_whole;
    ends = λ o v. tt;
  }

  -- loops, conditions and regions are read so
  module _ (loop cond generated : Parser Item) (loops : IsReader B d DoneItem (Begun item_by.For) item_depths NoColon loop) (conds : IsReader B d DoneItem (Begun item_by.If) item_depths NoColon cond)
      (regions : IsReader B d DoneItem (Begun item_by.Generate) item_depths NoColon generated) where
    abbrev Told : ItemOpener → List Token → Type 0
    Told c i = told (sort_test item_by_sort) i ≡ Some c

    chosen : (c : ItemOpener) → IsReader B d DoneItem (Begun c) item_depths NoColon (item_for loop cond generated c)
    unfolding net variable genvar assigns named_item more_names
    chosen item_by.Net = way_reader net_way (Told item_by.Net) (λ x i o e v. classed item_by.Net x i o (e, v))
    chosen item_by.Type = way_reader variable_way (Told item_by.Type) (λ x i o e v. classed item_by.Type x i o (e, v))
    chosen item_by.Typedef = way_reader typedef_way (Told item_by.Typedef) (λ x i o e v. classed item_by.Typedef x i o (e, v))
    chosen item_by.Param = way_reader param_way (Told item_by.Param) (λ x i o e v. classed item_by.Param x i o (e, v))
    chosen item_by.Genvar = way_reader genvar_way (Told item_by.Genvar) (λ x i o e v. classed item_by.Genvar x i o (e, v))
    chosen item_by.Assign = way_reader assign_way (Told item_by.Assign) (λ x i o e v. classed item_by.Assign x i o (e, v))
    chosen item_by.Always = way_reader always_way (Told item_by.Always) (λ x i o e v. classed item_by.Always x i o (e, v))
    chosen item_by.Name = way_reader named_way (Told item_by.Name) (λ x i o e v. classed item_by.Name x i o (e, v))
    chosen item_by.For = loops
    chosen item_by.If = conds
    chosen item_by.Generate = regions

    none_begun : (x : Item) (i o : List Token) → (told (sort_test item_by_sort) i ≡ None) × DoneItem x i o → ⊥
    none_begun x i o v = let b = item_begins x i o v.1.0 in let e = b.1 in let f = v.0 in cc

    item_level_reads : IsReader B d DoneItem DoneItem item_depths NoColon (item_level loop cond generated)
    unfolding item_level
    item_level_reads =
        choose_reader B d (sort_test item_by_sort) DoneItem DoneItem item_depths NoColon (item_for loop cond generated) refuse chosen
        (refuse_reader B d DoneItem (λ x i o. (told (sort_test item_by_sort) i ≡ None) × DoneItem x i o) item_depths NoColon none_begun)

-- ---- the depths of generate constructs

pub begun_moved : (c : ItemOpener) → IsMoved (Begun c) item_depths
begun_moved c = record { count = λ x i o v. (counted_done_item x).count i o v.1; rest = λ x i o v. (counted_done_item x).rest i o v.1 }

over_first : (l : Depths) → 0 < length l → BadAt (Over 201 1 201) (in_generate l) 0
unfolding in_generate
over_first [] some = absurd (omega arith)
over_first (n ∷ l) some = inr (inr (inl (omega arith)))

pub loop_deep : (x : Item) (i o : List Token) → Begun item_by.For x i o → BadAt (Over 201 1 201) (item_depths x) 0
loop_deep x i o v =
    let c = (classed item_by.For x i o v).0 in
    let e = (classed item_by.For x i o v).1 in
    subst (λ x. BadAt (Over 201 1 201) (item_depths x) 0) e
    (subst (λ l. BadAt (Over 201 1 201) l 0) (sym (made.nests_for c.0 (is_given c.1.0.0) c.1.0.1.0 c.1.0.1.1.0 c.1.0.1.1.1.0 c.1.0.1.1.1.1 c.1.1)) (over_first _ (simp length-append (omega arith))))

pub cond_deep : (x : Item) (i o : List Token) → Begun item_by.If x i o → BadAt (Over 201 1 201) (item_depths x) 0
cond_deep x i o v =
    let c = (classed item_by.If x i o v).0 in
    let e = (classed item_by.If x i o v).1 in
    subst (λ x. BadAt (Over 201 1 201) (item_depths x) 0) e
    (subst (λ l. BadAt (Over 201 1 201) l 0) (sym (made.nests_if c.0 c.1.0 c.1.1.0 c.1.1.1)) (over_first _ (simp length-append (omega arith))))

pub region_deep : (x : Item) (i o : List Token) → Begun item_by.Generate x i o → BadAt (Over 201 1 201) (item_depths x) 0
region_deep x i o v =
    let c = (classed item_by.Generate x i o v).0 in
    let e = (classed item_by.Generate x i o v).1 in
    subst (λ x. BadAt (Over 201 1 201) (item_depths x) 0) e (subst (λ l. BadAt (Over 201 1 201) l 0) (sym (made.nests_generate c)) (over_first _ (simp length-append (omega arith))))

-- a construct that begins so, where none may hold a token
none_held : (c : ItemOpener) → ((x : Item) (i o : List Token) → Begun c x i o → BadAt (Over 201 1 201) (item_depths x) 0) → IsReader (Over 201 1 201) 0 DoneItem (Begun c) item_depths NoColon too_deep
none_held c deep = deep_reader (Over 201 1 201) (Begun c) item_depths (begun_moved c) deep DoneItem NoColon

-- Items, in which at most so many generate constructs hold a token.
pub item_reads : (g : ℕ) → g ≤ 200 → IsReader (Over 201 (suc g) 201) g DoneItem DoneItem item_depths NoColon (item g)
unfolding item
item_reads zero le =
    item_level_reads 1 0 (omega arith) too_deep too_deep too_deep (none_held item_by.For loop_deep) (none_held item_by.If cond_deep) (none_held item_by.Generate region_deep)
item_reads (suc g) le =
    let r = item_reads g (omega arith) in
    item_level_reads (suc (suc g)) (suc g) le (gen_loop (item g)) (gen_if (item g)) (region (item g))
    (loop_reads (suc g) g (omega arith) (item g) r) (cond_reads (suc g) g (omega arith) (item g) r) (region_reads (suc g) g (omega arith) (item g) r)

-- ---- what an item is, by what its first token begins

pub no_item_begins : (g : ℕ) (i : List Token) → told (sort_test item_by_sort) i ≡ None → ◌≡◌ {A = Outcome Item} (item g i) (Err (Syntax (length i)))
unfolding item item_level
no_item_begins zero i e = ap (λ q. branch q (item_for too_deep too_deep too_deep) refuse i) e
no_item_begins (suc g) i e = ap (λ q. branch q (item_for (gen_loop (item g)) (gen_if (item g)) (region (item g))) refuse i) e

pub flat_begins : (g : ℕ) (c : ItemOpener) (i : List Token) → g ≡ 0 → told (sort_test item_by_sort) i ≡ Some c → ◌≡◌ {A = Outcome Item} (item g i) (item_for too_deep too_deep too_deep c i)
unfolding item item_level
flat_begins g c i none e = ap (λ n. item n i) none ∙ ap (λ q. branch q (item_for too_deep too_deep too_deep) refuse i) e

pub held_begins : (n g : ℕ) (c : ItemOpener) (i : List Token) → n ≡ suc g → told (sort_test item_by_sort) i ≡ Some c
    → ◌≡◌ {A = Outcome Item} (item n i) (item_for (gen_loop (item g)) (gen_if (item g)) (region (item g)) c i)
unfolding item item_level
held_begins n g c i more e = ap (λ n. item n i) more ∙ ap (λ q. branch q (item_for (gen_loop (item g)) (gen_if (item g)) (region (item g))) refuse i) e
