-- Instances, and what else begins with a name, are read as they are spelled.
use Rattle.std.proofs.Common.{◌≡◌, ℕ, ◌≤◌, ◌⊎◌, inl, inr, List, [], ◌∷◌, ◌++◌, Option, Some, None, refl, sym, ◌∙◌, ap, subst, append_assoc, arith}
use Rattle.sv_outside.specs.declared.refusal.Place.{Place}
use Rattle.sv_outside.specs.declared.text.Token.{Token}
use Rattle.sv_tree.specs.declared.word.Word.{Word}
use Rattle.sv_tree.specs.declared.exprs.Expr.{Expr}
use Rattle.sv_tree.specs.declared.forms.Range.{Range}
use Rattle.sv_tree.specs.declared.design.Pin.{Pin}
use Rattle.sv_tree.specs.declared.design.Pin.TheVariants as pin_of
use Rattle.sv_tree.specs.declared.design.NamedPin.{NamedPin}
use Rattle.sv_tree.specs.declared.design.Pins.{Pins}
use Rattle.sv_tree.specs.declared.design.Pins.TheVariants as pins_of
use Rattle.sv_tree.specs.declared.design.One.{One}
use Rattle.sv_tree.specs.Spelling.{Spelled, ◌⨟◌, mark as mark_spelled, name, maybe, commas, after_commas}
use Rattle.sv_tree.specs.GrammarExprs.{Spells}
use Rattle.sv_tree.specs.GrammarForms.{SpellsRange}
use Rattle.sv_tree.specs.GrammarDesign.{SpellsPin, SpellsNamed, SpellsPins, SpellsOne}
use Rattle.sv_tree.specs.Nesting.{Depths, one as one_token, if_given, each_depths, commas_depths, after_commas_depths, word_depths}
use Rattle.sv_tree.specs.NestingDesign.{range_depths, pin_depths, named_depths, pins_depths, one_depths}
use Rattle.sv_tree.proofs.MadeStmts.{some}
use Rattle.sv_tree.proofs.CountedDesign.{counted_pin, counted_named, counted_pins, counted_one}
use Rattle.sv_cursor.specs.declared.sort.Mark.{Mark as MarkName}
use Rattle.sv_cursor.specs.declared.sort.Mark.TheVariants as m
use Rattle.sv_cursor.specs.declared.sort.Sort.{Sort}
use Rattle.sv_cursor.specs.declared.sort.Sort.TheVariants as so
use Rattle.sv_cursor.specs.Sorts.{mark_text}
use Rattle.sv_cursor.specs.Tests.{first_sort, same_mark, mark_test}
use Rattle.sv_cursor.specs.Parsers.{Parser, told}
use Rattle.sv_cursor.proofs.Readers.{IsReader, IsMoved}
use Rattle.sv_expr_words.specs.declared.openers.Opener.{Opener}
use Rattle.sv_expr_words.specs.Signs.{opener, opener_test}
use Rattle.sv_expr_reader.proofs.Tokens.{Any, Stops}
use Rattle.sv_instance_parser.specs.declared.openers.PinsOpener.{PinsOpener}
use Rattle.sv_instance_parser.specs.declared.openers.PinsOpener.TheVariants as pins_by
use Rattle.sv_word_parser.specs.declared.openers.TailOpener.{TailOpener}
use Rattle.sv_word_parser.specs.declared.openers.TailOpener.TheVariants as tail_by
use Rattle.sv_instance_parser.specs.declared.tails.NameTail.{NameTail}
use Rattle.sv_instance_parser.specs.declared.tails.NameTail.TheVariants as name_tail_of
use Rattle.sv_instance_parser.specs.declared.tails.PlainTail.{PlainTail}
use Rattle.sv_instance_parser.specs.declared.tails.PlainTail.TheVariants as plain_tail_of
use Rattle.sv_word_parser.specs.Combined.{sort_test}
use Rattle.sv_word_parser.specs.Words.{tail_by_sort}
use Rattle.sv_instance_parser.specs.Pins.{ordered_if, pins_by_sort}
use Rattle.sv_instance_parser.specs.Instances.{made_pin, pin_inside, pin, made_named_pin, named_pin, pins_for, pins, pins_inside, made_one, one, more_ones, more_names, made_instances, instances, variables, plain_tail, made_overridden, overridden, made_ranged, ranged, made_plain, plain, tail_for, name_tail}
use Rattle.sv_type_parser.proofs.Rules.{Rule, Fixed, the_mark, before, seq, closing, optional, tree_reads, rule_of, some_rule, list_rule, after_rule, name_rule, Way, choose_reads, choose_moved, fork_reads, fork_moved, ReadBy, reader_of, mark_begins, IsFirst, first_of_mark, first_of_name, told_sort, no_mark}
use Rattle.sv_type_parser.proofs.Limits.{Over, expression_rule, first_end}
use Rattle.sv_type_parser.proofs.Types.{range_first, range_begins, range_rule, names_end, semicolon_no_comma}
use Rattle.sv_stmt_parser.proofs.Begins.{expr_begins, exprs_begin, told_opener}

-- ---- first tokens

told_pins : (x : Sort) (i : List Token) → IsFirst x i → told (sort_test pins_by_sort) i ≡ pins_by_sort x
told_pins x i h = told_sort pins_by_sort i refl ∙ ap pins_by_sort h

expr_ordered : (y : Sort) (c : Opener) → opener y ≡ Some c → pins_by_sort y ≡ Some pins_by.Ordered
expr_ordered (so.Mark m.Dot) c h = absurd (cc)
expr_ordered (so.Mark _) c h = ap ordered_if h
expr_ordered so.Id c h = refl
expr_ordered so.Literal c h = refl
expr_ordered so.Other c h = absurd (cc)
expr_ordered (so.Keyword w) c h = ap ordered_if h
expr_ordered (so.System f) c h = refl

exprs_told : (all : List Expr) (i o : List Token) → commas (Spells 0) all i o → told (sort_test pins_by_sort) i ≡ Some pins_by.Ordered
exprs_told all i o h = let b = exprs_begin all i o h in told_sort pins_by_sort i refl ∙ expr_ordered (first_sort i) b.0 (sym (told_opener i) ∙ b.1)

named_told : (all : List NamedPin) (i o : List Token) → commas SpellsNamed all i o → told (sort_test pins_by_sort) i ≡ Some pins_by.Named
unfolding mark_text
named_told [] i o h = absurd h
named_told (x ∷ all) i o h = told_pins (so.Mark m.Dot) i (first_of_mark m.Dot i h.1.0 h.1.1)

abbrev NoParen : List Token → Type 0
NoParen o = (told (mark_test m.LeftParen) o ≡ None) × Any o

-- what stops connections
abbrev PinsStops : List Token → Type 0
PinsStops o = (told (mark_test m.Comma) o ≡ None) × ((told (mark_test m.LeftParen) o ≡ None) × Stops 0 o)

paren_stops_expr : (i o : List Token) → mark_spelled (mark_text m.RightParen) i o → (told opener_test i ≡ None) × Stops 0 i
paren_stops_expr i o h = let f = first_of_mark m.RightParen i o h in (told_opener i ∙ ap opener f, first_end m.RightParen refl i f)

paren_stops_pins : (i o : List Token) → mark_spelled (mark_text m.RightParen) i o → (told (sort_test pins_by_sort) i ≡ None) × PinsStops i
unfolding same_mark
paren_stops_pins i o h =
    let f = first_of_mark m.RightParen i o h in
    (told_pins (so.Mark m.RightParen) i f, (no_mark m.Comma (so.Mark m.RightParen) i refl f, (no_mark m.LeftParen (so.Mark m.RightParen) i refl f, first_end m.RightParen refl i f)))

comma_no_paren : (i : List Token) → IsFirst (so.Mark m.Comma) i → NoParen i
unfolding same_mark
comma_no_paren i h = (no_mark m.LeftParen (so.Mark m.Comma) i refl h, tt)

pub semicolon_ends : (i o : List Token) → mark_spelled (mark_text m.Semicolon) i o → (told (mark_test m.Comma) i ≡ None) × Any i
semicolon_ends i o h = semicolon_no_comma i o h

-- ---- the grammar of the parts

abbrev PinsInside : Option Pins → Spelled
PinsInside p = mark_spelled (mark_text m.LeftParen) ⨟ (maybe SpellsPins p ⨟ mark_spelled (mark_text m.RightParen))

abbrev pins_inside_nests : Option Pins → Depths
pins_inside_nests p = one_token ++ (if_given pins_depths p ++ one_token)

abbrev pub PlainSpelled : PlainTail → Spelled
PlainSpelled (plain_tail_of.Instances p all) = PinsInside p ⨟ (after_commas SpellsOne all ⨟ mark_spelled (mark_text m.Semicolon))
PlainSpelled (plain_tail_of.Variables all) = after_commas name all ⨟ mark_spelled (mark_text m.Semicolon)

abbrev pub plain_nests : PlainTail → Depths
plain_nests (plain_tail_of.Instances p all) = pins_inside_nests p ++ (after_commas_depths one_depths all ++ one_token)
plain_nests (plain_tail_of.Variables all) = after_commas_depths word_depths all ++ one_token

abbrev pub TailSpelled : NameTail → Spelled
TailSpelled (name_tail_of.Overridden p all) = mark_spelled (mark_text m.Hash) ⨟ (PinsInside p ⨟ (commas SpellsOne all ⨟ mark_spelled (mark_text m.Semicolon)))
TailSpelled (name_tail_of.Ranged ranges all) = some SpellsRange ranges ⨟ (commas name all ⨟ mark_spelled (mark_text m.Semicolon))
TailSpelled (name_tail_of.Plain n x) = name n ⨟ PlainSpelled x

abbrev pub tail_nests : NameTail → Depths
tail_nests (name_tail_of.Overridden p all) = one_token ++ (pins_inside_nests p ++ (commas_depths one_depths all ++ one_token))
tail_nests (name_tail_of.Ranged ranges all) = each_depths range_depths ranges ++ (commas_depths word_depths all ++ one_token)
tail_nests (name_tail_of.Plain n x) = one_token ++ plain_nests x

told_tail : (x : Sort) (i : List Token) → IsFirst x i → told (sort_test tail_by_sort) i ≡ tail_by_sort x
told_tail x i h = told_sort tail_by_sort i refl ∙ ap tail_by_sort h

some_first : (all : List Range) (i o : List Token) → some SpellsRange all i o → IsFirst (so.Mark m.LeftBracket) i
some_first [] i o h = absurd h
some_first (r ∷ all) i o h = range_first r i h.0 h.1

names_stop_range : (i : List Token) → IsFirst so.Id i → (told (mark_test m.LeftBracket) i ≡ None) × Any i
unfolding same_mark
names_stop_range i h = (no_mark m.LeftBracket so.Id i refl h, tt)

first_name : (all : List Word) (i o : List Token) → commas name all i o → IsFirst so.Id i
first_name [] i o h = absurd h
first_name (w ∷ all) i o h = first_of_name w i h.0 h.1

names_no_paren : (all : List Word) (i t o : List Token) → after_commas name all i t → mark_spelled (mark_text m.Semicolon) t o → told (mark_test m.LeftParen) i ≡ None
unfolding same_mark mark_text
names_no_paren [] i t o h e = no_mark m.LeftParen (so.Mark m.Semicolon) i refl (subst (IsFirst (so.Mark m.Semicolon)) (sym h) (first_of_mark m.Semicolon t o e))
names_no_paren (w ∷ all) i t o h e = no_mark m.LeftParen (so.Mark m.Comma) i refl (first_of_mark m.Comma i h.0 h.1)

module _ (s g t d : ℕ) (le : d ≤ 200) where
  abbrev mk : MarkName → Fixed (Over s g t)
  mk x = the_mark (Over s g t) x

  abbrev expr_rule : Rule (Over s g t) d Expr
  expr_rule = expression_rule s g t d le

  -- ---- connections

  abbrev inside_rule : Rule (Over s g t) d (Option Expr)
  inside_rule = before (mk m.LeftParen) (closing (optional opener_test expr_rule expr_begins) (mk m.RightParen) paren_stops_expr)

  pin_nested : (q : Option (Option Expr)) → if_given inside_rule.nests q ≡ pin_depths (made_pin q)
  pin_nested None = refl
  pin_nested (Some None) = refl
  pin_nested (Some (Some x)) = simp append_assoc

  pin_to : (q : Option (Option Expr)) (i o : List Token) → maybe inside_rule.spelled q i o → SpellsPin (made_pin q) i o
  unfolding mark_text
  pin_to None i o h = h
  pin_to (Some None) i o h = (h.0, h.1, subst (λ t. mark_spelled (mark_text m.RightParen) t o) (sym h.2.1) h.2.2)
  pin_to (Some (Some x)) i o h = h

  pin_from : (p : Pin) (i o : List Token) → SpellsPin p i o → (q : Option (Option Expr)) × (made_pin q ≡ p) × maybe inside_rule.spelled q i o
  unfolding mark_text
  pin_from pin_of.Same i o h = (None, refl, h)
  pin_from pin_of.Open i o h = (Some None, refl, (h.0, h.1, (h.0, refl, h.2)))
  pin_from (pin_of.Given x) i o h = (Some (Some x), refl, h)

  pin_reads : IsReader (Over s g t) d SpellsPin SpellsPin pin_depths NoParen pin
  unfolding pin pin_inside
  pin_reads = tree_reads (optional (mark_test m.LeftParen) inside_rule (λ q i o h. mark_begins m.LeftParen i h.0 h.1)) made_pin SpellsPin pin_depths pin_nested pin_to pin_from

  abbrev pin_rule : Rule (Over s g t) d Pin
  pin_rule = rule_of pin_reads counted_pin

  named_reads : IsReader (Over s g t) d SpellsNamed SpellsNamed named_depths NoParen named_pin
  unfolding named_pin mark_text
  named_reads =
      tree_reads (before (mk m.Dot) (seq (name_rule (Over s g t) d) pin_rule (λ x y i o h stops. tt))) made_named_pin SpellsNamed named_depths (λ c. refl) (λ c i o h. h) (λ p i o h. ((p.name, p.pin), refl, h))

  abbrev named_rule : Rule (Over s g t) d NamedPin
  named_rule = rule_of named_reads counted_named

  abbrev PinsWay : Type 1
  PinsWay = Way (Over s g t) d Pins SpellsPins pins_depths PinsStops

  abbrev pins_ways : PinsOpener → PinsWay
  pins_ways pins_by.Named = record { A = List NamedPin; rule = list_rule named_rule comma_no_paren; made = pins_of.Named; nested = λ c. refl; to = λ c i o h. h; ends = λ o h. (h.0, (h.1.0, tt)) }
  pins_ways pins_by.Ordered = record { A = List Expr; rule = list_rule expr_rule (first_end m.Comma refl); made = pins_of.Ordered; nested = λ c. refl; to = λ c i o h. h; ends = λ o h. (h.0, h.1.1) }

  pins_same : (c : PinsOpener) → ◌≡◌ {A = Parser Pins} (reader_of (pins_ways c)) (pins_for c)
  pins_same pins_by.Named = refl
  pins_same pins_by.Ordered = refl

  pins_view : (x : Pins) (i o : List Token) → SpellsPins x i o → (c : PinsOpener) × (told (sort_test pins_by_sort) i ≡ Some c) × ReadBy (pins_ways c) x i o
  pins_view (pins_of.Named all) i o h = (pins_by.Named, named_told all i o h, (all, refl, h))
  pins_view (pins_of.Ordered all) i o h = (pins_by.Ordered, exprs_told all i o h, (all, refl, h))

  pins_reads : IsReader (Over s g t) d SpellsPins SpellsPins pins_depths PinsStops pins
  unfolding pins
  pins_reads = choose_reads (sort_test pins_by_sort) pins_ways pins_for pins_same pins_view

  abbrev pins_rule : Rule (Over s g t) d Pins
  pins_rule = rule_of pins_reads counted_pins

  pins_begin : (x : Pins) (i o : List Token) → SpellsPins x i o → (c : PinsOpener) × (told (sort_test pins_by_sort) i ≡ Some c)
  pins_begin x i o h = let v = pins_view x i o h in (v.0, v.1)

  abbrev pins_tuple : Rule (Over s g t) d (Option Pins)
  pins_tuple = before (mk m.LeftParen) (closing (optional (sort_test pins_by_sort) pins_rule pins_begin) (mk m.RightParen) paren_stops_pins)

  pins_inside_reads : IsReader (Over s g t) d PinsInside PinsInside pins_inside_nests Any pins_inside
  unfolding pins_inside
  pins_inside_reads = pins_tuple.reads

  abbrev pins_inside_rule : Rule (Over s g t) d (Option Pins)
  pins_inside_rule = record { spelled = PinsInside; nests = pins_inside_nests; stops = Any; parser = pins_inside; reads = pins_inside_reads; moved = pins_tuple.moved }

  one_reads : IsReader (Over s g t) d SpellsOne SpellsOne one_depths Any one
  unfolding one mark_text
  one_reads = tree_reads (seq (name_rule (Over s g t) d) pins_inside_rule (λ x y i o h stops. tt)) made_one SpellsOne one_depths (λ c. simp append_assoc) (λ c i o h. h) (λ x i o h. ((x.name, x.pins), refl, h))

  abbrev one_rule : Rule (Over s g t) d One
  one_rule = rule_of one_reads counted_one

  -- ---- behind a name

  abbrev PlainWay : Type 1
  PlainWay = Way (Over s g t) d PlainTail PlainSpelled plain_nests Any

  abbrev pub more_names_rule : Rule (Over s g t) d (List Word)
  more_names_rule = closing (after_rule (name_rule (Over s g t) d) (λ i h. tt)) (mk m.Semicolon) semicolon_ends

  abbrev instances_way : PlainWay
  instances_way = record {
    A = Option Pins × List One;
    rule = seq pins_inside_rule (closing (after_rule one_rule (λ i h. tt)) (mk m.Semicolon) semicolon_ends) (λ x y i o h stops. tt);
    made = made_instances;
    nested = λ c. refl;
    to = λ c i o h. h;
    ends = λ o h. tt;
  }

  abbrev variables_way : PlainWay
  variables_way = record { A = List Word; rule = more_names_rule; made = plain_tail_of.Variables; nested = λ c. refl; to = λ c i o h. h; ends = λ o h. tt }

  plain_view : (x : PlainTail) (i o : List Token) → PlainSpelled x i o → ((c : Place) × (told (mark_test m.LeftParen) i ≡ Some c) × ReadBy instances_way x i o) ⊎ ((told (mark_test m.LeftParen) i ≡ None) × ReadBy variables_way x i o)
  plain_view (plain_tail_of.Instances p all) i o h = let b = mark_begins m.LeftParen i h.1.0 h.1.1 in inl (b.0, b.1, ((p, all), refl, h))
  plain_view (plain_tail_of.Variables all) i o h = inr (names_no_paren all i h.0 o h.1 h.2, (all, refl, h))

  plain_reads : IsReader (Over s g t) d PlainSpelled PlainSpelled plain_nests Any plain_tail
  unfolding plain_tail instances variables more_ones more_names
  plain_reads = fork_reads (mark_test m.LeftParen) instances_way variables_way plain_view

  abbrev plain_rule : Rule (Over s g t) d PlainTail
  plain_rule = record { spelled = PlainSpelled; nests = plain_nests; stops = Any; parser = plain_tail; reads = plain_reads; moved = fork_moved (mark_test m.LeftParen) instances_way variables_way plain_view }

  abbrev TailWay : Type 1
  TailWay = Way (Over s g t) d NameTail TailSpelled tail_nests Any

  abbrev tail_ways : TailOpener → TailWay
  tail_ways tail_by.Hash = record {
    A = Option Pins × List One;
    rule = before (mk m.Hash) (seq pins_inside_rule (closing (list_rule one_rule (λ i h. tt)) (mk m.Semicolon) semicolon_ends) (λ x y i o h stops. tt));
    made = made_overridden;
    nested = λ c. refl;
    to = λ c i o h. h;
    ends = λ o h. tt;
  }
  tail_ways tail_by.Bracket = record {
    A = List Range × List Word;
    rule = seq (some_rule (mark_test m.LeftBracket) (range_rule s g t d le) range_begins (λ r i o h. omega arith) (λ c i h. tt)) (names_end s g t d le) (λ x all i o h stops. names_stop_range i (first_name all i h.0 h.1));
    made = made_ranged;
    nested = λ c. refl;
    to = λ c i o h. h;
    ends = λ o h. tt;
  }
  tail_ways tail_by.Name = record { A = Word × PlainTail; rule = seq (name_rule (Over s g t) d) plain_rule (λ x y i o h stops. tt); made = made_plain; nested = λ c. refl; to = λ c i o h. h; ends = λ o h. tt }

  tail_same : (c : TailOpener) → ◌≡◌ {A = Parser NameTail} (reader_of (tail_ways c)) (tail_for c)
  unfolding overridden ranged plain
  tail_same tail_by.Hash = refl
  tail_same tail_by.Bracket = refl
  tail_same tail_by.Name = refl

  tail_view : (x : NameTail) (i o : List Token) → TailSpelled x i o → (c : TailOpener) × (told (sort_test tail_by_sort) i ≡ Some c) × ReadBy (tail_ways c) x i o
  tail_view (name_tail_of.Overridden p all) i o h = (tail_by.Hash, told_tail (so.Mark m.Hash) i (first_of_mark m.Hash i h.0 h.1), ((p, all), refl, h))
  tail_view (name_tail_of.Ranged ranges all) i o h = (tail_by.Bracket, told_tail (so.Mark m.LeftBracket) i (some_first ranges i h.0 h.1), ((ranges, all), refl, h))
  tail_view (name_tail_of.Plain n x) i o h = (tail_by.Name, told_tail so.Id i (first_of_name n i h.0 h.1), ((n, x), refl, h))

  pub tail_reads : IsReader (Over s g t) d TailSpelled TailSpelled tail_nests Any name_tail
  unfolding name_tail
  tail_reads = choose_reads (sort_test tail_by_sort) tail_ways tail_for tail_same tail_view

  pub tail_moved : IsMoved TailSpelled tail_nests
  tail_moved = choose_moved (sort_test tail_by_sort) tail_ways tail_for tail_same tail_view

  abbrev pub tail_rule : Rule (Over s g t) d NameTail
  tail_rule = record { spelled = TailSpelled; nests = tail_nests; stops = Any; parser = name_tail; reads = tail_reads; moved = tail_moved }
