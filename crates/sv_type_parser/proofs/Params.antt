-- Types of parameters and parameters are read as they are spelled.
use Rattle.std.proofs.Common.{◌≡◌, ℕ, ◌≤◌, List, [], ◌∷◌, Option, Some, None, refl, sym, ◌∙◌, ap, subst, append_assoc, arith}
use Rattle.sv_outside.specs.declared.text.Token.{Token}
use Rattle.sv_tree.specs.declared.word.Word.{Word}
use Rattle.sv_tree.specs.declared.exprs.Expr.{Expr}
use Rattle.sv_tree.specs.declared.exprs.Sign.{Sign}
use Rattle.sv_tree.specs.declared.exprs.Sign.TheVariants as sign
use Rattle.sv_tree.specs.declared.forms.WholeWord.{WholeWord}
use Rattle.sv_tree.specs.declared.forms.WholeWord.TheVariants as whole_word
use Rattle.sv_tree.specs.declared.forms.Range.{Range}
use Rattle.sv_tree.specs.declared.forms.TypeTree.{TypeTree}
use Rattle.sv_tree.specs.declared.forms.Typedef.{Typedef}
use Rattle.sv_tree.specs.declared.design.ParamBits.{ParamBits}
use Rattle.sv_tree.specs.declared.design.ParamBits.TheVariants as param_bits
use Rattle.sv_tree.specs.declared.design.ParamType.{ParamType}
use Rattle.sv_tree.specs.declared.design.ParamType.TheVariants as param_type_of
use Rattle.sv_tree.specs.declared.design.ParPort.{ParPort}
use Rattle.sv_tree.specs.declared.design.ParamItem.{ParamItem}
use Rattle.sv_tree.specs.declared.design.Param.{Param}
use Rattle.sv_tree.specs.Spelling.{Spelled, ◌⨟◌, mark as mark_spelled, maybe, commas}
use Rattle.sv_tree.specs.GrammarForms.{sign_key, SpellsRange, SpellsTypedef, whole_key, param_bits_key, SpellsParamType, SpellsParPort, SpellsParamItem, SpellsParam}
use Rattle.sv_tree.specs.Nesting.{if_given}
use Rattle.sv_tree.specs.NestingDesign.{typedef_depths, param_type_depths, par_port_depths, param_item_depths, param_depths}
use Rattle.sv_tree.proofs.Counted.{counted_type}
use Rattle.sv_tree.proofs.CountedDesign.{counted_typedef, counted_param_type, counted_par_port, counted_param_item, counted_param}
use Rattle.sv_cursor.specs.declared.sort.Keyword.{Keyword}
use Rattle.sv_cursor.specs.declared.sort.Keyword.TheVariants as k
use Rattle.sv_cursor.specs.declared.sort.Mark.TheVariants as m
use Rattle.sv_cursor.specs.declared.sort.Sort.{Sort}
use Rattle.sv_cursor.specs.declared.sort.Sort.TheVariants as so
use Rattle.sv_cursor.specs.Sorts.{mark_text, keyword_text}
use Rattle.sv_cursor.specs.Tests.{first_sort, same_mark, mark_test}
use Rattle.sv_cursor.specs.Parsers.{Parser, told}
use Rattle.sv_cursor.proofs.Readers.{IsReader}
use Rattle.sv_expr_reader.proofs.Tokens.{Any, Stops}
use Rattle.sv_word_parser.specs.declared.openers.ParamOpener.{ParamOpener}
use Rattle.sv_word_parser.specs.declared.openers.ParamOpener.TheVariants as param_by
use Rattle.sv_word_parser.specs.Combined.{word_of, word_test, sort_test}
use Rattle.sv_word_parser.specs.Words.{param_by_word, param_type_by_word, param_type_by_sort}
use Rattle.sv_type_parser.specs.Forms.{range_if, maybe_sign, made_typedef, typedef}
use Rattle.sv_type_parser.specs.Params.{made_whole, whole_type, made_word_bits, word_bits, made_sign_bits, sign_bits, made_range_bits, range_bits, param_type_for, param_type, maybe_param_type, made_par_port, par_port, made_param_item, param_item, made_param, param}
use Rattle.sv_type_parser.proofs.Rules.{Rule, the_mark, the_key, less, before, seq, closing, optional, tree_reads, rule_of, until, list_rule, name_rule, Way, choose_reads, ReadBy, reader_of, IsFirst, first_of_mark, first_of_name, told_sort, told_word, no_mark}
use Rattle.sv_type_parser.proofs.Words.{sign_rule, sign_first, sign_word_name, whole_rule, whole_first, whole_word_name, param_bits_rule, param_bits_first, param_bits_word_name, param_rule, param_begins}
use Rattle.sv_type_parser.proofs.Limits.{Over, first_end, end_mark}
use Rattle.sv_type_parser.proofs.Types.{TypeStops, range_first, range_rule, given_rule, maybe_sign_rule, maybe_range_rule, sign_before_range, type_stops_name, form_reads}

pub told_param_first : (i : List Token) → told (sort_test param_type_by_sort) i ≡ param_type_by_sort (first_sort i)
told_param_first i = told_sort param_type_by_sort i refl

told_param : (x : Sort) (i : List Token) → IsFirst x i → told (sort_test param_type_by_sort) i ≡ param_type_by_sort x
told_param x i h = told_sort param_type_by_sort i refl ∙ ap param_type_by_sort h

whole_begin : (w : WholeWord) → param_type_by_word (whole_word_name w) ≡ Some param_by.Whole
whole_begin whole_word.Int = refl
whole_begin whole_word.Integer = refl

bits_begin : (w : ParamBits) → param_type_by_word (param_bits_word_name w) ≡ Some param_by.Word
bits_begin param_bits.Bit = refl
bits_begin param_bits.Logic = refl
bits_begin param_bits.Reg = refl

sign_begin : (w : Sign) → param_type_by_word (sign_word_name w) ≡ Some param_by.Sign
sign_begin sign.Signed = refl
sign_begin sign.Unsigned = refl

-- how the type of a parameter is made of parts, by what its first token begins
abbrev ParamClass : ParamOpener → ParamType → Spelled
ParamClass param_by.Whole x i o = (c : WholeWord × Option Sign) × (made_whole c ≡ x) × (whole_key c.0 ⨟ maybe sign_key c.1) i o
ParamClass param_by.Word x i o = (c : ParamBits × (Option Sign × Option Range)) × (made_word_bits c ≡ x) × (param_bits_key c.0 ⨟ (maybe sign_key c.1.0 ⨟ maybe SpellsRange c.1.1)) i o
ParamClass param_by.Sign x i o = (c : Sign × Option Range) × (made_sign_bits c ≡ x) × (sign_key c.0 ⨟ maybe SpellsRange c.1) i o
ParamClass param_by.Range x i o = (c : Range) × (made_range_bits c ≡ x) × SpellsRange c i o

param_view : (x : ParamType) (i o : List Token) → SpellsParamType x i o → (c : ParamOpener) × (told (sort_test param_type_by_sort) i ≡ Some c) × ParamClass c x i o
param_view (param_type_of.Whole w sg) i o h = (param_by.Whole, told_param (so.Keyword (whole_word_name w)) i (whole_first w i h.0 h.1) ∙ whole_begin w, ((w, sg), refl, h))
param_view (param_type_of.Bits (Some w) sg r) i o h = (param_by.Word, told_param (so.Keyword (param_bits_word_name w)) i (param_bits_first w i h.0 h.1) ∙ bits_begin w, ((w, (sg, r)), refl, h))
param_view (param_type_of.Bits None (Some sg) r) i o h =
    let f : sign_key sg i h.2.0 = subst (λ t. sign_key sg t h.2.0) (sym h.1) h.2.1 in
    (param_by.Sign, told_param (so.Keyword (sign_word_name sg)) i (sign_first sg i h.2.0 f) ∙ sign_begin sg, ((sg, r), refl, (h.2.0, f, h.2.2)))
param_view (param_type_of.Bits None None (Some r)) i o h =
    let f : SpellsRange r i o = subst (λ t. SpellsRange r t o) (sym (h.1 ∙ h.2.1)) h.2.2 in
    (param_by.Range, told_param (so.Mark m.LeftBracket) i (range_first r i o f), (r, refl, f))
param_view (param_type_of.Bits None None None) i o h = absurd h

-- no type of a parameter begins with `parameter` or `localparam`
no_param : (w : Keyword) (c : ParamOpener) → param_type_by_word w ≡ Some c → param_by_word w ≡ None
no_param k.Parameter c h = absurd (cc)
no_param k.Localparam c h = absurd (cc)
no_param _ c h = refl

param_apart : (x : Sort) (c : ParamOpener) → param_type_by_sort x ≡ Some c → word_of param_by_word x ≡ None
param_apart (so.Keyword w) c h = no_param w c h
param_apart _ c h = refl

param_type_begins : (x : ParamType) (i o : List Token) → SpellsParamType x i o → (c : ParamOpener) × (told (sort_test param_type_by_sort) i ≡ Some c)
param_type_begins x i o h = let v = param_view x i o h in (v.0, v.1)

module _ (s g t d : ℕ) (le : d ≤ 200) where
  abbrev ParamWay : Type 1
  ParamWay = Way (Over s g t) d ParamType SpellsParamType param_type_depths TypeStops

  abbrev sign_and_range : Rule (Over s g t) d (Option Sign × Option Range)
  sign_and_range = seq (maybe_sign_rule s g t d le) (until TypeStops (maybe_range_rule s g t d le) (λ o h. (h.0, tt))) (λ x r i o h stops. (sign_before_range s g t d le r i o h stops.1, tt))

  abbrev ways : ParamOpener → ParamWay
  ways param_by.Whole = record {
    A = WholeWord × Option Sign;
    rule = seq (whole_rule (Over s g t) d) (maybe_sign_rule s g t d le) (λ x y i o h stops. tt);
    made = made_whole;
    nested = λ c. refl;
    to = λ c i o h. h;
    ends = λ o h. (h.1, tt);
  }
  ways param_by.Word = record {
    A = ParamBits × (Option Sign × Option Range);
    rule = seq (param_bits_rule (Over s g t) d) sign_and_range (λ x y i o h stops. tt);
    made = made_word_bits;
    nested = λ c. simp append_assoc;
    to = λ c i o h. h;
    ends = λ o h. h;
  }
  ways param_by.Sign = record {
    A = Sign × Option Range;
    rule = seq (sign_rule (Over s g t) d) (maybe_range_rule s g t d le) (λ x y i o h stops. tt);
    made = made_sign_bits;
    nested = λ c. refl;
    to = λ c i o h. (i, refl, h);
    ends = λ o h. (h.0, tt);
  }
  ways param_by.Range = record {
    A = Range;
    rule = range_rule s g t d le;
    made = made_range_bits;
    nested = λ c. refl;
    to = λ c i o h. (i, refl, (i, refl, h));
    ends = λ o h. tt;
  }

  same : (c : ParamOpener) → ◌≡◌ {A = Parser ParamType} (reader_of (ways c)) (param_type_for c)
  unfolding whole_type word_bits sign_bits range_bits maybe_sign range_if
  same param_by.Whole = refl
  same param_by.Word = refl
  same param_by.Sign = refl
  same param_by.Range = refl

  read_by : (c : ParamOpener) (x : ParamType) (i o : List Token) → ParamClass c x i o → ReadBy (ways c) x i o
  read_by param_by.Whole x i o h = h
  read_by param_by.Word x i o h = h
  read_by param_by.Sign x i o h = h
  read_by param_by.Range x i o h = h

  pub param_type_reads : IsReader (Over s g t) d SpellsParamType SpellsParamType param_type_depths TypeStops param_type
  unfolding param_type
  param_type_reads = choose_reads (sort_test param_type_by_sort) ways param_type_for same (λ x i o h. let v = param_view x i o h in (v.0, v.1, read_by v.0 x i o v.2))

  abbrev param_type_rule : Rule (Over s g t) d ParamType
  param_type_rule = rule_of param_type_reads counted_param_type

  abbrev ParamStops : List Token → Type 0
  ParamStops o = (told (sort_test param_type_by_sort) o ≡ None) × TypeStops o

  maybe_type_reads : IsReader (Over s g t) d (maybe SpellsParamType) (maybe SpellsParamType) (if_given param_type_depths) ParamStops maybe_param_type
  unfolding maybe_param_type
  maybe_type_reads = (optional (sort_test param_type_by_sort) param_type_rule param_type_begins).reads

  abbrev maybe_type_rule : Rule (Over s g t) d (Option ParamType)
  maybe_type_rule = record {
    spelled = maybe SpellsParamType;
    nests = if_given param_type_depths;
    stops = ParamStops;
    parser = maybe_param_type;
    reads = maybe_type_reads;
    moved = (optional (sort_test param_type_by_sort) param_type_rule param_type_begins).moved;
  }

  param_stops_name : (i : List Token) → IsFirst so.Id i → ParamStops i
  param_stops_name i h = (told_param so.Id i h, type_stops_name i h)

  -- a type, or none, and what stands behind it
  no_param_word : (x : Option ParamType) (i u : List Token) → maybe SpellsParamType x i u → IsFirst so.Id u → told (word_test param_by_word) i ≡ None
  no_param_word None i u h f = told_word param_by_word i ∙ ap (word_of param_by_word) (subst (IsFirst so.Id) (sym h) f)
  no_param_word (Some x) i u h f = let v = param_type_begins x i u h in told_word param_by_word i ∙ param_apart (first_sort i) v.0 (sym (told_sort param_type_by_sort i refl) ∙ v.1)

  abbrev named_value : Rule (Over s g t) d (Word × Expr)
  named_value = seq (name_rule (Over s g t) d) (given_rule s g t d le) (λ x y i o h stops. tt)

  pub par_port_reads : IsReader (Over s g t) d SpellsParPort SpellsParPort par_port_depths (Stops 0) par_port
  unfolding par_port
  par_port_reads =
      tree_reads
      (seq (optional (word_test param_by_word) (param_rule (Over s g t) d) param_begins)
      (seq maybe_type_rule named_value (λ x y i o h stops. param_stops_name i (first_of_name y.0 i h.0 h.1)))
      (λ x c i o h stops. (no_param_word c.0 i h.0 h.1 (first_of_name c.1.0 h.0 h.2.0 h.2.1), tt)))
      made_par_port SpellsParPort par_port_depths (λ c. simp append_assoc) (λ c i o h. h) (λ p i o h. ((p.word, (p.form, (p.name, p.value))), refl, h))

  abbrev pub par_port_rule : Rule (Over s g t) d ParPort
  par_port_rule = rule_of par_port_reads counted_par_port

  param_item_reads : IsReader (Over s g t) d SpellsParamItem SpellsParamItem param_item_depths (Stops 0) param_item
  unfolding param_item
  param_item_reads = tree_reads named_value made_param_item SpellsParamItem param_item_depths (λ c. refl) (λ c i o h. h) (λ p i o h. ((p.name, p.value), refl, h))

  abbrev param_item_rule : Rule (Over s g t) d ParamItem
  param_item_rule = rule_of param_item_reads counted_param_item

  items_end : (i o : List Token) → mark_spelled (mark_text m.Semicolon) i o → (told (mark_test m.Comma) i ≡ None) × Stops 0 i
  unfolding same_mark
  items_end i o h = (no_mark m.Comma (so.Mark m.Semicolon) i refl (first_of_mark m.Semicolon i o h), end_mark m.Semicolon refl i o h)

  first_item : (all : List ParamItem) (i o : List Token) → commas SpellsParamItem all i o → IsFirst so.Id i
  first_item [] i o h = absurd h
  first_item (x ∷ all) i o h = first_of_name x.name i h.1.0 h.1.1

  pub param_reads : IsReader (Over s g t) d SpellsParam SpellsParam param_depths Any param
  unfolding param mark_text
  param_reads =
      tree_reads
      (seq (param_rule (Over s g t) d)
      (seq maybe_type_rule (closing (list_rule param_item_rule (λ i h. first_end m.Comma refl i h)) (the_mark (Over s g t) m.Semicolon) items_end) (λ x all i o h stops. param_stops_name i (first_item all i h.0 h.1)))
      (λ x y i o h stops. tt))
      made_param SpellsParam param_depths (λ c. simp append_assoc) (λ c i o h. h) (λ p i o h. ((p.word, (p.form, p.list)), refl, h))

  abbrev pub param_tree_rule : Rule (Over s g t) d Param
  param_tree_rule = rule_of param_reads counted_param

-- ---- names of types

module _ (s g d : ℕ) (le : d ≤ 200) where
  abbrev pub form_rule : Rule (Over s g 201) d TypeTree
  form_rule = less d le (rule_of (form_reads s g 200 (omega arith)) counted_type)

  pub typedef_reads : IsReader (Over s g 201) d SpellsTypedef SpellsTypedef typedef_depths Any typedef
  unfolding typedef keyword_text mark_text
  typedef_reads =
      tree_reads
      (before (the_key (Over s g 201) k.Typedef) (seq form_rule (closing (name_rule (Over s g 201) d) (the_mark (Over s g 201) m.Semicolon) (λ i o h. tt)) (λ x w i o h stops. type_stops_name i (first_of_name w i h.0 h.1))))
      made_typedef SpellsTypedef typedef_depths (λ c. simp append_assoc) (λ c i o h. h) (λ x i o h. ((x.form, x.name), refl, h))

  abbrev pub typedef_rule : Rule (Over s g 201) d Typedef
  typedef_rule = rule_of typedef_reads counted_typedef
