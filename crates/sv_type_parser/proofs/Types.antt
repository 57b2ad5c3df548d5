-- Ranges, names and types are read as they are spelled.
use Rattle.std.proofs.Common.{◌≡◌, ℕ, zero, suc, ◌-◌, ◌<◌, ◌≤◌, Bool, true, false, ◌⊎◌, inl, inr, List, [], ◌∷◌, ◌++◌, length, take, Option, Some, None, Err, refl, sym, ◌∙◌, ap, subst, append_assoc, length-append, arith}
use Rattle.sv_outside.specs.declared.refusal.Place.{Place}
use Rattle.sv_outside.specs.declared.text.Token.{Token}
use Rattle.sv_tree.specs.declared.word.Word.{Word}
use Rattle.sv_tree.specs.declared.exprs.Expr.{Expr}
use Rattle.sv_tree.specs.declared.exprs.Sign.{Sign}
use Rattle.sv_tree.specs.declared.exprs.Sign.TheVariants as sign
use Rattle.sv_tree.specs.declared.forms.BitsWord.{BitsWord}
use Rattle.sv_tree.specs.declared.forms.BitsWord.TheVariants as bits_word
use Rattle.sv_tree.specs.declared.forms.Range.{Range}
use Rattle.sv_tree.specs.declared.forms.EnumLabel.{EnumLabel}
use Rattle.sv_tree.specs.declared.forms.TypeTree.{TypeTree}
use Rattle.sv_tree.specs.declared.forms.TypeTree.TheVariants as ty
use Rattle.sv_tree.specs.declared.forms.Member.{Member}
use Rattle.sv_tree.specs.Spelling.{Spelled, ◌⨟◌, mark as mark_spelled, key, key_at, name, maybe, each, commas}
use Rattle.sv_tree.specs.GrammarForms.{bits_key, sign_key, SpellsRange, given as given_spelled, SpellsLabel, SpellsType, SpellsMember}
use Rattle.sv_tree.specs.Nesting.{Nesting, Depths, one, in_type, each_depths, commas_depths, word_depths, expr_depths}
use Rattle.sv_tree.specs.NestingDesign.{range_depths, given_depths, enum_label_depths, named_type_depths, type_depths, member_depths}
use Rattle.sv_tree.proofs.MadeStmts.{some}
use Rattle.sv_tree.proofs.MadeForms as made
use Rattle.sv_tree.proofs.Counted.{length_in_type, length_named, counted_range, counted_given, counted_label, counted_names, counted_each, counted_type, counted_member}
use Rattle.sv_cursor.specs.declared.error.ParseErr.TheVariants.{TooDeep}
use Rattle.sv_cursor.specs.declared.sort.Keyword.{Keyword}
use Rattle.sv_cursor.specs.declared.sort.Keyword.TheVariants as k
use Rattle.sv_cursor.specs.declared.sort.Mark.{Mark as MarkName}
use Rattle.sv_cursor.specs.declared.sort.Mark.TheVariants as m
use Rattle.sv_cursor.specs.declared.sort.Sort.{Sort}
use Rattle.sv_cursor.specs.declared.sort.Sort.TheVariants as so
use Rattle.sv_cursor.specs.Sorts.{mark_text, keyword_text}
use Rattle.sv_cursor.specs.Tests.{first_sort, same_mark, is_mark, mark_test, id_test}
use Rattle.sv_cursor.specs.Parsers.{Parser, and_then, pure, too_deep, told, next, take_told, token, branch}
use Rattle.sv_cursor.proofs.Readers.{IsReader, Meets, Placed, Agrees, BadAt, then_meets, then_placed, none_shared, same_told, choose_reader, deep_reader, moved_less}
use Rattle.sv_cursor.proofs.Tested.{name_of, told_of_name}
use Rattle.sv_expr_reader.proofs.Tokens.{Any, Stops, told_of_mark}
use Rattle.sv_word_parser.specs.declared.openers.TypeOpener.{TypeOpener}
use Rattle.sv_word_parser.specs.declared.openers.TypeOpener.TheVariants as type_by
use Rattle.sv_word_parser.specs.Combined.{word_of, word_test, sort_test}
use Rattle.sv_word_parser.specs.Words.{sign_by_word, type_by_word, type_by_sort, word_type_by_sort}
use Rattle.sv_type_parser.specs.Forms.{made_range, range, ranges, given, names, maybe_sign, made_label, enum_label, made_word_vector, word_vector, made_sign_vector, sign_vector, made_range_vector, range_vector, whole, made_enum, enumeration, made_named, named, made_member, member, made_struct, members, structure, type_for, type_level, unranged, name_alone, form}
use Rattle.sv_type_parser.proofs.Rules.{Rule, Fixed, the_mark, the_key, placed, before, opening, seq, closing, optional, several, tree_reads, rule_of, until, some_rule, list_rule, renested, name_reads, name_moved, name_rule, Way, choose_reads, ReadBy, reader_of, IsFirst, first_of_mark, first_of_mark_at, first_of_key, first_of_name, placed_key, some_key, told_sort, told_word, no_mark, mark_begins, moved_counted}
use Rattle.sv_type_parser.proofs.Words.{sign_rule, sign_first, sign_begins, bits_rule, bits_first, sign_word_name, bits_word_name}
use Rattle.sv_type_parser.proofs.Limits.{Over, expression_rule, is_end, first_end, end_mark, typed, named_type_bad}

-- what stops ranges
abbrev pub NoRange : List Token → Type 0
NoRange o = told (mark_test m.LeftBracket) o ≡ None

-- what stops a type
abbrev pub TypeStops : List Token → Type 0
TypeStops o = (told (mark_test m.LeftBracket) o ≡ None) × (told (word_test sign_by_word) o ≡ None)

pub no_sign : (x : Sort) (i : List Token) → IsFirst x i → ◌≡◌ {A = Option Sign} (word_of sign_by_word x) None → told (word_test sign_by_word) i ≡ None
no_sign x i h e = told_word sign_by_word i ∙ (ap (word_of sign_by_word) h ∙ e)

pub range_first : (r : Range) (i o : List Token) → SpellsRange r i o → IsFirst (so.Mark m.LeftBracket) i
unfolding mark_text
range_first r i o h = first_of_mark_at m.LeftBracket r.place i h.0 h.1

pub range_begins : (r : Range) (i o : List Token) → SpellsRange r i o → (p : Place) × (told (mark_test m.LeftBracket) i ≡ Some p)
unfolding mark_text
range_begins r i o h = let g = told_of_mark m.LeftBracket r.place i h.0 h.1 in (r.place, g)

-- the first token of a name
pub told_name : (w : Word) (i o : List Token) → name w i o → told id_test i ≡ Some w
told_name w [] o h = absurd h
told_name w (a ∷ i) o h = (told_of_name w (a ∷ i) o h).0

-- what stops several names
abbrev pub NamesStops : List Token → Type 0
NamesStops o = (told (mark_test m.Comma) o ≡ None) × Any o

pub names_first : (all : List Word) (i o : List Token) → commas name all i o → IsFirst so.Id i
names_first [] i o h = absurd h
names_first (w ∷ all) i o h = first_of_name w i h.0 h.1

pub type_stops_name : (i : List Token) → IsFirst so.Id i → TypeStops i
unfolding same_mark
type_stops_name i h = (no_mark m.LeftBracket so.Id i refl h, no_sign so.Id i h refl)

-- where ranges follow, no sign does
pub sign_before_ranges : (all : List Range) (i o : List Token) → each SpellsRange all i o → told (word_test sign_by_word) o ≡ None → told (word_test sign_by_word) i ≡ None
sign_before_ranges [] i o h none = subst (λ i. told (word_test sign_by_word) i ≡ None) (sym h) none
sign_before_ranges (r ∷ all) i o h none = no_sign (so.Mark m.LeftBracket) i (range_first r i h.0 h.1) refl

pub semicolon_no_comma : (i o : List Token) → mark_spelled (mark_text m.Semicolon) i o → NamesStops i
unfolding same_mark
semicolon_no_comma i o h = (no_mark m.Comma (so.Mark m.Semicolon) i refl (first_of_mark m.Semicolon i o h), tt)

module _ (s g t d : ℕ) (le : d ≤ 200) where
  abbrev mk : MarkName → Fixed (Over s g t)
  mk name = the_mark (Over s g t) name

  abbrev ky : Keyword → Fixed (Over s g t)
  ky word = the_key (Over s g t) word

  abbrev expr_rule : Rule (Over s g t) d Expr
  expr_rule = expression_rule s g t d le

  pub range_reads : IsReader (Over s g t) d SpellsRange SpellsRange range_depths Any range
  unfolding mark_text range
  range_reads =
      tree_reads
      (seq (placed (mk m.LeftBracket)) (seq expr_rule (before (mk m.Colon) (closing expr_rule (mk m.RightBracket) (end_mark m.RightBracket refl))) (λ x y t o h stops. end_mark m.Colon refl t h.0 h.1)) (λ x y t o h stops. tt))
      made_range SpellsRange range_depths (λ c. simp append_assoc) (λ c i o h. h) (λ r i o h. ((r.place, (r.left, r.right)), refl, h))

  abbrev pub range_rule : Rule (Over s g t) d Range
  range_rule = rule_of range_reads counted_range

  pub ranges_reads : IsReader (Over s g t) d (each SpellsRange) (each SpellsRange) (each_depths range_depths) NoRange ranges
  unfolding ranges
  ranges_reads = (until NoRange (several (mark_test m.LeftBracket) range_rule range_begins (λ r i o h. omega arith) (λ c i h. tt)) (λ o h. (h, tt))).reads

  abbrev pub ranges_rule : Rule (Over s g t) d (List Range)
  ranges_rule = rule_of ranges_reads (counted_each SpellsRange range_depths counted_range)

  pub given_reads : IsReader (Over s g t) d given_spelled given_spelled (given_depths expr_depths) (Stops 0) given
  unfolding given mark_text
  given_reads = (before (mk m.Assign) expr_rule).reads

  abbrev pub given_rule : Rule (Over s g t) d Expr
  given_rule = rule_of given_reads counted_given

  pub names_reads : IsReader (Over s g t) d (commas name) (commas name) (commas_depths word_depths) NamesStops names
  unfolding names
  names_reads = (list_rule (name_rule (Over s g t) d) (λ i h. tt)).reads

  abbrev pub names_rule : Rule (Over s g t) d (List Word)
  names_rule = rule_of names_reads counted_names

  -- names up to a semicolon
  abbrev pub names_end : Rule (Over s g t) d (List Word)
  names_end = closing names_rule (mk m.Semicolon) semicolon_no_comma

  abbrev pub maybe_sign_rule : Rule (Over s g t) d (Option Sign)
  maybe_sign_rule = optional (word_test sign_by_word) (sign_rule (Over s g t) d) sign_begins

  pub label_reads : IsReader (Over s g t) d SpellsLabel SpellsLabel enum_label_depths (λ o. (told (mark_test m.Assign) o ≡ None) × Stops 0 o) enum_label
  unfolding enum_label mark_text
  label_reads =
      tree_reads (seq (name_rule (Over s g t) d) (optional (mark_test m.Assign) given_rule (λ x i o h. mark_begins m.Assign i h.0 h.1)) (λ x y t o h stops. tt)) made_label SpellsLabel enum_label_depths
      (λ c. refl) (λ c i o h. h) (λ x i o h. ((x.name, x.value), refl, h))

  abbrev pub label_rule : Rule (Over s g t) d EnumLabel
  label_rule = rule_of label_reads counted_label

  -- ---- types that hold no types

  abbrev pub sign_and_ranges : Rule (Over s g t) d (Option Sign × List Range)
  sign_and_ranges = seq maybe_sign_rule (until TypeStops ranges_rule (λ o h. h.0)) (λ x all i o h stops. (sign_before_ranges all i o h stops.1, tt))

  abbrev pub word_vector_rule : Rule (Over s g t) d (BitsWord × (Option Sign × List Range))
  word_vector_rule = seq (bits_rule (Over s g t) d) sign_and_ranges (λ x y i o h stops. tt)

  abbrev pub sign_vector_rule : Rule (Over s g t) d (Sign × List Range)
  sign_vector_rule = seq (sign_rule (Over s g t) d) ranges_rule (λ x y i o h stops. tt)

  abbrev pub range_vector_rule : Rule (Over s g t) d (Range × List Range)
  range_vector_rule = seq range_rule ranges_rule (λ x y i o h stops. tt)

  pub brace_no_range : (i o : List Token) → mark_spelled (mark_text m.LeftBrace) i o → (told (mark_test m.LeftBracket) i ≡ None) × Any i
  unfolding same_mark
  brace_no_range i o h = (no_mark m.LeftBracket (so.Mark m.LeftBrace) i refl (first_of_mark m.LeftBrace i o h), tt)

  pub brace_no_sign : (i o : List Token) → mark_spelled (mark_text m.LeftBrace) i o → told (word_test sign_by_word) i ≡ None
  brace_no_sign i o h = no_sign (so.Mark m.LeftBrace) i (first_of_mark m.LeftBrace i o h) refl

  pub label_stops : (name : MarkName) (i : List Token) → is_mark m.Assign (so.Mark name) ≡ false → is_end name ≡ true → IsFirst (so.Mark name) i → (told (mark_test m.Assign) i ≡ None) × Stops 0 i
  label_stops sign i no_assign e h = (no_mark m.Assign (so.Mark sign) i no_assign h, first_end sign e i h)

  pub labels_end : (i o : List Token) → mark_spelled (mark_text m.RightBrace) i o → (told (mark_test m.Comma) i ≡ None) × ((told (mark_test m.Assign) i ≡ None) × Stops 0 i)
  unfolding same_mark
  labels_end i o h = let f = first_of_mark m.RightBrace i o h in (no_mark m.Comma (so.Mark m.RightBrace) i refl f, label_stops m.RightBrace i refl refl f)

  pub comma_ends_label : (i : List Token) → IsFirst (so.Mark m.Comma) i → (told (mark_test m.Assign) i ≡ None) × Stops 0 i
  unfolding same_mark
  comma_ends_label i h = label_stops m.Comma i refl refl h

  abbrev pub labels_rule : Rule (Over s g t) d (List EnumLabel)
  labels_rule = before (mk m.LeftBrace) (closing (list_rule label_rule comma_ends_label) (mk m.RightBrace) labels_end)

  abbrev pub maybe_range_rule : Rule (Over s g t) d (Option Range)
  maybe_range_rule = optional (mark_test m.LeftBracket) range_rule range_begins

  pub sign_before_range : (r : Option Range) (i o : List Token) → maybe SpellsRange r i o → told (word_test sign_by_word) o ≡ None → told (word_test sign_by_word) i ≡ None
  sign_before_range None i o h none = subst (λ i. told (word_test sign_by_word) i ≡ None) (sym h) none
  sign_before_range (Some r) i o h none = no_sign (so.Mark m.LeftBracket) i (range_first r i o h) refl

  abbrev pub enum_rule : Rule (Over s g t) d (BitsWord × (Option Sign × (Option Range × List EnumLabel)))
  enum_rule =
      before (ky k.Enum)
      (seq (bits_rule (Over s g t) d)
      (seq maybe_sign_rule (seq maybe_range_rule labels_rule (λ x y i o h stops. brace_no_range i h.0 h.1))
      (λ x c i o h stops. (sign_before_range c.0 i h.0 h.1 (brace_no_sign h.0 h.2.0 h.2.1), tt)))
      (λ x y i o h stops. tt))

  abbrev pub named_rule : Rule (Over s g t) d (Word × List Range)
  named_rule = seq (name_rule (Over s g t) d) ranges_rule (λ x y i o h stops. tt)

-- ---- types

bits_begin : (w : BitsWord) → type_by_word (bits_word_name w) ≡ Some type_by.Word
bits_begin bits_word.Logic = refl
bits_begin bits_word.Reg = refl

sign_begin : (w : Sign) → type_by_word (sign_word_name w) ≡ Some type_by.Sign
sign_begin sign.Signed = refl
sign_begin sign.Unsigned = refl

pub told_type_first : (i : List Token) → told (sort_test type_by_sort) i ≡ type_by_sort (first_sort i)
told_type_first i = told_sort type_by_sort i refl

told_type : (x : Sort) (i : List Token) → IsFirst x i → told (sort_test type_by_sort) i ≡ type_by_sort x
told_type x i h = told_sort type_by_sort i refl ∙ ap type_by_sort h

-- how a type is made of parts, by what its first token begins
abbrev pub TypeClass : TypeOpener → TypeTree → Spelled
TypeClass type_by.Word x i o = (c : BitsWord × (Option Sign × List Range)) × (made_word_vector c ≡ x) × (bits_key c.0 ⨟ (maybe sign_key c.1.0 ⨟ each SpellsRange c.1.1)) i o
TypeClass type_by.Sign x i o = (c : Sign × List Range) × (made_sign_vector c ≡ x) × (sign_key c.0 ⨟ each SpellsRange c.1) i o
TypeClass type_by.Range x i o = (c : Range × List Range) × (made_range_vector c ≡ x) × (SpellsRange c.0 ⨟ each SpellsRange c.1) i o
TypeClass type_by.Integer x i o = (c : Place) × (ty.Integer ≡ x) × key_at (keyword_text k.Integer) c i o
TypeClass type_by.Struct x i o = (c : Option Sign × (List Member × List Range)) × (made_struct c ≡ x)
    × (key (keyword_text k.Struct) ⨟ (key (keyword_text k.Packed) ⨟ (maybe sign_key c.0 ⨟ (mark_spelled (mark_text m.LeftBrace) ⨟ (some SpellsMember c.1.0 ⨟ (mark_spelled (mark_text m.RightBrace) ⨟ each SpellsRange c.1.1)))))) i o
TypeClass type_by.Enum x i o = (c : BitsWord × (Option Sign × (Option Range × List EnumLabel))) × (made_enum c ≡ x)
    × (key (keyword_text k.Enum) ⨟ (bits_key c.0 ⨟ (maybe sign_key c.1.0 ⨟ (maybe SpellsRange c.1.1.0 ⨟ (mark_spelled (mark_text m.LeftBrace) ⨟ (commas SpellsLabel c.1.1.1 ⨟ mark_spelled (mark_text m.RightBrace))))))) i o
TypeClass type_by.Name x i o = (c : Word × List Range) × (made_named c ≡ x) × (name c.0 ⨟ each SpellsRange c.1) i o

abbrev is_name_type : TypeOpener → Bool
is_name_type type_by.Name = true
is_name_type _ = false

abbrev TypeView : TypeTree → Type 0
TypeView x = (i o : List Token) → SpellsType x i o → (c : TypeOpener) × (told (sort_test type_by_sort) i ≡ Some c) × TypeClass c x i o

word_view : (w : BitsWord) (sg : Option Sign) (all : List Range) → TypeView (ty.Vector (Some w) sg all)
word_view w sg all i o h = let g = made.of_vector (Some w) sg all i o h in (type_by.Word, told_type (so.Keyword (bits_word_name w)) i (bits_first w i g.0 g.1) ∙ bits_begin w, ((w, (sg, all)), refl, g))

sign_view : (sg : Sign) (all : List Range) → TypeView (ty.Vector None (Some sg) all)
sign_view sg all i o h =
    let g = made.of_vector None (Some sg) all i o h in
    let f : sign_key sg i g.2.0 = subst (λ t. sign_key sg t g.2.0) (sym g.1) g.2.1 in
    (type_by.Sign, told_type (so.Keyword (sign_word_name sg)) i (sign_first sg i g.2.0 f) ∙ sign_begin sg, ((sg, all), refl, (g.2.0, f, g.2.2)))

range_view : (r : Range) (all : List Range) → TypeView (ty.Vector None None (r ∷ all))
range_view r all i o h =
    let g = made.of_vector None None (r ∷ all) i o h in
    let f : SpellsRange r i g.2.2.0 = subst (λ t. SpellsRange r t g.2.2.0) (sym (g.1 ∙ g.2.1)) g.2.2.1 in
    (type_by.Range, told_type (so.Mark m.LeftBracket) i (range_first r i g.2.2.0 f), ((r, all), refl, (g.2.2.0, f, g.2.2.2)))

vector_view : (w : Option BitsWord) (sg : Option Sign) (all : List Range) → TypeView (ty.Vector w sg all)
vector_view (Some w) sg all = word_view w sg all
vector_view None (Some sg) all = sign_view sg all
vector_view None None (r ∷ all) = range_view r all
vector_view None None [] = λ i o h. absurd (made.of_vector None None [] i o h)

integer_view : TypeView ty.Integer
unfolding keyword_text
integer_view i o h = let p = placed_key (keyword_text k.Integer) i o h in (type_by.Integer, told_type (so.Keyword k.Integer) i (first_of_key k.Integer i o h), (p.0, refl, p.1))

struct_view : (sg : Option Sign) (all : List Member) (ranges : List Range) → TypeView (ty.Struct sg all ranges)
unfolding keyword_text mark_text
struct_view sg all ranges i o h = let g = made.of_struct sg all ranges i o h in (type_by.Struct, told_type (so.Keyword k.Struct) i (first_of_key k.Struct i g.0 g.1), ((sg, (all, ranges)), refl, g))

enum_view : (w : BitsWord) (sg : Option Sign) (r : Option Range) (all : List EnumLabel) → TypeView (ty.Enum w sg r all)
unfolding keyword_text mark_text
enum_view w sg r all i o h = let g = made.of_enum w sg r all i o h in (type_by.Enum, told_type (so.Keyword k.Enum) i (first_of_key k.Enum i g.0 g.1), ((w, (sg, (r, all))), refl, g))

named_view : (w : Word) (ranges : List Range) → TypeView (ty.Named w ranges)
named_view w ranges i o h = let g = made.of_named w ranges i o h in (type_by.Name, told_type so.Id i (first_of_name w i g.0 g.1), ((w, ranges), refl, g))

type_view : (x : TypeTree) → TypeView x
type_view = made.by_cases_type TypeView vector_view integer_view struct_view enum_view named_view

-- A type begins with a word or a bracket, or is a name with its ranges.
pub type_split : (x : TypeTree) (i o : List Token) → SpellsType x i o
    → ((c : TypeOpener) × (told (sort_test word_type_by_sort) i ≡ Some c)) ⊎ ((c : Word × List Range) × (made_named c ≡ x) × (name c.0 ⨟ each SpellsRange c.1) i o)
type_split x i o h = let v = type_view x i o h in by_class v.0 v.1 v.2
  where
    no_name : (y : Sort) (c : TypeOpener) → is_name_type c ≡ false → type_by_sort y ≡ Some c → word_type_by_sort y ≡ Some c
    no_name (so.Keyword w) c e h = h
    no_name (so.Mark w) c e h = h
    no_name so.Id c e h = let f : type_by.Name ≡ c = cc in let g : true ≡ false = ap is_name_type f ∙ e in absurd (cc)
    no_name so.Literal c e h = absurd (cc)
    no_name so.Other c e h = absurd (cc)
    no_name (so.System f) c e h = absurd (cc)

    other : (c : TypeOpener) → is_name_type c ≡ false → told (sort_test type_by_sort) i ≡ Some c → told (sort_test word_type_by_sort) i ≡ Some c
    other c e h = told_sort word_type_by_sort i refl ∙ no_name (first_sort i) c e (sym (told_sort type_by_sort i refl) ∙ h)

    by_class : (c : TypeOpener) → told (sort_test type_by_sort) i ≡ Some c → TypeClass c x i o
        → ((c : TypeOpener) × (told (sort_test word_type_by_sort) i ≡ Some c)) ⊎ ((c : Word × List Range) × (made_named c ≡ x) × (name c.0 ⨟ each SpellsRange c.1) i o)
    by_class type_by.Word e h = inl (type_by.Word, other type_by.Word refl e)
    by_class type_by.Sign e h = inl (type_by.Sign, other type_by.Sign refl e)
    by_class type_by.Range e h = inl (type_by.Range, other type_by.Range refl e)
    by_class type_by.Integer e h = inl (type_by.Integer, other type_by.Integer refl e)
    by_class type_by.Struct e h = inl (type_by.Struct, other type_by.Struct refl e)
    by_class type_by.Enum e h = inl (type_by.Enum, other type_by.Enum refl e)
    by_class type_by.Name e h = inr h

-- the first token of a type
pub type_begins : (x : TypeTree) (i o : List Token) → SpellsType x i o → (c : TypeOpener) × (told (sort_test type_by_sort) i ≡ Some c)
type_begins x i o h = let v = type_view x i o h in (v.0, v.1)

abbrev TypeGrows : TypeTree → Type 0
TypeGrows x = (i o : List Token) → SpellsType x i o → 0 < length (type_depths x)

vector_grows : (w : Option BitsWord) (sg : Option Sign) (all : List Range) → TypeGrows (ty.Vector w sg all)
unfolding type_depths in_type
vector_grows (Some w) sg all i o h = omega arith
vector_grows None (Some sg) all i o h = omega arith
vector_grows None None (r ∷ all) i o h = omega arith
vector_grows None None [] i o h = absurd (made.of_vector None None [] i o h)

struct_grows : (sg : Option Sign) (all : List Member) (ranges : List Range) → TypeGrows (ty.Struct sg all ranges)
struct_grows sg all ranges i o h = subst (λ l. 0 < length l) (sym (made.nests_struct sg all ranges)) (simp (length_in_type, length-append) (omega arith))

named_grows : (w : Word) (ranges : List Range) → TypeGrows (ty.Named w ranges)
named_grows w ranges i o h = omega (arith, ap length (made.nests_named w ranges), length_named w ranges)

pub type_grows : (x : TypeTree) (i o : List Token) → SpellsType x i o → 0 < length (type_depths x)
unfolding type_depths in_type
type_grows = made.by_cases_type TypeGrows vector_grows (λ i o h. omega arith) struct_grows (λ w sg r all i o h. omega arith) named_grows

pub member_begins : (x : Member) (i o : List Token) → SpellsMember x i o → (c : TypeOpener) × (told (sort_test type_by_sort) i ≡ Some c)
member_begins = made.by_cases_member (λ x. (i o : List Token) → SpellsMember x i o → (c : TypeOpener) × (told (sort_test type_by_sort) i ≡ Some c)) (λ x all i o h. let g = made.of_of x all i o h in type_begins x i g.0 g.1)

member_grows : (x : Member) (i o : List Token) → SpellsMember x i o → 0 < length (member_depths x)
member_grows = made.by_cases_member (λ x. (i o : List Token) → SpellsMember x i o → 0 < length (member_depths x))
    (λ x all i o h. let g = made.of_of x all i o h in rw (made.nests_of x all) (simp length-append (omega (arith, type_grows x i g.0 g.1))))

integer_to : (c : Place) (i o : List Token) → key_at (keyword_text k.Integer) c i o → SpellsType ty.Integer i o
unfolding keyword_text
integer_to c i o h = some_key (keyword_text k.Integer) c i o h

struct_to : (c : Option Sign × (List Member × List Range)) (i o : List Token)
    → (key (keyword_text k.Struct) ⨟ (key (keyword_text k.Packed) ⨟ (maybe sign_key c.0 ⨟ (mark_spelled (mark_text m.LeftBrace) ⨟ (some SpellsMember c.1.0 ⨟ (mark_spelled (mark_text m.RightBrace) ⨟ each SpellsRange c.1.1)))))) i o
    → SpellsType (made_struct c) i o
unfolding keyword_text mark_text
struct_to c i o h = made.to_struct c.0 c.1.0 c.1.1 i o h

enum_to : (c : BitsWord × (Option Sign × (Option Range × List EnumLabel))) (i o : List Token)
    → (key (keyword_text k.Enum) ⨟ (bits_key c.0 ⨟ (maybe sign_key c.1.0 ⨟ (maybe SpellsRange c.1.1.0 ⨟ (mark_spelled (mark_text m.LeftBrace) ⨟ (commas SpellsLabel c.1.1.1 ⨟ mark_spelled (mark_text m.RightBrace))))))) i o
    → SpellsType (made_enum c) i o
unfolding keyword_text mark_text
enum_to c i o h = made.to_enum c.0 c.1.0 c.1.1.0 c.1.1.1 i o h

-- Types are read of which at most t hold a token; a token that lies too deep is held by so many as the limit.
abbrev pub IsTypes : (s g limit t : ℕ) → Parser TypeTree → Type 0
IsTypes s g limit t f = IsReader (Over s g limit) t SpellsType SpellsType type_depths TypeStops f

-- The types of members are read by f.
module _ (s g limit t : ℕ) (le : suc t ≤ 200) (f : Parser TypeTree) (reads : IsTypes s g limit t f) where
  abbrev inner_rule : Rule (Over s g limit) t TypeTree
  inner_rule = rule_of reads counted_type

  member_reads : IsReader (Over s g limit) t SpellsMember SpellsMember member_depths Any (member f)
  unfolding member mark_text
  member_reads =
      tree_reads (seq inner_rule (names_end s g limit t (omega arith)) (λ x all i o h stops. type_stops_name i (names_first all i h.0 h.1))) made_member SpellsMember member_depths
      (λ c. sym (made.nests_of c.0 c.1 ∙ simp append_assoc)) (λ c i o h. made.to_of c.0 c.1 i o h)
      (made.by_cases_member (λ x. (i o : List Token) → SpellsMember x i o → (c : TypeTree × List Word) × (made_member c ≡ x) × (SpellsType c.0 ⨟ (commas name c.1 ⨟ mark_spelled (mark_text m.Semicolon))) i o)
      (λ x all i o h. ((x, all), refl, made.of_of x all i o h)))

  abbrev member_rule : Rule (Over s g limit) t Member
  member_rule = rule_of member_reads counted_member

  abbrev MembersStop : List Token → Type 0
  MembersStop o = (told (sort_test type_by_sort) o ≡ None) × Any o

  members_reads : IsReader (Over s g limit) t (some SpellsMember) (some SpellsMember) (each_depths member_depths) MembersStop (members f)
  unfolding members
  members_reads = (some_rule (sort_test type_by_sort) member_rule member_begins member_grows (λ c i h. tt)).reads

  abbrev members_rule : Rule (Over s g limit) t (List Member)
  members_rule = record {
    spelled = some SpellsMember;
    nests = each_depths member_depths;
    stops = MembersStop;
    parser = members f;
    reads = members_reads;
    moved = (some_rule (sort_test type_by_sort) member_rule member_begins member_grows (λ c i h. tt)).moved;
  }

  abbrev struct_rule : Rule (Over s g limit) (suc t) (Option Sign × (List Member × List Range))
  struct_rule =
      opening (the_key (Over s g limit) k.Struct)
      (before (the_key (Over s g limit) k.Packed)
      (seq (maybe_sign_rule s g limit t (omega arith))
      (before (the_mark (Over s g limit) m.LeftBrace)
      (seq members_rule (before (the_mark (Over s g limit) m.RightBrace) (ranges_rule s g limit t (omega arith))) (λ x y i o h stops. (told_type (so.Mark m.RightBrace) i (first_of_mark m.RightBrace i h.0 h.1), tt))))
      (λ x y i o h stops. (brace_no_sign s g limit t (omega arith) i h.0 h.1, tt))))

  abbrev TypeWay : Type 1
  TypeWay = Way (Over s g (suc limit)) (suc t) TypeTree SpellsType type_depths TypeStops

  abbrev ways : TypeOpener → TypeWay
  ways type_by.Word = record {
    A = BitsWord × (Option Sign × List Range);
    rule = typed s g limit (word_vector_rule s g limit (suc t) le);
    made = made_word_vector;
    nested = λ c. sym (made.nests_vector (Some c.0) c.1.0 c.1.1 ∙ ap in_type (simp append_assoc));
    to = λ c i o h. made.to_vector (Some c.0) c.1.0 c.1.1 i o h;
    ends = λ o h. h;
  }
  ways type_by.Sign = record {
    A = Sign × List Range;
    rule = typed s g limit (sign_vector_rule s g limit (suc t) le);
    made = made_sign_vector;
    nested = λ c. sym (made.nests_vector None (Some c.0) c.1);
    to = λ c i o h. made.to_vector None (Some c.0) c.1 i o (i, refl, h);
    ends = λ o h. h.0;
  }
  ways type_by.Range = record {
    A = Range × List Range;
    rule = typed s g limit (range_vector_rule s g limit (suc t) le);
    made = made_range_vector;
    nested = λ c. sym (made.nests_vector None None (c.0 ∷ c.1));
    to = λ c i o h. made.to_vector None None (c.0 ∷ c.1) i o (i, refl, (i, refl, h));
    ends = λ o h. h.0;
  }
  ways type_by.Integer = record {
    A = Place;
    rule = typed s g limit (placed (the_key (Over s g limit) k.Integer));
    made = λ c. ty.Integer;
    nested = λ c. sym made.nests_integer;
    to = λ c i o h. integer_to c i o h;
    ends = λ o h. tt;
  }
  ways type_by.Struct = record {
    A = Option Sign × (List Member × List Range);
    rule = typed s g limit struct_rule;
    made = made_struct;
    nested = λ c. sym (made.nests_struct c.0 c.1.0 c.1.1 ∙ ap in_type (simp append_assoc));
    to = λ c i o h. struct_to c i o h;
    ends = λ o h. h.0;
  }
  ways type_by.Enum = record {
    A = BitsWord × (Option Sign × (Option Range × List EnumLabel));
    rule = typed s g limit (enum_rule s g limit (suc t) le);
    made = made_enum;
    nested = λ c. sym (made.nests_enum c.0 c.1.0 c.1.1.0 c.1.1.1 ∙ ap in_type (simp append_assoc));
    to = λ c i o h. enum_to c i o h;
    ends = λ o h. tt;
  }
  ways type_by.Name = record {
    A = Word × List Range;
    rule = renested (named_rule s g (suc limit) (suc t) le) (λ c. named_type_depths c.0 c.1) (λ c. length_named c.0 c.1) (λ c k h. named_type_bad s g (suc limit) c.0 c.1 k h);
    made = made_named;
    nested = λ c. sym (made.nests_named c.0 c.1);
    to = λ c i o h. h;
    ends = λ o h. h.0;
  }

  same : (c : TypeOpener) → ◌≡◌ {A = Parser TypeTree} (reader_of (ways c)) (type_for f c)
  unfolding word_vector sign_vector range_vector whole structure enumeration named maybe_sign
  same type_by.Word = refl
  same type_by.Sign = refl
  same type_by.Range = refl
  same type_by.Integer = refl
  same type_by.Struct = refl
  same type_by.Enum = refl
  same type_by.Name = refl

  read_by : (c : TypeOpener) (x : TypeTree) (i o : List Token) → TypeClass c x i o → ReadBy (ways c) x i o
  read_by type_by.Word x i o h = h
  read_by type_by.Sign x i o h = h
  read_by type_by.Range x i o h = h
  read_by type_by.Integer x i o h = h
  read_by type_by.Struct x i o h = h
  read_by type_by.Enum x i o h = h
  read_by type_by.Name x i o h = h

  pub type_level_reads : IsReader (Over s g (suc limit)) (suc t) SpellsType SpellsType type_depths TypeStops (type_level f)
  unfolding type_level
  type_level_reads = choose_reads (sort_test type_by_sort) ways (type_for f) same (λ x i o h. let v = type_view x i o h in (v.0, v.1, read_by v.0 x i o v.2))

typed_over : (s g : ℕ) (l m : Depths) → l ≡ in_type m → 0 < length l → BadAt (Over s g 1) l 0
unfolding in_type
typed_over s g l [] e some = absurd (omega (arith, ap length e))
typed_over s g l (n ∷ m) e some = subst (λ l. BadAt (Over s g 1) l 0) (sym e) (inr (inr (inr (omega arith))))

-- a type that is no name holds its tokens
no_name_typed : (s g : ℕ) (x : TypeTree) (i o : List Token) → (told id_test i ≡ None) × SpellsType x i o → BadAt (Over s g 1) (type_depths x) 0
no_name_typed s g x i o h =
    made.by_cases_type (λ x. SpellsType x i o → 0 < length (type_depths x) → BadAt (Over s g 1) (type_depths x) 0)
    (λ w sg ranges read some. typed_over s g _ _ (made.nests_vector w sg ranges) some)
    (λ read some. typed_over s g _ _ made.nests_integer some)
    (λ sg all ranges read some. typed_over s g _ _ (made.nests_struct sg all ranges) some)
    (λ w sg r all read some. typed_over s g _ _ (made.nests_enum w sg r all) some)
    (λ w ranges read some. let g = made.of_named w ranges i o read in let e = told_name w i g.0 g.1 in let f = h.0 in absurd (cc))
    x h.1 (type_grows x i o h.1)

-- a name with ranges holds its tokens
ranged_typed : (s g : ℕ) (w : Word) (r : Range) (more : List Range) → BadAt (Over s g 1) (type_depths (ty.Named w (r ∷ more))) 0
ranged_typed s g w r more = subst (λ l. BadAt (Over s g 1) l 0) (sym (made.nests_named w (r ∷ more))) (typed_over s g (named_type_depths w (r ∷ more)) (one ++ each_depths range_depths (r ∷ more)) refl (omega (arith, length_named w (r ∷ more))))

-- the same tokens stand behind a first one
same_behind : (n : ℕ) (a b : Token) (s i : List Token) → take (suc (suc n)) (a ∷ s) ≡ take (suc (suc n)) (b ∷ i) → told (mark_test m.LeftBracket) s ≡ told (mark_test m.LeftBracket) i
same_behind n a b s i e = let f : take (suc n) s ≡ take (suc n) i = cc in same_told (mark_test m.LeftBracket) n s i f

some_left : {A : Type 0} (test : Token → Option A) (x : A) (i : List Token) → told test i ≡ Some x → 0 < length i
some_left test x [] e = absurd (cc)
some_left test x (a ∷ i) e = omega arith

-- a type that begins with that name
named_split : (v : Word) (x : TypeTree) (a : Token) (s o : List Token) → told id_test (a ∷ s) ≡ Some v → SpellsType x (a ∷ s) o → (ranges : List Range) × (ty.Named v ranges ≡ x) × each SpellsRange ranges s o
named_split v x a s o e h = by_split (type_split x (a ∷ s) o h)
  where
    first : IsFirst so.Id (a ∷ s)
    first = first_of_name v (a ∷ s) s (name_of v (a ∷ s) s (e, refl))

    by_split : ((c : TypeOpener) × (told (sort_test word_type_by_sort) (a ∷ s) ≡ Some c)) ⊎ ((c : Word × List Range) × (made_named c ≡ x) × (name c.0 ⨟ each SpellsRange c.1) (a ∷ s) o)
        → (ranges : List Range) × (ty.Named v ranges ≡ x) × each SpellsRange ranges s o
    by_split (inl c) = let f = told_sort word_type_by_sort (a ∷ s) refl ∙ ap word_type_by_sort first in let g = c.1 in absurd (cc)
    by_split (inr c) =
        let f = told_name c.0.0 (a ∷ s) c.2.0 c.2.1 in
        let g : c.0.0 ≡ v = cc in
        (c.0.1, ap (λ w. ty.Named w c.0.1) (sym g) ∙ c.1, subst (λ t. each SpellsRange c.0.1 t o) (sym c.2.1.1) c.2.2)

module _ (s g : ℕ) where
  abbrev NoTypes : Nesting → Type 0
  NoTypes = Over s g 1

  abbrev behind : Option Place → ℕ → Word → Parser TypeTree
  behind q left w = branch q (λ _ i. Err (TooDeep left (length i))) (pure (ty.Named w []))

  behind_sound : (q : Option Place) (w : Word) (i j : List Token) → name w i j → Meets (behind q (length i) w j) (λ x k. SpellsType x i k)
  behind_sound None w i j h = made.to_named w [] i j (j, h, refl)
  behind_sound (Some p) w i j h = tt

  alone_sound : (i : List Token) → Meets (and_then (token id_test i) (unranged (length i))) (λ x j. SpellsType x i j)
  alone_sound i =
      then_meets (token id_test i) (unranged (length i)) (λ w j. name w i j) (λ x j. SpellsType x i j) ((name_reads NoTypes 0).sound i)
      (λ w j h. behind_sound (told (mark_test m.LeftBracket) j) w i j h)

  behind_placed : (q : Option Place) (w : Word) (i j : List Token) → name w i j → told (mark_test m.LeftBracket) j ≡ q → Placed 0 i (behind q (length i) w j)
  behind_placed None w i j h e = tt
  behind_placed (Some p) w i j h e =
      let c = name_moved.count w i j h in
      let some = some_left (mark_test m.LeftBracket) p j e in (omega arith, omega arith, omega arith, omega arith)

  alone_placed : (i : List Token) → Placed 0 i (and_then (token id_test i) (unranged (length i)))
  alone_placed i =
      then_placed (token id_test i) (unranged (length i)) (λ w j. name w i j) i 0 ((name_reads NoTypes 0).sound i) ((name_reads NoTypes 0).placed i)
      (λ w j h. behind_placed (told (mark_test m.LeftBracket) j) w i j h refl)

  -- the name and no range, or the name and a range, in the tree and in the tokens that are read
  behind_agrees : (q : Option Place) (v : Word) (ranges : List Range) (n : ℕ) (a b : Token) (t o i : List Token) → each SpellsRange ranges t o → TypeStops o → take (suc n) (a ∷ t) ≡ take (suc n) (b ∷ i)
      → told (mark_test m.LeftBracket) i ≡ q → Agrees NoTypes type_depths (ty.Named v ranges) (suc n) (b ∷ i) (behind q (length (b ∷ i)) v i)
  behind_agrees None v [] n a b t o i h stops same e = λ shown. refl
  behind_agrees None v (r ∷ more) zero a b t o i h stops same e = λ shown. absurd (omega (arith, ap length (made.nests_named v [])))
  behind_agrees None v (r ∷ more) (suc n) a b t o i h stops same e = let f = same_behind n a b t i same in let g = (range_begins r t h.0 h.1).1 in λ shown. absurd (cc)
  behind_agrees (Some p) v ranges zero a b t o i h stops same e = λ shown. absurd (omega arith)
  behind_agrees (Some p) v [] (suc n) a b t o i h stops same e = let f = same_behind n a b t i same in let g = ap (told (mark_test m.LeftBracket)) h ∙ stops.0 in λ shown. absurd (cc)
  behind_agrees (Some p) v (r ∷ more) (suc n) a b t o i h stops same e = λ shown.
      let e : length (b ∷ i) - length (b ∷ i) ≡ 0 = omega arith in subst (BadAt NoTypes (type_depths (ty.Named v (r ∷ more)))) (sym e) (ranged_typed s g v r more)

  taken_agrees : (q : Option Word) (v : Word) (x : TypeTree) (n : ℕ) (i : List Token) → q ≡ Some v → Agrees NoTypes type_depths x n i (unranged (length i) v (next i))
      → Agrees NoTypes type_depths x n i (and_then (take_told q i) (unranged (length i)))
  taken_agrees q v x n i e h = subst (λ q. Agrees NoTypes type_depths x n i (and_then (take_told q i) (unranged (length i)))) (sym e) h

  alone_agrees : (v : Word) (x : TypeTree) (t o : List Token) (n : ℕ) (i : List Token) → told id_test t ≡ Some v → SpellsType x t o → TypeStops o → take n t ≡ take n i
      → Agrees NoTypes type_depths x n i (and_then (token id_test i) (unranged (length i)))
  unfolding token
  alone_agrees v x t o zero i e h stops same = none_shared NoTypes type_depths x 0 i (and_then (token id_test i) (unranged (length i))) (alone_placed i)
  alone_agrees v x [] o (suc n) i e h stops same = absurd (cc)
  alone_agrees v x (a ∷ t) o (suc n) [] e h stops same = absurd (cc)
  alone_agrees v x (a ∷ t) o (suc n) (b ∷ i) e h stops same =
      let c = named_split v x a t o e h in
      taken_agrees (id_test b) v x (suc n) (b ∷ i) (sym (same_told id_test n (a ∷ t) (b ∷ i) same) ∙ e)
      (subst (λ x. Agrees NoTypes type_depths x (suc n) (b ∷ i) (unranged (length (b ∷ i)) v i)) c.1
      (behind_agrees (told (mark_test m.LeftBracket) i) v c.0 n a b t o i c.2 stops same refl))

  -- Where no type may hold a token, a name alone is read.
  pub name_alone_reads : IsTypes s g 1 0 name_alone
  unfolding name_alone
  name_alone_reads =
      choose_reader NoTypes 0 id_test SpellsType SpellsType type_depths TypeStops (λ _ i. and_then (token id_test i) (unranged (length i))) too_deep
      (λ v. record { sound = alone_sound; placed = alone_placed; agrees = λ x t o n i h stops same. alone_agrees v x t o n i h.0 h.1 stops same })
      (deep_reader NoTypes (λ x i o. (told id_test i ≡ None) × SpellsType x i o) type_depths (moved_less SpellsType (λ x i o. (told id_test i ≡ None) × SpellsType x i o) type_depths (moved_counted counted_type) (λ x i o h. h.1))
      (no_name_typed s g) SpellsType TypeStops)

-- Types, of which at most so many hold a token.
pub form_reads : (s g t : ℕ) → t ≤ 200 → IsTypes s g (suc t) t (form t)
unfolding form
form_reads s g zero le = name_alone_reads s g
form_reads s g (suc t) le = type_level_reads s g (suc t) t le (form t) (form_reads s g t (omega arith))
