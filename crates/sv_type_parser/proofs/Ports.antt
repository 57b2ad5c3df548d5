-- Names with types, and ports, are read as they are spelled.
use Rattle.std.proofs.Common.{◌≡◌, ℕ, ◌≤◌, ◌⊎◌, inl, inr, List, [], ◌∷◌, ◌++◌, length, Option, Some, None, refl, sym, ◌∙◌, ap, subst, append_assoc, length-append, arith}
use Rattle.sv_outside.specs.declared.text.Token.{Token}
use Rattle.sv_tree.specs.declared.word.Word.{Word}
use Rattle.sv_tree.specs.declared.forms.Range.{Range}
use Rattle.sv_tree.specs.declared.forms.TypeTree.{TypeTree}
use Rattle.sv_tree.specs.declared.forms.TypeTree.TheVariants as ty
use Rattle.sv_tree.specs.declared.design.Way.{Way as WayWord}
use Rattle.sv_tree.specs.declared.design.NetWord.{NetWord}
use Rattle.sv_tree.specs.declared.design.NetWord.TheVariants as net_word
use Rattle.sv_tree.specs.declared.design.Port.{Port}
use Rattle.sv_tree.specs.Spelling.{Spelled, ◌⨟◌, name, maybe, each}
use Rattle.sv_tree.specs.GrammarForms.{SpellsRange, SpellsType, way_key, net_key, SpellsPort}
use Rattle.sv_tree.specs.Nesting.{Depths, one, if_given}
use Rattle.sv_tree.specs.NestingDesign.{type_depths, port_depths}
use Rattle.sv_tree.proofs.MadeForms as made
use Rattle.sv_tree.proofs.Counted.{length_named}
use Rattle.sv_tree.proofs.CountedDesign.{counted_port}
use Rattle.sv_cursor.specs.declared.sort.Keyword.{Keyword}
use Rattle.sv_cursor.specs.declared.sort.Keyword.TheVariants as k
use Rattle.sv_cursor.specs.declared.sort.Sort.{Sort}
use Rattle.sv_cursor.specs.declared.sort.Sort.TheVariants as so
use Rattle.sv_cursor.specs.Tests.{first_sort}
use Rattle.sv_cursor.specs.Parsers.{told}
use Rattle.sv_cursor.proofs.Readers.{IsReader, IsMoved, BadAt}
use Rattle.sv_expr_reader.proofs.Tokens.{Any}
use Rattle.sv_word_parser.specs.declared.openers.TypeOpener.{TypeOpener}
use Rattle.sv_word_parser.specs.declared.openers.TypeOpener.TheVariants as type_by
use Rattle.sv_word_parser.specs.Combined.{word_of, word_test, sort_test}
use Rattle.sv_word_parser.specs.Words.{type_by_word, type_by_sort, word_type_by_sort, behind_by_sort, way_by_word, net_by_word}
use Rattle.sv_type_parser.specs.Params.{TypedName, made_typed, made_untyped, behind_type, untyped, typed, typed_name, made_port, port}
use Rattle.sv_type_parser.proofs.Rules.{Rule, seq, optional, tree_reads, rule_of, renested, name_rule, Way, fork_reads, fork_moved, ReadBy, IsFirst, first_of_name, told_sort, told_word}
use Rattle.sv_type_parser.proofs.Words.{way_rule, way_begins, net_rule, net_first, net_begins, net_word_name}
use Rattle.sv_type_parser.proofs.Limits.{Over, named_type_lifts}
use Rattle.sv_type_parser.proofs.Types.{range_first, ranges_rule, type_stops_name, type_split, type_begins}
use Rattle.sv_type_parser.proofs.Params.{form_rule}

-- ---- names with types

abbrev pub TypedSpelled : TypedName → Spelled
TypedSpelled x = maybe SpellsType x.0 ⨟ name x.1

abbrev pub typed_nests : TypedName → Depths
typed_nests x = if_given type_depths x.0 ++ one

-- what stops a name with a type
abbrev pub TypedStops : List Token → Type 0
TypedStops o = (told (sort_test behind_by_sort) o ≡ None) × Any o

no_behind : (x : Sort) (i : List Token) → IsFirst x i → ◌≡◌ {A = Option TypeOpener} (behind_by_sort x) None → told (sort_test behind_by_sort) i ≡ None
no_behind x i h e = told_sort behind_by_sort i refl ∙ (ap behind_by_sort h ∙ e)

pub typed_ends : (x : Sort) (i : List Token) → IsFirst x i → ◌≡◌ {A = Option TypeOpener} (behind_by_sort x) None → TypedStops i
typed_ends x i h e = (no_behind x i h e, tt)

name_no_word : (i : List Token) → IsFirst so.Id i → told (sort_test word_type_by_sort) i ≡ None
name_no_word i h = told_sort word_type_by_sort i refl ∙ ap word_type_by_sort h

module _ (s g d : ℕ) (le : d ≤ 200) where
  abbrev behind_rule : Rule (Over s g 201) d (List Range × Word)
  behind_rule = seq (ranges_rule s g 201 d le) (name_rule (Over s g 201) d) (λ all w i o h stops. (type_stops_name i (first_of_name w i o h)).0)

  behind_begins : (c : List Range × Word) (i o : List Token) → (each SpellsRange c.0 ⨟ name c.1) i o → (x : TypeOpener) × (told (sort_test behind_by_sort) i ≡ Some x)
  behind_begins ([], w) i o h = (type_by.Name, told_sort behind_by_sort i refl ∙ ap behind_by_sort (subst (IsFirst so.Id) (sym h.1) (first_of_name w h.0 o h.2)))
  behind_begins (r ∷ all, w) i o h = (type_by.Range, told_sort behind_by_sort i refl ∙ ap behind_by_sort (range_first r i h.1.0 h.1.1))

  abbrev untyped_tuple : Rule (Over s g 201) d (Word × Option (List Range × Word))
  untyped_tuple = seq (name_rule (Over s g 201) d) (optional (sort_test behind_by_sort) behind_rule behind_begins) (λ x y i o h stops. tt)

  untyped_length : (c : Word × Option (List Range × Word)) → length (typed_nests (made_untyped c)) ≡ length (untyped_tuple.nests c)
  untyped_length (w, None) = refl
  untyped_length (w, Some c) = ap (λ l. length (l ++ one)) (made.nests_named w c.0) ∙ simp length-append (omega (arith, length_named w c.0))

  untyped_lifts : (c : Word × Option (List Range × Word)) (k : ℕ) → BadAt (Over s g 201) (untyped_tuple.nests c) k → BadAt (Over s g 201) (typed_nests (made_untyped c)) k
  untyped_lifts (w, None) k h = h
  untyped_lifts (w, Some c) k h = subst (λ l. BadAt (Over s g 201) (l ++ one) k) (sym (made.nests_named w c.0)) (named_type_lifts s g 201 w c.0 one k h)

  untyped_to : (c : Word × Option (List Range × Word)) (i o : List Token) → untyped_tuple.spelled c i o → TypedSpelled (made_untyped c) i o
  untyped_to (w, None) i o h = (i, refl, subst (λ t. name w i t) h.2 h.1)
  untyped_to (w, Some c) i o h = (h.2.0, made.to_named w c.0 i h.2.0 (h.0, h.1, h.2.1), h.2.2)

  abbrev TypedWay : Type 1
  TypedWay = Way (Over s g 201) d TypedName TypedSpelled typed_nests TypedStops

  abbrev typed_way : TypedWay
  typed_way = record {
    A = TypeTree × Word;
    rule = seq (form_rule s g d le) (name_rule (Over s g 201) d) (λ x w i o h stops. type_stops_name i (first_of_name w i o h));
    made = made_typed;
    nested = λ c. refl;
    to = λ c i o h. h;
    ends = λ o h. tt;
  }

  abbrev untyped_way : TypedWay
  untyped_way = record {
    A = Word × Option (List Range × Word);
    rule = renested untyped_tuple (λ c. typed_nests (made_untyped c)) untyped_length untyped_lifts;
    made = made_untyped;
    nested = λ c. refl;
    to = untyped_to;
    ends = λ o h. h;
  }

  abbrev Viewed : TypedName → Spelled
  Viewed x i o = ((c : TypeOpener) × (told (sort_test word_type_by_sort) i ≡ Some c) × ReadBy typed_way x i o) ⊎ ((told (sort_test word_type_by_sort) i ≡ None) × ReadBy untyped_way x i o)

  typed_view : (x : TypedName) (i o : List Token) → TypedSpelled x i o → Viewed x i o
  typed_view (None, n) i o h = let f : name n i o = subst (λ t. name n t o) (sym h.1) h.2 in inr (name_no_word i (first_of_name n i o f), ((n, None), refl, (o, f, refl)))
  typed_view (Some x, n) i o h = by_split (type_split x i h.0 h.1)
    where
      by_split : ((c : TypeOpener) × (told (sort_test word_type_by_sort) i ≡ Some c)) ⊎ ((c : Word × List Range) × (ty.Named c.0 c.1 ≡ x) × (name c.0 ⨟ each SpellsRange c.1) i h.0) → Viewed (Some x, n) i o
      by_split (inl v) = inl (v.0, v.1, ((x, n), refl, h))
      by_split (inr v) = inr (name_no_word i (first_of_name v.0.0 i v.2.0 v.2.1), ((v.0.0, Some (v.0.1, n)), ap (λ x. (Some x, n)) v.1, (v.2.0, v.2.1, (h.0, v.2.2, h.2))))

  pub typed_name_reads : IsReader (Over s g 201) d TypedSpelled TypedSpelled typed_nests TypedStops typed_name
  unfolding typed_name typed untyped behind_type
  typed_name_reads = fork_reads (sort_test word_type_by_sort) typed_way untyped_way typed_view

  pub typed_name_moved : IsMoved TypedSpelled typed_nests
  typed_name_moved = fork_moved (sort_test word_type_by_sort) typed_way untyped_way typed_view

  abbrev pub typed_name_rule : Rule (Over s g 201) d TypedName
  typed_name_rule = record { spelled = TypedSpelled; nests = typed_nests; stops = TypedStops; parser = typed_name; reads = typed_name_reads; moved = typed_name_moved }

-- ---- ports

-- the sort of the first token of a type is no net word and no direction
no_net : (w : Keyword) (c : TypeOpener) → type_by_word w ≡ Some c → net_by_word w ≡ None
no_net k.Wire c h = absurd (cc)
no_net k.Tri c h = absurd (cc)
no_net _ c h = refl

no_way : (w : Keyword) (c : TypeOpener) → type_by_word w ≡ Some c → way_by_word w ≡ None
no_way k.Input c h = absurd (cc)
no_way k.Output c h = absurd (cc)
no_way k.Inout c h = absurd (cc)
no_way _ c h = refl

net_apart : (x : Sort) (c : TypeOpener) → type_by_sort x ≡ Some c → word_of net_by_word x ≡ None
net_apart (so.Keyword w) c h = no_net w c h
net_apart _ c h = refl

way_apart : (x : Sort) (c : TypeOpener) → type_by_sort x ≡ Some c → word_of way_by_word x ≡ None
way_apart (so.Keyword w) c h = no_way w c h
way_apart _ c h = refl

-- a name with a type begins as a type does
pub typed_begins : (x : TypedName) (i o : List Token) → TypedSpelled x i o → (c : TypeOpener) × (type_by_sort (first_sort i) ≡ Some c)
typed_begins (None, n) i o h = (type_by.Name, ap type_by_sort (first_of_name n i o (subst (λ t. name n t o) (sym h.1) h.2)))
typed_begins (Some x, n) i o h = let v = type_begins x i h.0 h.1 in (v.0, sym (told_sort type_by_sort i refl) ∙ v.1)

pub typed_no_net : (x : TypedName) (i o : List Token) → TypedSpelled x i o → told (word_test net_by_word) i ≡ None
typed_no_net x i o h = let v = typed_begins x i o h in told_word net_by_word i ∙ net_apart (first_sort i) v.0 v.1

typed_no_way : (x : TypedName) (i o : List Token) → TypedSpelled x i o → told (word_test way_by_word) i ≡ None
typed_no_way x i o h = let v = typed_begins x i o h in told_word way_by_word i ∙ way_apart (first_sort i) v.0 v.1

net_no_way : (w : NetWord) (i o : List Token) → net_key w i o → told (word_test way_by_word) i ≡ None
net_no_way w i o h = told_word way_by_word i ∙ (ap (word_of way_by_word) (net_first w i o h) ∙ by_word w)
  where
    by_word : (w : NetWord) → way_by_word (net_word_name w) ≡ None
    by_word net_word.Wire = refl
    by_word net_word.Tri = refl

kind_no_way : (w : Option NetWord) (x : TypedName) (i t o : List Token) → maybe net_key w i t → TypedSpelled x t o → told (word_test way_by_word) i ≡ None
kind_no_way None x i t o h e = subst (λ i. told (word_test way_by_word) i ≡ None) (sym h) (typed_no_way x t o e)
kind_no_way (Some w) x i t o h e = net_no_way w i t h

module _ (s g d : ℕ) (le : d ≤ 200) where
  port_spelled : (c : Option WayWord × (Option NetWord × TypedName)) (i o : List Token) → (maybe way_key c.0 ⨟ (maybe net_key c.1.0 ⨟ TypedSpelled c.1.1)) i o → SpellsPort (made_port c) i o
  port_spelled c i o h = h

  pub port_reads : IsReader (Over s g 201) d SpellsPort SpellsPort port_depths TypedStops port
  unfolding port
  port_reads =
      tree_reads
      (seq (optional (word_test way_by_word) (way_rule (Over s g 201) d) way_begins)
      (seq (optional (word_test net_by_word) (net_rule (Over s g 201) d) net_begins) (typed_name_rule s g d le) (λ w x i o h stops. (typed_no_net x i o h, tt)))
      (λ w c i o h stops. (kind_no_way c.0 c.1 i h.0 o h.1 h.2, tt)))
      made_port SpellsPort port_depths (λ c. simp append_assoc) port_spelled (λ p i o h. ((p.way, (p.kind, (p.form, p.name))), refl, h))

  abbrev pub port_rule : Rule (Over s g 201) d Port
  port_rule = rule_of port_reads counted_port
