-- What items are made of, by their first tokens.
use Rattle.std.proofs.Common.{◌≡◌, ◌⊎◌, inl, inr, List, [], ◌∷◌, length, Option, Some, None, refl, sym, ◌∙◌, ap, subst}
use Rattle.sv_outside.specs.declared.refusal.Place.{Place}
use Rattle.sv_outside.specs.declared.text.Token.{Token}
use Rattle.sv_tree.specs.declared.word.Word.{Word}
use Rattle.sv_tree.specs.declared.exprs.Expr.{Expr}
use Rattle.sv_tree.specs.declared.forms.Range.{Range}
use Rattle.sv_tree.specs.declared.forms.TypeTree.{TypeTree}
use Rattle.sv_tree.specs.declared.forms.TypeTree.TheVariants as ty
use Rattle.sv_tree.specs.declared.forms.Typedef.{Typedef}
use Rattle.sv_tree.specs.declared.stmts.Block.{Block}
use Rattle.sv_tree.specs.declared.stmts.Step.{Step}
use Rattle.sv_tree.specs.declared.design.AssignPair.{AssignPair}
use Rattle.sv_tree.specs.declared.design.ParamWord.{ParamWord}
use Rattle.sv_tree.specs.declared.design.ParamWord.TheVariants as param_word
use Rattle.sv_tree.specs.declared.design.Param.{Param}
use Rattle.sv_tree.specs.declared.design.NetWord.{NetWord}
use Rattle.sv_tree.specs.declared.design.NetWord.TheVariants as net_word
use Rattle.sv_tree.specs.declared.design.Pins.{Pins}
use Rattle.sv_tree.specs.declared.design.One.{One}
use Rattle.sv_tree.specs.declared.design.Inst.{Inst}
use Rattle.sv_tree.specs.declared.design.Item.{Item}
use Rattle.sv_tree.specs.declared.design.Item.TheVariants as it
use Rattle.sv_tree.specs.declared.design.Gen.{Gen}
use Rattle.sv_tree.specs.Spelling.{Spelled, ◌⨟◌, mark as mark_spelled, key, key_at, name, maybe, each, commas, after_commas}
use Rattle.sv_tree.specs.GrammarExprs.{Spells}
use Rattle.sv_tree.specs.GrammarForms.{SpellsRange, SpellsType, SpellsTypedef, SpellsParam, net_key}
use Rattle.sv_tree.specs.GrammarStmts.{SpellsStep}
use Rattle.sv_tree.specs.GrammarDesign.{SpellsPair, SpellsInst, is_closed, is_closed_gen, SpellsItem, SpellsGen}
use Rattle.sv_tree.specs.NestingDesign.{gen_depths}
use Rattle.sv_tree.proofs.MadeStmts.{some}
use Rattle.sv_tree.proofs.MadeForms as made_forms
use Rattle.sv_tree.proofs.MadeDesign as made
use Rattle.sv_tree.proofs.Counted.{Counted}
use Rattle.sv_tree.proofs.CountedDesign.{counted_gen}
use Rattle.sv_cursor.specs.declared.sort.Keyword.{Keyword}
use Rattle.sv_cursor.specs.declared.sort.Keyword.TheVariants as k
use Rattle.sv_cursor.specs.declared.sort.Mark.TheVariants as m
use Rattle.sv_cursor.specs.declared.sort.Sort.{Sort}
use Rattle.sv_cursor.specs.declared.sort.Sort.TheVariants as so
use Rattle.sv_cursor.specs.Sorts.{mark_text, keyword_text}
use Rattle.sv_cursor.specs.Tests.{first_sort, keyword_test}
use Rattle.sv_cursor.specs.Parsers.{told}
use Rattle.sv_word_parser.specs.declared.openers.TypeOpener.{TypeOpener}
use Rattle.sv_word_parser.specs.declared.openers.AlwaysWord.{AlwaysWord}
use Rattle.sv_word_parser.specs.declared.openers.ItemOpener.{ItemOpener}
use Rattle.sv_word_parser.specs.declared.openers.ItemOpener.TheVariants as item_by
use Rattle.sv_instance_parser.specs.declared.tails.NameTail.{NameTail}
use Rattle.sv_instance_parser.specs.declared.tails.NameTail.TheVariants as name_tail
use Rattle.sv_instance_parser.specs.declared.tails.PlainTail.TheVariants as plain_tail
use Rattle.sv_word_parser.specs.Combined.{sort_test}
use Rattle.sv_word_parser.specs.Words.{type_by_word, word_type_by_sort, always_by_word, item_by_word, item_by_sort}
use Rattle.sv_type_parser.specs.Params.{TypedName}
use Rattle.sv_instance_parser.specs.Instances.{made_inst, made_named_item}
use Rattle.sv_item_parser.specs.Items.{made_net, made_variable, LoopHead, made_cond, made_loop}
use Rattle.sv_type_parser.proofs.Rules.{Shut, IsFirst, first_of_key, first_of_name, told_sort}
use Rattle.sv_type_parser.proofs.Words.{net_first, net_word_name, param_first, param_word_name}
use Rattle.sv_type_parser.proofs.Types.{type_split}
use Rattle.sv_type_parser.proofs.Ports.{TypedSpelled}
use Rattle.sv_stmt_parser.proofs.Arms.{Closed}
use Rattle.sv_item_parser.proofs.Instances.{TailSpelled}
use Rattle.sv_item_parser.proofs.Blocks.{DoneBlock, block_begins}

-- a whole item
abbrev pub DoneItem : Item → Spelled
DoneItem x i o = SpellsItem x i o × Closed (is_closed x) o

-- a whole body of a generate loop, or a branch of a generate `if`
abbrev pub DoneGen : Gen → Spelled
DoneGen x i o = SpellsGen x i o × Closed (is_closed_gen x) o

pub counted_done_gen : (x : Gen) → Counted (DoneGen x) (length (gen_depths x))
counted_done_gen x = record { count = λ i o h. (counted_gen x).count i o h.0; rest = λ i o h. (counted_gen x).rest i o h.0 }

-- ---- the parts

abbrev pub Semicolon : Spelled
Semicolon = mark_spelled (mark_text m.Semicolon)

abbrev pub NetSpelled : NetWord × (TypedName × List Word) → Spelled
NetSpelled c = net_key c.0 ⨟ (TypedSpelled c.1.0 ⨟ (after_commas name c.1.1 ⨟ Semicolon))

abbrev pub VariableSpelled : TypeTree × List Word → Spelled
VariableSpelled c = SpellsType c.0 ⨟ (commas name c.1 ⨟ Semicolon)

abbrev pub NamedSpelled : Word × NameTail → Spelled
NamedSpelled c = name c.0 ⨟ TailSpelled c.1

abbrev pub OtherGen : Gen → Spelled
OtherGen y = key (keyword_text k.Else) ⨟ DoneGen y

abbrev pub CondHead : Expr → Spelled
CondHead c = mark_spelled (mark_text m.LeftParen) ⨟ (Spells 0 c ⨟ mark_spelled (mark_text m.RightParen))

abbrev pub CondSpelled : Place × (Expr × (Gen × Option Gen)) → Spelled
CondSpelled c = key_at (keyword_text k.If) c.0 ⨟ (CondHead c.1.0 ⨟ (DoneGen c.1.1.0 ⨟ Shut (keyword_test k.Else) OtherGen c.1.1.1))

abbrev pub HeadTurns : Word → Expr × (Expr × Step) → Spelled
HeadTurns v c = mark_spelled (mark_text m.Assign) ⨟ (Spells 0 c.0 ⨟ (Semicolon ⨟ (Spells 0 c.1.0 ⨟ (Semicolon ⨟ (SpellsStep v c.1.1 ⨟ mark_spelled (mark_text m.RightParen))))))

abbrev pub HeadSpelled : LoopHead → Spelled
HeadSpelled c = mark_spelled (mark_text m.LeftParen) ⨟ (maybe (key_at (keyword_text k.Genvar)) c.0 ⨟ (name c.1.0 ⨟ HeadTurns c.1.0 c.1.1))

abbrev pub LoopSpelled : Place × (LoopHead × Gen) → Spelled
LoopSpelled c = key_at (keyword_text k.For) c.0 ⨟ (HeadSpelled c.1.0 ⨟ DoneGen c.1.1)

abbrev pub RegionSpelled : List Item → Spelled
RegionSpelled all = key (keyword_text k.Generate) ⨟ (each DoneItem all ⨟ key (keyword_text k.Endgenerate))

-- how an item is made of parts, by what its first token begins
abbrev pub ItemClass : ItemOpener → Item → Spelled
ItemClass item_by.Net x i o = (c : NetWord × (TypedName × List Word)) × (made_net c ≡ x) × NetSpelled c i o
ItemClass item_by.Type x i o = (c : TypeTree × List Word) × (made_variable c ≡ x) × VariableSpelled c i o
ItemClass item_by.Typedef x i o = (c : Typedef) × (it.Typedef c ≡ x) × SpellsTypedef c i o
ItemClass item_by.Param x i o = (c : Param) × (it.Param c ≡ x) × SpellsParam c i o
ItemClass item_by.Genvar x i o = (c : List Word) × (it.Genvar c ≡ x) × (key (keyword_text k.Genvar) ⨟ (commas name c ⨟ Semicolon)) i o
ItemClass item_by.Assign x i o = (c : List AssignPair) × (it.Assign c ≡ x) × (key (keyword_text k.Assign) ⨟ (commas SpellsPair c ⨟ Semicolon)) i o
ItemClass item_by.Always x i o = (c : Block) × (it.Always c ≡ x) × DoneBlock c i o
ItemClass item_by.Name x i o = (c : Word × NameTail) × (made_named_item c ≡ x) × NamedSpelled c i o
ItemClass item_by.For x i o = (c : Place × (LoopHead × Gen)) × (made_loop c ≡ x) × LoopSpelled c i o
ItemClass item_by.If x i o = (c : Place × (Expr × (Gen × Option Gen))) × (made_cond c ≡ x) × CondSpelled c i o
ItemClass item_by.Generate x i o = (c : List Item) × (it.Generate c ≡ x) × RegionSpelled c i o

-- ---- first tokens

pub told_item : (x : Sort) (i : List Token) → IsFirst x i → told (sort_test item_by_sort) i ≡ item_by_sort x
told_item x i h = told_sort item_by_sort i refl ∙ ap item_by_sort h

net_begin : (w : NetWord) → item_by_word (net_word_name w) ≡ Some item_by.Net
net_begin net_word.Wire = refl
net_begin net_word.Tri = refl

param_begin : (w : ParamWord) → item_by_word (param_word_name w) ≡ Some item_by.Param
param_begin param_word.Parameter = refl
param_begin param_word.Localparam = refl

type_word : (w : Keyword) (c : TypeOpener) → type_by_word w ≡ Some c → item_by_word w ≡ Some item_by.Type
type_word k.Logic c h = refl
type_word k.Reg c h = refl
type_word k.Signed c h = refl
type_word k.Unsigned c h = refl
type_word k.Integer c h = refl
type_word k.Struct c h = refl
type_word k.Enum c h = refl
type_word _ c h = absurd (cc)

type_sort : (y : Sort) (c : TypeOpener) → word_type_by_sort y ≡ Some c → item_by_sort y ≡ Some item_by.Type
type_sort (so.Keyword w) c h = type_word w c h
type_sort (so.Mark m.LeftBracket) c h = refl
type_sort (so.Mark _) c h = absurd (cc)
type_sort so.Id c h = absurd (cc)
type_sort so.Literal c h = absurd (cc)
type_sort so.Other c h = absurd (cc)
type_sort (so.System f) c h = absurd (cc)

pub always_word : (w : Keyword) (c : AlwaysWord) → always_by_word w ≡ Some c → item_by_word w ≡ Some item_by.Always
always_word k.AlwaysComb c h = refl
always_word k.AlwaysLatch c h = refl
always_word k.AlwaysFf c h = refl
always_word k.Always c h = refl
always_word _ c h = absurd (cc)

-- ---- names

some_ranges : (all : List Range) (i o : List Token) → some SpellsRange all i o → each SpellsRange all i o
some_ranges [] i o h = absurd h
some_ranges (r ∷ all) i o h = h

-- what begins with a name is an instance or variables of a named type
pub named_to : (c : Word × NameTail) (i o : List Token) → NamedSpelled c i o → SpellsItem (made_named_item c) i o
unfolding mark_text
named_to (w, name_tail.Overridden p all) i o h =
    let a = h.2 in
    made.to_inst (made_inst w (Some p) all) i o (h.0, h.1, (a.2.0, (a.0, a.1, (a.2.1.0, a.2.1.1, (a.2.1.2.0, a.2.1.2.1, a.2.1.2.2))), a.2.2))
named_to (w, name_tail.Ranged ranges all) i o h =
    let a = h.2 in made.to_variable (ty.Named w ranges) all i o (a.0, made_forms.to_named w ranges i a.0 (h.0, h.1, some_ranges ranges h.0 a.0 a.1), a.2)
named_to (w, name_tail.Plain n (plain_tail.Instances p all)) i o h =
    let a = h.2 in
    made.to_inst (made_inst w None (record { name = n; pins = p } ∷ all)) i o (h.0, h.1, (h.0, refl, (a.2.2.0, (a.2.0, (a.0, a.1, a.2.1), a.2.2.1), a.2.2.2)))
named_to (w, name_tail.Plain n (plain_tail.Variables all)) i o h =
    let a = h.2 in made.to_variable (ty.Named w []) (n ∷ all) i o (h.0, made_forms.to_named w [] i h.0 (h.0, h.1, refl), (a.2.0, (a.0, a.1, a.2.1), a.2.2))

abbrev NamedView : Item → Spelled
NamedView x i o = (c : Word × NameTail) × (made_named_item c ≡ x) × NamedSpelled c i o

inst_from : (w : Word) (params : Option (Option Pins)) (all : List One) (i o : List Token) → SpellsInst (made_inst w params all) i o → NamedView (it.Inst (made_inst w params all)) i o
unfolding mark_text
inst_from w (Some p) all i o h =
    let b = h.2.1 in ((w, name_tail.Overridden p all), refl, (h.0, h.1, (b.0, b.1, (h.2.0, (b.2.0, b.2.1, (b.2.2.0, b.2.2.1, b.2.2.2)), h.2.2))))
inst_from w None [] i o h = absurd h.2.2.1
inst_from w None (x ∷ all) i o h =
    let e = h.2.1 in
    let c = h.2.2.1 in
    let x' = c.1 in
    ((w, name_tail.Plain x.name (plain_tail.Instances x.pins all)), refl, (h.0, h.1, (x'.0, subst (λ t. name x.name t x'.0) (sym e) x'.1, (c.0, x'.2, (h.2.2.0, c.2, h.2.2.2)))))

variable_from : (w : Word) (ranges : List Range) (names : List Word) (i t o : List Token) → (name w ⨟ each SpellsRange ranges) i t → (commas name names ⨟ Semicolon) t o → NamedView (it.Variable (ty.Named w ranges) names) i o
variable_from w (r ∷ ranges) names i t o h g = ((w, name_tail.Ranged (r ∷ ranges) names), refl, (h.0, h.1, (t, h.2, g)))
variable_from w [] [] i t o h g = absurd g.1
variable_from w [] (n ∷ all) i t o h g =
    let c = g.1 in ((w, name_tail.Plain n (plain_tail.Variables all)), refl, (h.0, h.1, (c.0, subst (λ t. name n t c.0) (sym h.2) c.1, (g.0, c.2, g.2))))

named_first : (x : Item) (i o : List Token) → NamedView x i o → told (sort_test item_by_sort) i ≡ Some item_by.Name
named_first x i o h = told_item so.Id i (first_of_name h.0.0 i h.2.0 h.2.1)

abbrev pub ItemView : Item → Type 0
ItemView x = (i o : List Token) → DoneItem x i o → (c : ItemOpener) × (told (sort_test item_by_sort) i ≡ Some c) × ItemClass c x i o

pub net_view : (w : NetWord) (t : Option TypeTree) (names : List Word) → ItemView (it.Net w t names)
unfolding mark_text
net_view w t [] i o h = let g = made.of_net w t [] i o h.0 in absurd g.2.2.1
net_view w t (n ∷ all) i o h =
    let g = made.of_net w t (n ∷ all) i o h.0 in
    let c = g.2.2.1 in
    (item_by.Net, told_item (so.Keyword (net_word_name w)) i (net_first w i g.0 g.1) ∙ net_begin w, ((w, ((t, n), all)), refl, (g.0, g.1, (c.0, (g.2.0, g.2.1, c.1), (g.2.2.0, c.2, g.2.2.2)))))

pub variable_view : (t : TypeTree) (names : List Word) → ItemView (it.Variable t names)
unfolding mark_text
variable_view t names i o h = by_split (made.of_variable t names i o h.0)
  where
    by_type : (u : List Token) → SpellsType t i u → (commas name names ⨟ Semicolon) u o → ((c : TypeOpener) × (told (sort_test word_type_by_sort) i ≡ Some c)) ⊎ ((c : Word × List Range) × (ty.Named c.0 c.1 ≡ t) × (name c.0 ⨟ each SpellsRange c.1) i u)
        → (c : ItemOpener) × (told (sort_test item_by_sort) i ≡ Some c) × ItemClass c (it.Variable t names) i o
    by_type u a b (inl v) = (item_by.Type, told_sort item_by_sort i refl ∙ type_sort (first_sort i) v.0 (sym (told_sort word_type_by_sort i refl) ∙ v.1), ((t, names), refl, (u, a, b)))
    by_type u a b (inr v) =
        let n = variable_from v.0.0 v.0.1 names i u o v.2 b in
        (item_by.Name, named_first (it.Variable (ty.Named v.0.0 v.0.1) names) i o n, (n.0, n.1 ∙ ap (λ t. it.Variable t names) v.1, n.2))

    by_split : (SpellsType t ⨟ (commas name names ⨟ Semicolon)) i o → (c : ItemOpener) × (told (sort_test item_by_sort) i ≡ Some c) × ItemClass c (it.Variable t names) i o
    by_split g = by_type g.0 g.1 g.2 (type_split t i g.0 g.1)

pub typedef_view : (d : Typedef) → ItemView (it.Typedef d)
unfolding keyword_text
typedef_view d i o h = let g = made.of_typedef d i o h.0 in (item_by.Typedef, told_item (so.Keyword k.Typedef) i (first_of_key k.Typedef i g.0 g.1), (d, refl, g))

pub param_view : (p : Param) → ItemView (it.Param p)
param_view p i o h = let g = made.of_param p i o h.0 in (item_by.Param, told_item (so.Keyword (param_word_name p.word)) i (param_first p.word i g.0 g.1) ∙ param_begin p.word, (p, refl, g))

pub genvar_view : (names : List Word) → ItemView (it.Genvar names)
unfolding keyword_text mark_text
genvar_view names i o h = let g = made.of_genvar names i o h.0 in (item_by.Genvar, told_item (so.Keyword k.Genvar) i (first_of_key k.Genvar i g.0 g.1), (names, refl, g))

pub assign_view : (all : List AssignPair) → ItemView (it.Assign all)
unfolding keyword_text mark_text
assign_view all i o h = let g = made.of_assign all i o h.0 in (item_by.Assign, told_item (so.Keyword k.Assign) i (first_of_key k.Assign i g.0 g.1), (all, refl, g))

pub always_view : (b : Block) → ItemView (it.Always b)
always_view b i o h =
    let g = made.of_always b i o h.0 in
    let w = block_begins b.kind i g.0 g.1 in (item_by.Always, told_item (so.Keyword w.0) i w.2 ∙ always_word w.0 w.1.0 w.1.1, (b, refl, (g, h.1)))

pub inst_view : (x : Inst) → ItemView (it.Inst x)
inst_view x i o h = let n = inst_from x.of_module x.params x.list i o (made.of_inst x i o h.0) in (item_by.Name, named_first (it.Inst x) i o n, n)
