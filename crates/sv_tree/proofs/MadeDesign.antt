-- Items of modules as code makes them, with lists of parts: what spells them, and how deep their tokens lie.
use Rattle.std.proofs.Common.{◌≡◌, Bool, true, false, List, [], ◌∷◌, ◌++◌, codes, Option, Some, None, refl, sym, ap, ◌∙◌, subst}
use Rattle.sv_outside.specs.declared.refusal.Place.{Place}
use Rattle.sv_outside.specs.declared.text.Token.{Token}
use Rattle.sv_tree.specs.declared.word.Word.{Word}
use Rattle.sv_tree.specs.declared.exprs.Expr.{Expr}
use Rattle.sv_tree.specs.declared.forms.TypeTree.{TypeTree}
use Rattle.sv_tree.specs.declared.forms.Typedef.{Typedef as TypedefTree}
use Rattle.sv_tree.specs.declared.stmts.Step.{Step}
use Rattle.sv_tree.specs.declared.stmts.Block.{Block}
use Rattle.sv_tree.specs.declared.design.AssignPair.{AssignPair}
use Rattle.sv_tree.specs.declared.design.Param.{Param as ParamTree}
use Rattle.sv_tree.specs.declared.design.NetWord.{NetWord}
use Rattle.sv_tree.specs.declared.design.Inst.{Inst as InstTree}
use Rattle.sv_tree.specs.declared.design.Item.{Item, Net, Variable, Typedef, Param, Genvar, Assign, Always, Inst, For', If', Generate', end_of-Item, more_of-Item, end_of-Gen, more_of-Gen, None', Some', roll-Item, roll-out-Item}
use Rattle.sv_tree.specs.declared.design.Item.TheVariants as it
use Rattle.sv_tree.specs.declared.design.Gen.TheBlock.{shape-the_row-Item-0, hidden-the_row-Item-0, shown-the_row-Item-0, shape-the_row-Item-1, hidden-the_row-Item-1, shape-the_row-Gen-2, hidden-the_row-Gen-2}
use Rattle.sv_tree.specs.declared.design.Gen.{Gen, Block', Single', roll-Gen, roll-out-Gen}
use Rattle.sv_tree.specs.declared.design.Gen.TheVariants as ge
use Rattle.sv_tree.specs.Spelling.{Spelled, nothing, ◌⨟◌, first_at, when, mark, key, key_at, name, maybe, each, commas, label_of}
use Rattle.sv_tree.specs.GrammarExprs.{Spells}
use Rattle.sv_tree.specs.GrammarForms.{SpellsType, SpellsTypedef, SpellsParam, net_key}
use Rattle.sv_tree.specs.GrammarStmts.{is_closed as is_closed_stmt, SpellsStep, SpellsBlock, block_name}
use Rattle.sv_tree.specs.GrammarDesign.{SpellsPair, SpellsInst, genvar_if, is_closed, is_closed_gen, SpellsItem, SpellsGen, SpellsItems}
use Rattle.sv_tree.specs.Nesting.{Depths, one, two, in_generate, if_given, each_depths, commas_depths, word_depths, label_depths, expr_depths}
use Rattle.sv_tree.specs.NestingDesign.{type_depths, typedef_depths, param_depths, pair_depths, block_depths, inst_depths, if_true, turns_depths, item_depths, gen_depths, items_depths}

-- ---- lists of items

pub row_items : (all : List Item) (i o : List Token) → each SpellsItem all i o → SpellsItems (hidden-the_row-Item-0 all) i o
unfolding shape-the_row-Item-0 hidden-the_row-Item-0 shape-the_row-Item-1 hidden-the_row-Item-1 shape-the_row-Gen-2 hidden-the_row-Gen-2 denote.Hole.Carrier.hidden
row_items [] i o h = h
row_items (x ∷ all) i o h = (h.0, h.1, row_items all h.0 o h.2)

pub items_row : (all : List Item) (i o : List Token) → SpellsItems (hidden-the_row-Item-0 all) i o → each SpellsItem all i o
unfolding shape-the_row-Item-0 hidden-the_row-Item-0 shape-the_row-Item-1 hidden-the_row-Item-1 shape-the_row-Gen-2 hidden-the_row-Gen-2 denote.Hole.Carrier.hidden
items_row [] i o h = h
items_row (x ∷ all) i o h = (h.0, h.1, items_row all h.0 o h.2)

pub nests_items : (all : List Item) → items_depths (hidden-the_row-Item-0 all) ≡ each_depths item_depths all
unfolding item_depths shape-the_row-Item-0 hidden-the_row-Item-0 shape-the_row-Item-1 hidden-the_row-Item-1 shape-the_row-Gen-2 hidden-the_row-Gen-2 denote.Hole.Carrier.hidden
nests_items [] = refl
nests_items (x ∷ all) = ap (λ d. item_depths x ++ d) (nests_items all)

-- ---- what stands behind `else`

abbrev pub other_spelled : Bool → Option Gen → Spelled
other_spelled closed None = nothing
other_spelled closed (Some x) = when (closed ≡ true) (key (codes "else") ⨟ SpellsGen x)

abbrev pub other_gen_depths : Option Gen → Depths
other_gen_depths None = []
other_gen_depths (Some x) = one ++ gen_depths x

abbrev pub is_other_closed : Option Gen → Bool
is_other_closed None = false
is_other_closed (Some x) = is_closed_gen x

-- ---- items

pub to_net : (w : NetWord) (t : Option TypeTree) (names : List Word) (i o : List Token) → (net_key w ⨟ maybe SpellsType t ⨟ commas name names ⨟ mark (codes ";")) i o → SpellsItem (it.Net w t names) i o
to_net w t names i o h = h

pub of_net : (w : NetWord) (t : Option TypeTree) (names : List Word) (i o : List Token) → SpellsItem (it.Net w t names) i o → (net_key w ⨟ maybe SpellsType t ⨟ commas name names ⨟ mark (codes ";")) i o
of_net w t names i o h = h

pub nests_net : (w : NetWord) (t : Option TypeTree) (names : List Word) → item_depths (it.Net w t names) ≡ one ++ if_given type_depths t ++ commas_depths word_depths names ++ one
unfolding item_depths
nests_net w t names = refl

pub to_variable : (t : TypeTree) (names : List Word) (i o : List Token) → (SpellsType t ⨟ commas name names ⨟ mark (codes ";")) i o → SpellsItem (it.Variable t names) i o
to_variable t names i o h = h

pub of_variable : (t : TypeTree) (names : List Word) (i o : List Token) → SpellsItem (it.Variable t names) i o → (SpellsType t ⨟ commas name names ⨟ mark (codes ";")) i o
of_variable t names i o h = h

pub nests_variable : (t : TypeTree) (names : List Word) → item_depths (it.Variable t names) ≡ type_depths t ++ commas_depths word_depths names ++ one
unfolding item_depths
nests_variable t names = refl

pub to_typedef : (d : TypedefTree) (i o : List Token) → (SpellsTypedef d) i o → SpellsItem (it.Typedef d) i o
to_typedef d i o h = h

pub of_typedef : (d : TypedefTree) (i o : List Token) → SpellsItem (it.Typedef d) i o → (SpellsTypedef d) i o
of_typedef d i o h = h

pub nests_typedef : (d : TypedefTree) → item_depths (it.Typedef d) ≡ typedef_depths d
unfolding item_depths
nests_typedef d = refl

pub to_param : (p : ParamTree) (i o : List Token) → (SpellsParam p) i o → SpellsItem (it.Param p) i o
to_param p i o h = h

pub of_param : (p : ParamTree) (i o : List Token) → SpellsItem (it.Param p) i o → (SpellsParam p) i o
of_param p i o h = h

pub nests_param : (p : ParamTree) → item_depths (it.Param p) ≡ param_depths p
unfolding item_depths
nests_param p = refl

pub to_genvar : (names : List Word) (i o : List Token) → (key (codes "genvar") ⨟ commas name names ⨟ mark (codes ";")) i o → SpellsItem (it.Genvar names) i o
to_genvar names i o h = h

pub of_genvar : (names : List Word) (i o : List Token) → SpellsItem (it.Genvar names) i o → (key (codes "genvar") ⨟ commas name names ⨟ mark (codes ";")) i o
of_genvar names i o h = h

pub nests_genvar : (names : List Word) → item_depths (it.Genvar names) ≡ one ++ commas_depths word_depths names ++ one
unfolding item_depths
nests_genvar names = refl

pub to_assign : (all : List AssignPair) (i o : List Token) → (key (codes "assign") ⨟ commas SpellsPair all ⨟ mark (codes ";")) i o → SpellsItem (it.Assign all) i o
to_assign all i o h = h

pub of_assign : (all : List AssignPair) (i o : List Token) → SpellsItem (it.Assign all) i o → (key (codes "assign") ⨟ commas SpellsPair all ⨟ mark (codes ";")) i o
of_assign all i o h = h

pub nests_assign : (all : List AssignPair) → item_depths (it.Assign all) ≡ one ++ commas_depths pair_depths all ++ one
unfolding item_depths
nests_assign all = refl

pub to_always : (b : Block) (i o : List Token) → (SpellsBlock b) i o → SpellsItem (it.Always b) i o
to_always b i o h = h

pub of_always : (b : Block) (i o : List Token) → SpellsItem (it.Always b) i o → (SpellsBlock b) i o
of_always b i o h = h

pub nests_always : (b : Block) → item_depths (it.Always b) ≡ block_depths b
unfolding item_depths
nests_always b = refl

pub to_inst : (x : InstTree) (i o : List Token) → (SpellsInst x) i o → SpellsItem (it.Inst x) i o
to_inst x i o h = h

pub of_inst : (x : InstTree) (i o : List Token) → SpellsItem (it.Inst x) i o → (SpellsInst x) i o
of_inst x i o h = h

pub nests_inst : (x : InstTree) → item_depths (it.Inst x) ≡ inst_depths x
unfolding item_depths
nests_inst x = refl

pub to_for : (p : Place) (header : Bool) (v : Word) (start test : Expr) (next : Step) (x : Gen) (i o : List Token) → (key_at (codes "for") p ⨟ mark (codes "(") ⨟ genvar_if header ⨟ name v ⨟ mark (codes "=") ⨟ Spells 0 start ⨟ mark (codes ";") ⨟ Spells 0 test ⨟ mark (codes ";") ⨟ SpellsStep v next ⨟ mark (codes ")") ⨟ SpellsGen x) i o → SpellsItem (it.For p header v start test next x) i o
unfolding shape-the_row-Item-0 hidden-the_row-Item-0 shape-the_row-Item-1 hidden-the_row-Item-1 shape-the_row-Gen-2 hidden-the_row-Gen-2 denote.Hole.Carrier.hidden
to_for p header v start test next x i o h = h

pub of_for : (p : Place) (header : Bool) (v : Word) (start test : Expr) (next : Step) (x : Gen) (i o : List Token) → SpellsItem (it.For p header v start test next x) i o → (key_at (codes "for") p ⨟ mark (codes "(") ⨟ genvar_if header ⨟ name v ⨟ mark (codes "=") ⨟ Spells 0 start ⨟ mark (codes ";") ⨟ Spells 0 test ⨟ mark (codes ";") ⨟ SpellsStep v next ⨟ mark (codes ")") ⨟ SpellsGen x) i o
unfolding shape-the_row-Item-0 hidden-the_row-Item-0 shape-the_row-Item-1 hidden-the_row-Item-1 shape-the_row-Gen-2 hidden-the_row-Gen-2 denote.Hole.Carrier.hidden
of_for p header v start test next x i o h = h

pub nests_for : (p : Place) (header : Bool) (v : Word) (start test : Expr) (next : Step) (x : Gen) → item_depths (it.For p header v start test next x) ≡ in_generate (two ++ if_true header ++ turns_depths (expr_depths start) (expr_depths test) next ++ gen_depths x)
unfolding item_depths shape-the_row-Item-0 hidden-the_row-Item-0 shape-the_row-Item-1 hidden-the_row-Item-1 shape-the_row-Gen-2 hidden-the_row-Gen-2 denote.Hole.Carrier.hidden
nests_for p header v start test next x = refl

abbrev pub if_spelled : Place → Expr → Gen → Option Gen → Spelled
if_spelled p c x y = key_at (codes "if") p ⨟ mark (codes "(") ⨟ Spells 0 c ⨟ mark (codes ")") ⨟ SpellsGen x ⨟ other_spelled (is_closed_gen x) y

pub to_if : (p : Place) (c : Expr) (x : Gen) (y : Option Gen) (i o : List Token) → if_spelled p c x y i o → SpellsItem (it.If p c x y) i o
unfolding shape-the_row-Item-0 hidden-the_row-Item-0 shape-the_row-Item-1 hidden-the_row-Item-1 shape-the_row-Gen-2 hidden-the_row-Gen-2 denote.Hole.Carrier.hidden
to_if p c x None i o h = h
to_if p c x (Some y) i o h = h

pub of_if : (p : Place) (c : Expr) (x : Gen) (y : Option Gen) (i o : List Token) → SpellsItem (it.If p c x y) i o → if_spelled p c x y i o
unfolding shape-the_row-Item-0 hidden-the_row-Item-0 shape-the_row-Item-1 hidden-the_row-Item-1 shape-the_row-Gen-2 hidden-the_row-Gen-2 denote.Hole.Carrier.hidden
of_if p c x None i o h = h
of_if p c x (Some y) i o h = h

pub nests_if : (p : Place) (c : Expr) (x : Gen) (y : Option Gen) → item_depths (it.If p c x y) ≡ in_generate (two ++ expr_depths c ++ one ++ gen_depths x ++ other_gen_depths y)
unfolding item_depths shape-the_row-Item-0 hidden-the_row-Item-0 shape-the_row-Item-1 hidden-the_row-Item-1 shape-the_row-Gen-2 hidden-the_row-Gen-2 denote.Hole.Carrier.hidden
nests_if p c x None = refl
nests_if p c x (Some y) = refl

pub closed_if : (p : Place) (c : Expr) (x : Gen) (y : Option Gen) → is_closed (it.If p c x y) ≡ is_other_closed y
unfolding shape-the_row-Item-0 hidden-the_row-Item-0 shape-the_row-Item-1 hidden-the_row-Item-1 shape-the_row-Gen-2 hidden-the_row-Gen-2 denote.Hole.Carrier.hidden
closed_if p c x None = refl
closed_if p c x (Some y) = refl

pub closed_for : (p : Place) (header : Bool) (v : Word) (start test : Expr) (next : Step) (x : Gen) → is_closed (it.For p header v start test next x) ≡ is_closed_gen x
unfolding shape-the_row-Item-0 hidden-the_row-Item-0 shape-the_row-Item-1 hidden-the_row-Item-1 shape-the_row-Gen-2 hidden-the_row-Gen-2 denote.Hole.Carrier.hidden
closed_for p header v start test next x = refl

pub closed_always : (b : Block) → is_closed (it.Always b) ≡ is_closed_stmt b.body
closed_always b = refl

pub closed_generate : (all : List Item) → is_closed (it.Generate all) ≡ true
unfolding shape-the_row-Item-0 hidden-the_row-Item-0 shape-the_row-Item-1 hidden-the_row-Item-1 shape-the_row-Gen-2 hidden-the_row-Gen-2 denote.Hole.Carrier.hidden
closed_generate all = refl

pub closed_block : (p : Place) (b : Option Word) (all : List Item) (e : Option Word) → is_closed_gen (ge.Block p b all e) ≡ true
unfolding shape-the_row-Item-0 hidden-the_row-Item-0 shape-the_row-Item-1 hidden-the_row-Item-1 shape-the_row-Gen-2 hidden-the_row-Gen-2 denote.Hole.Carrier.hidden
closed_block p b all e = refl

pub closed_single : (p : Place) (x : Item) → is_closed_gen (ge.Single p x) ≡ is_closed x
unfolding shape-the_row-Item-0 hidden-the_row-Item-0 shape-the_row-Item-1 hidden-the_row-Item-1 shape-the_row-Gen-2 hidden-the_row-Gen-2 denote.Hole.Carrier.hidden
closed_single p x = refl

pub to_generate : (all : List Item) (i o : List Token) → (key (codes "generate") ⨟ each SpellsItem all ⨟ key (codes "endgenerate")) i o → SpellsItem (it.Generate all) i o
unfolding shape-the_row-Item-0 hidden-the_row-Item-0 shape-the_row-Item-1 hidden-the_row-Item-1 shape-the_row-Gen-2 hidden-the_row-Gen-2 denote.Hole.Carrier.hidden
to_generate all i o h = (h.0, h.1, (h.2.0, row_items all h.0 h.2.0 h.2.1, h.2.2))

pub of_generate : (all : List Item) (i o : List Token) → SpellsItem (it.Generate all) i o → (key (codes "generate") ⨟ each SpellsItem all ⨟ key (codes "endgenerate")) i o
unfolding shape-the_row-Item-0 hidden-the_row-Item-0 shape-the_row-Item-1 hidden-the_row-Item-1 shape-the_row-Gen-2 hidden-the_row-Gen-2 denote.Hole.Carrier.hidden
of_generate all i o h = (h.0, h.1, (h.2.0, items_row all h.0 h.2.0 h.2.1, h.2.2))

pub nests_generate : (all : List Item) → item_depths (it.Generate all) ≡ in_generate (one ++ each_depths item_depths all ++ one)
unfolding item_depths shape-the_row-Item-0 hidden-the_row-Item-0 shape-the_row-Item-1 hidden-the_row-Item-1 shape-the_row-Gen-2 hidden-the_row-Gen-2 denote.Hole.Carrier.hidden
nests_generate all = ap (λ d. in_generate (one ++ d ++ one)) (nests_items all)

pub to_block : (p : Place) (b : Option Word) (all : List Item) (e : Option Word) (i o : List Token) → (key_at (codes "begin") p ⨟ maybe block_name b ⨟ each SpellsItem all ⨟ key (codes "end") ⨟ label_of b e) i o → SpellsGen (ge.Block p b all e) i o
unfolding shape-the_row-Item-0 hidden-the_row-Item-0 shape-the_row-Item-1 hidden-the_row-Item-1 shape-the_row-Gen-2 hidden-the_row-Gen-2 denote.Hole.Carrier.hidden
to_block p b all e i o h = (h.0, h.1, (h.2.0, h.2.1, (h.2.2.0, row_items all h.2.0 h.2.2.0 h.2.2.1, h.2.2.2)))

pub of_block : (p : Place) (b : Option Word) (all : List Item) (e : Option Word) (i o : List Token) → SpellsGen (ge.Block p b all e) i o → (key_at (codes "begin") p ⨟ maybe block_name b ⨟ each SpellsItem all ⨟ key (codes "end") ⨟ label_of b e) i o
unfolding shape-the_row-Item-0 hidden-the_row-Item-0 shape-the_row-Item-1 hidden-the_row-Item-1 shape-the_row-Gen-2 hidden-the_row-Gen-2 denote.Hole.Carrier.hidden
of_block p b all e i o h = (h.0, h.1, (h.2.0, h.2.1, (h.2.2.0, items_row all h.2.0 h.2.2.0 h.2.2.1, h.2.2.2)))

pub nests_block : (p : Place) (b : Option Word) (all : List Item) (e : Option Word) → gen_depths (ge.Block p b all e) ≡ one ++ if_given label_depths b ++ each_depths item_depths all ++ one ++ if_given label_depths e
unfolding item_depths shape-the_row-Item-0 hidden-the_row-Item-0 shape-the_row-Item-1 hidden-the_row-Item-1 shape-the_row-Gen-2 hidden-the_row-Gen-2 denote.Hole.Carrier.hidden
nests_block p b all e = ap (λ d. one ++ if_given label_depths b ++ d ++ one ++ if_given label_depths e) (nests_items all)

pub to_single : (p : Place) (x : Item) (i o : List Token) → (first_at p (SpellsItem x)) i o → SpellsGen (ge.Single p x) i o
unfolding shape-the_row-Item-0 hidden-the_row-Item-0 shape-the_row-Item-1 hidden-the_row-Item-1 shape-the_row-Gen-2 hidden-the_row-Gen-2 denote.Hole.Carrier.hidden
to_single p x i o h = h

pub of_single : (p : Place) (x : Item) (i o : List Token) → SpellsGen (ge.Single p x) i o → (first_at p (SpellsItem x)) i o
unfolding shape-the_row-Item-0 hidden-the_row-Item-0 shape-the_row-Item-1 hidden-the_row-Item-1 shape-the_row-Gen-2 hidden-the_row-Gen-2 denote.Hole.Carrier.hidden
of_single p x i o h = h

pub nests_single : (p : Place) (x : Item) → gen_depths (ge.Single p x) ≡ item_depths x
unfolding item_depths shape-the_row-Item-0 hidden-the_row-Item-0 shape-the_row-Item-1 hidden-the_row-Item-1 shape-the_row-Gen-2 hidden-the_row-Gen-2 denote.Hole.Carrier.hidden
nests_single p x = refl

pub by_cases_item {ℓ} : (P : Item → Type ℓ)
    → ((w : NetWord) (t : Option TypeTree) (names : List Word) → P (it.Net w t names))
    → ((t : TypeTree) (names : List Word) → P (it.Variable t names))
    → ((d : TypedefTree) → P (it.Typedef d))
    → ((p : ParamTree) → P (it.Param p))
    → ((names : List Word) → P (it.Genvar names))
    → ((all : List AssignPair) → P (it.Assign all))
    → ((b : Block) → P (it.Always b))
    → ((x : InstTree) → P (it.Inst x))
    → ((p : Place) (header : Bool) (v : Word) (start test : Expr) (next : Step) (x : Gen) → P (it.For p header v start test next x))
    → ((p : Place) (c : Expr) (x : Gen) (y : Option Gen) → P (it.If p c x y))
    → ((all : List Item) → P (it.Generate all))
    → (x : Item) → P x
unfolding shown-the_row-Item-0 denote.Hole.Carrier.shown shape-the_row-Item-0 hidden-the_row-Item-0 shape-the_row-Item-1 hidden-the_row-Item-1 shape-the_row-Gen-2 hidden-the_row-Gen-2 denote.Hole.Carrier.hidden
by_cases_item P net variable typedef param genvar assign always inst loop cond region (Net w t names) = net w t names
by_cases_item P net variable typedef param genvar assign always inst loop cond region (Variable t names) = variable t names
by_cases_item P net variable typedef param genvar assign always inst loop cond region (Typedef d) = typedef d
by_cases_item P net variable typedef param genvar assign always inst loop cond region (Param p) = param p
by_cases_item P net variable typedef param genvar assign always inst loop cond region (Genvar names) = genvar names
by_cases_item P net variable typedef param genvar assign always inst loop cond region (Assign all) = assign all
by_cases_item P net variable typedef param genvar assign always inst loop cond region (Always b) = always b
by_cases_item P net variable typedef param genvar assign always inst loop cond region (Inst x) = inst x
by_cases_item P net variable typedef param genvar assign always inst loop cond region (For' p header v start test next r (more_of-Gen x end_of-Gen)) = loop p header v start test next x
by_cases_item P net variable typedef param genvar assign always inst loop cond region (If' p c r (more_of-Gen x end_of-Gen) None') = cond p c x None
by_cases_item P net variable typedef param genvar assign always inst loop cond region (If' p c r (more_of-Gen x end_of-Gen) (Some' q (more_of-Gen y end_of-Gen))) = cond p c x (Some y)
by_cases_item P net variable typedef param genvar assign always inst loop cond region (Generate' r all) = subst P (sym (it.rolls-Generate (shown-the_row-Item-0 r all)) ∙ (ap roll-Item (sym (it.outs-Generate' r all)) ∙ roll-out-Item (Generate' r all))) (region (shown-the_row-Item-0 r all))

pub by_cases_gen {ℓ} : (P : Gen → Type ℓ) → ((p : Place) (b : Option Word) (all : List Item) (e : Option Word) → P (ge.Block p b all e)) → ((p : Place) (x : Item) → P (ge.Single p x)) → (x : Gen) → P x
unfolding shown-the_row-Item-0 denote.Hole.Carrier.shown shape-the_row-Item-0 hidden-the_row-Item-0 shape-the_row-Item-1 hidden-the_row-Item-1 shape-the_row-Gen-2 hidden-the_row-Gen-2 denote.Hole.Carrier.hidden
by_cases_gen P block single (Block' p b r all e) = subst P (sym (ge.rolls-Block p b (shown-the_row-Item-0 r all) e) ∙ (ap roll-Gen (sym (ge.outs-Block' p b r all e)) ∙ roll-out-Gen (Block' p b r all e))) (block p b (shown-the_row-Item-0 r all) e)
by_cases_gen P block single (Single' p r (more_of-Item x end_of-Item)) = single p x
