-- The parameters that an instance may give, by the forms of items.
use Rattle.std.proofs.Common.{◌≡◌, ℕ, ◌+◌, ◌<◌, Bool, true, false, List, [], ◌∷◌, ◌++◌, length, take, drop, get_or, Option, Some, None, refl, sym, ap, ◌∙◌, append_assoc, if◌then◌else◌, Bor, unwrap_or}
use Rattle.std.proofs.lemmas.List.{append-nil, map-append}
use Rattle.sv_tree.specs.declared.word.Word.{Word}
use Rattle.sv_tree.specs.declared.design.ParamWord.{ParamWord}
use Rattle.sv_tree.specs.declared.design.ParamWord.TheVariants as param_word
use Rattle.sv_tree.specs.declared.design.ParPort.{ParPort}
use Rattle.sv_tree.specs.declared.design.ParamItem.{ParamItem}
use Rattle.sv_tree.specs.declared.forms.TypeTree.{TypeTree}
use Rattle.sv_tree.specs.declared.forms.Typedef.{Typedef as TypedefTree}
use Rattle.sv_tree.specs.declared.design.NetWord.{NetWord}
use Rattle.sv_tree.specs.declared.design.AssignPair.{AssignPair}
use Rattle.sv_tree.specs.declared.stmts.Block.{Block}
use Rattle.sv_outside.specs.declared.refusal.Place.{Place}
use Rattle.sv_tree.specs.declared.exprs.Expr.{Expr}
use Rattle.sv_tree.specs.declared.stmts.Step.{Step}
use Rattle.sv_tree.specs.declared.design.Inst.{Inst as InstTree}
use Rattle.sv_tree.specs.declared.design.Gen.{Gen}
use Rattle.sv_tree.specs.declared.design.Param.{Param}
use Rattle.sv_tree.specs.declared.design.Item.{Item}
use Rattle.sv_tree.specs.declared.design.Item.TheVariants as it
use Rattle.sv_tree.specs.declared.design.Gen.TheBlock.{shape-the_row-Item-0, hidden-the_row-Item-0, shape-the_row-Item-1, hidden-the_row-Item-1, shape-the_row-Gen-2, hidden-the_row-Gen-2}
use Rattle.sv_meaning.specs.Layouts.{Name}
use Rattle.sv_meaning.specs.Params.{is_parameter}
use Rattle.sv_hierarchy.specs.Scopes.{body_params, all_body_params, params_of_items, params_from, item_names, list_params}
use Rattle.sv_modules.specs.Naming.{texts_of}
use Rattle.sv_modules.proofs.Turns.{take_next, drop_next}

-- ---- items

row_given : (all : List Item) → all_body_params (hidden-the_row-Item-0 all) ≡ params_of_items all
unfolding body_params params_of_items shape-the_row-Item-0 hidden-the_row-Item-0 shape-the_row-Item-1 hidden-the_row-Item-1 shape-the_row-Gen-2 hidden-the_row-Gen-2 denote.Hole.Carrier.hidden
row_given [] = refl
row_given (x ∷ all) = ap (λ names. body_params x ++ names) (row_given all)

pub given_generate : (all : List Item) → body_params (it.Generate all) ≡ params_of_items all
unfolding body_params shape-the_row-Item-0 hidden-the_row-Item-0 shape-the_row-Item-1 hidden-the_row-Item-1 shape-the_row-Gen-2 hidden-the_row-Gen-2 denote.Hole.Carrier.hidden
given_generate all = row_given all

pub given_param : (p : Param) → p.word ≡ param_word.Parameter → body_params (it.Param p) ≡ item_names p.list
unfolding body_params
given_param p h = ap (λ w. if is_parameter w then item_names p.list else []) h

pub given_local : (p : Param) → p.word ≡ param_word.Localparam → body_params (it.Param p) ≡ []
unfolding body_params
given_local p h = ap (λ w. if is_parameter w then item_names p.list else []) h

items_append : (a : List Item) (x : Item) → params_of_items (a ++ x ∷ []) ≡ params_of_items a ++ body_params x
unfolding params_of_items
items_append [] x = append-nil (body_params x)
items_append (y ∷ a) x = ap (λ names. body_params y ++ names) (items_append a x) ∙ sym (append_assoc (body_params y) (params_of_items a) (body_params x))

pub items_next : (all : List Item) (i : ℕ) (x : Item) → i < length all → x ≡ get_or all i x → params_of_items (take (i + 1) all) ≡ params_of_items (take i all) ++ body_params x
items_next all i x h e = ap params_of_items (take_next all i x h e) ∙ items_append (take i all) x

names_append : (a : List ParamItem) (x : ParamItem) → item_names (a ++ x ∷ []) ≡ item_names a ++ x.name.text ∷ []
unfolding item_names
names_append [] x = refl
names_append (y ∷ a) x = ap (λ names. y.name.text ∷ names) (names_append a x)

pub names_next : (all : List ParamItem) (i : ℕ) (x : ParamItem) → i < length all → x ≡ get_or all i x → item_names (take (i + 1) all) ≡ item_names (take i all) ++ x.name.text ∷ []
names_next all i x h e = ap item_names (take_next all i x h e) ∙ names_append (take i all) x

-- ---- one word more

pub one_text : (old new : List (Bor Word)) (w : Bor Word) (all rest : List Name) (n : Name) → new ≡ old ++ w ∷ [] → w.now.text ≡ n → texts_of old ≡ all ++ rest → texts_of new ≡ all ++ (rest ++ n ∷ [])
one_text old new w all rest n h e g =
    ap texts_of h ∙ map-append (λ (x : Bor Word). x.now.text) old (w ∷ []) ∙ ap (λ x. x ++ w.now.text ∷ []) g ∙ append_assoc all rest (w.now.text ∷ []) ∙ ap (λ (x : Name). all ++ (rest ++ x ∷ [])) e

-- ---- a module's list

word_is : (p : ParPort) (w : ParamWord) (more : List ParPort) → list_params w (p ∷ more) ≡ (if is_parameter (unwrap_or p.word w) then p.name.text ∷ [] else []) ++ list_params (unwrap_or p.word w) more
unfolding list_params
word_is p w more = go p.word
  where
    go : (o : Option ParamWord) → list_params w (record p { word = o } ∷ more) ≡ (if is_parameter (unwrap_or o w) then p.name.text ∷ [] else []) ++ list_params (unwrap_or o w) more
    go None = refl
    go (Some v) = refl

pub list_next : (all : List ParPort) (i : ℕ) (p : ParPort) (w v : ParamWord) → i < length all → p ≡ get_or all i p → v ≡ unwrap_or p.word w →
    list_params w (drop i all) ≡ (if is_parameter v then p.name.text ∷ [] else []) ++ list_params v (drop (i + 1) all)
list_next all i p w v h e g =
    ap (list_params w) (drop_next all i p h e) ∙ word_is p w (drop (i + 1) all) ∙ ap (λ x. (if is_parameter x then p.name.text ∷ [] else []) ++ list_params x (drop (i + 1) all)) (sym g)

pub no_list : (list : List ParPort) (all : List Item) → list ≡ [] → params_from list all ≡ params_of_items all
no_list [] all h = refl
no_list (p ∷ list) all h = cc

pub some_list : (list : List ParPort) (all : List Item) → (list ≡ [] → ⊥) → params_from list all ≡ list_params param_word.Parameter list
some_list [] all h = absurd (h refl)
some_list (p ∷ list) all h = refl

-- ---- items that give none

pub given_net : (w : NetWord) (t : Option TypeTree) (names : List Word) → body_params (it.Net w t names) ≡ []
unfolding body_params
given_net w t names = refl

pub given_variable : (t : TypeTree) (names : List Word) → body_params (it.Variable t names) ≡ []
unfolding body_params
given_variable t names = refl

pub given_typedef : (d : TypedefTree) → body_params (it.Typedef d) ≡ []
unfolding body_params
given_typedef d = refl

pub given_genvar : (names : List Word) → body_params (it.Genvar names) ≡ []
unfolding body_params
given_genvar names = refl

pub given_assign : (all : List AssignPair) → body_params (it.Assign all) ≡ []
unfolding body_params
given_assign all = refl

pub given_always : (b : Block) → body_params (it.Always b) ≡ []
unfolding body_params
given_always b = refl

pub given_inst : (x : InstTree) → body_params (it.Inst x) ≡ []
unfolding body_params
given_inst x = refl

pub given_for : (p : Place) (header : Bool) (v : Word) (start test : Expr) (next : Step) (x : Gen) → body_params (it.For p header v start test next x) ≡ []
unfolding body_params shape-the_row-Item-0 hidden-the_row-Item-0 shape-the_row-Item-1 hidden-the_row-Item-1 shape-the_row-Gen-2 hidden-the_row-Gen-2 denote.Hole.Carrier.hidden
given_for p header v start test next x = refl

pub given_if_none : (p : Place) (c : Expr) (x : Gen) → body_params (it.If p c x None) ≡ []
unfolding body_params shape-the_row-Item-0 hidden-the_row-Item-0 shape-the_row-Item-1 hidden-the_row-Item-1 shape-the_row-Gen-2 hidden-the_row-Gen-2 denote.Hole.Carrier.hidden
given_if_none p c x = refl

pub given_if_some : (p : Place) (c : Expr) (x y : Gen) → body_params (it.If p c x (Some y)) ≡ []
unfolding body_params shape-the_row-Item-0 hidden-the_row-Item-0 shape-the_row-Item-1 hidden-the_row-Item-1 shape-the_row-Gen-2 hidden-the_row-Gen-2 denote.Hole.Carrier.hidden
given_if_some p c x y = refl

pub given_if : (p : Place) (c : Expr) (x : Gen) (y : Option Gen) → body_params (it.If p c x y) ≡ []
given_if p c x None = given_if_none p c x
given_if p c x (Some y) = given_if_some p c x y

pub no_items : params_of_items [] ≡ []
unfolding params_of_items
no_items = refl

pub no_names : item_names [] ≡ []
unfolding item_names
no_names = refl

pub no_ports : (w : ParamWord) → list_params w [] ≡ []
unfolding list_params
no_ports w = refl

pub nothing_more : (all more : List Name) → more ≡ [] → all ≡ all ++ more
nothing_more all more e = sym (ap (λ (x : List Name). all ++ x) e ∙ append-nil all)

pub texts_push : (old new : List (Bor Word)) (b : Bor Word) (n : Name) → new ≡ old ++ b ∷ [] → b.now.text ≡ n → texts_of new ≡ texts_of old ++ n ∷ []
texts_push old new b n h e = ap texts_of h ∙ map-append (λ (x : Bor Word). x.now.text) old (b ∷ []) ∙ ap (λ (x : Name). texts_of old ++ x ∷ []) e

pub list_then : (old : List Name) (all : List ParPort) (i : ℕ) (p : ParPort) (w v : ParamWord) → i < length all → p ≡ get_or all i p → v ≡ unwrap_or p.word w → is_parameter v ≡ true →
    (old ++ p.name.text ∷ []) ++ list_params v (drop (i + 1) all) ≡ old ++ list_params w (drop i all)
list_then old all i p w v h e g t =
    append_assoc old (p.name.text ∷ []) (list_params v (drop (i + 1) all))
    ∙ ap (λ (x : List Name). old ++ x) (sym (list_next all i p w v h e g ∙ ap (λ b. (if b then p.name.text ∷ [] else []) ++ list_params v (drop (i + 1) all)) t))

pub list_else : (old : List Name) (all : List ParPort) (i : ℕ) (p : ParPort) (w v : ParamWord) → i < length all → p ≡ get_or all i p → v ≡ unwrap_or p.word w → is_parameter v ≡ false →
    old ++ list_params v (drop (i + 1) all) ≡ old ++ list_params w (drop i all)
list_else old all i p w v h e g t =
    ap (λ (x : List Name). old ++ x) (sym (list_next all i p w v h e g ∙ ap (λ b. (if b then p.name.text ∷ [] else []) ++ list_params v (drop (i + 1) all)) t))
