-- The names that items instantiate, by their forms.
use Rattle.std.proofs.Common.{◌≡◌, ℕ, ◌+◌, ◌<◌, List, [], ◌∷◌, ◌++◌, length, take, get_or, Option, Some, None, refl, sym, ap, ◌∙◌, append_assoc, Bool, Bor}
use Rattle.std.proofs.lemmas.List.{append-nil}
use Rattle.sv_outside.specs.declared.refusal.Place.{Place}
use Rattle.sv_tree.specs.declared.word.Word.{Word}
use Rattle.sv_tree.specs.declared.exprs.Expr.{Expr}
use Rattle.sv_tree.specs.declared.stmts.Step.{Step}
use Rattle.sv_tree.specs.declared.design.Module.{Module}
use Rattle.sv_tree.specs.declared.forms.TypeTree.{TypeTree}
use Rattle.sv_tree.specs.declared.forms.Typedef.{Typedef as TypedefTree}
use Rattle.sv_tree.specs.declared.design.NetWord.{NetWord}
use Rattle.sv_tree.specs.declared.design.AssignPair.{AssignPair}
use Rattle.sv_tree.specs.declared.stmts.Block.{Block}
use Rattle.sv_tree.specs.declared.design.Param.{Param}
use Rattle.sv_tree.specs.declared.design.Inst.{Inst}
use Rattle.sv_tree.specs.declared.design.Item.{Item}
use Rattle.sv_tree.specs.declared.design.Item.TheVariants as it
use Rattle.sv_tree.specs.declared.design.Gen.{Gen}
use Rattle.sv_tree.specs.declared.design.Gen.TheVariants as ge
use Rattle.sv_tree.specs.declared.design.Gen.TheBlock.{shape-the_row-Item-0, hidden-the_row-Item-0, shape-the_row-Item-1, hidden-the_row-Item-1, shape-the_row-Gen-2, hidden-the_row-Gen-2}
use Rattle.sv_hierarchy.specs.Scopes.{instantiated, all_instantiated, instantiated_by, instantiated_under}
use Rattle.sv_modules.specs.Libraries.{used_in, trees_of}
use Rattle.sv_modules.proofs.Turns.{take_next, map_next}

row_used : (all : List Item) → all_instantiated (hidden-the_row-Item-0 all) ≡ instantiated_by all
unfolding instantiated instantiated_by shape-the_row-Item-0 hidden-the_row-Item-0 shape-the_row-Item-1 hidden-the_row-Item-1 shape-the_row-Gen-2 hidden-the_row-Gen-2 denote.Hole.Carrier.hidden
row_used [] = refl
row_used (x ∷ all) = ap (λ names. instantiated x ++ names) (row_used all)

pub used_inst : (x : Inst) → instantiated (it.Inst x) ≡ x.of_module.text ∷ []
unfolding instantiated
used_inst x = refl

pub used_generate : (all : List Item) → instantiated (it.Generate all) ≡ instantiated_by all
unfolding instantiated shape-the_row-Item-0 hidden-the_row-Item-0 shape-the_row-Item-1 hidden-the_row-Item-1 shape-the_row-Gen-2 hidden-the_row-Gen-2 denote.Hole.Carrier.hidden
used_generate all = row_used all

pub used_for : (p : Place) (header : Bool) (v : Word) (start test : Expr) (next : Step) (x : Gen) → instantiated (it.For p header v start test next x) ≡ instantiated_under x
unfolding instantiated shape-the_row-Item-0 hidden-the_row-Item-0 shape-the_row-Item-1 hidden-the_row-Item-1 shape-the_row-Gen-2 hidden-the_row-Gen-2 denote.Hole.Carrier.hidden
used_for p header v start test next x = refl

pub used_if : (p : Place) (c : Expr) (x : Gen) → instantiated (it.If p c x None) ≡ instantiated_under x
unfolding instantiated shape-the_row-Item-0 hidden-the_row-Item-0 shape-the_row-Item-1 hidden-the_row-Item-1 shape-the_row-Gen-2 hidden-the_row-Gen-2 denote.Hole.Carrier.hidden
used_if p c x = append-nil (instantiated_under x)

pub used_if_else : (p : Place) (c : Expr) (x y : Gen) → instantiated (it.If p c x (Some y)) ≡ instantiated_under x ++ instantiated_under y
unfolding instantiated shape-the_row-Item-0 hidden-the_row-Item-0 shape-the_row-Item-1 hidden-the_row-Item-1 shape-the_row-Gen-2 hidden-the_row-Gen-2 denote.Hole.Carrier.hidden
used_if_else p c x y = refl

pub used_block : (p : Place) (b : Option Word) (all : List Item) (e : Option Word) → instantiated_under (ge.Block p b all e) ≡ instantiated_by all
unfolding instantiated shape-the_row-Item-0 hidden-the_row-Item-0 shape-the_row-Item-1 hidden-the_row-Item-1 shape-the_row-Gen-2 hidden-the_row-Gen-2 denote.Hole.Carrier.hidden
used_block p b all e = row_used all

pub used_single : (p : Place) (x : Item) → instantiated_under (ge.Single p x) ≡ instantiated x
unfolding instantiated shape-the_row-Item-0 hidden-the_row-Item-0 shape-the_row-Item-1 hidden-the_row-Item-1 shape-the_row-Gen-2 hidden-the_row-Gen-2 denote.Hole.Carrier.hidden
used_single p x = refl

by_append : (a : List Item) (x : Item) → instantiated_by (a ++ x ∷ []) ≡ instantiated_by a ++ instantiated x
unfolding instantiated_by
by_append [] x = append-nil (instantiated x)
by_append (y ∷ a) x = ap (λ names. instantiated y ++ names) (by_append a x) ∙ sym (append_assoc (instantiated y) (instantiated_by a) (instantiated x))

pub by_next : (all : List Item) (i : ℕ) (x : Item) → i < length all → x ≡ get_or all i x → instantiated_by (take (i + 1) all) ≡ instantiated_by (take i all) ++ instantiated x
by_next all i x h e = ap instantiated_by (take_next all i x h e) ∙ by_append (take i all) x

in_append : (a : List Module) (m : Module) → used_in (a ++ m ∷ []) ≡ used_in a ++ instantiated_by m.items
unfolding used_in
in_append [] m = append-nil (instantiated_by m.items)
in_append (y ∷ a) m = ap (λ names. instantiated_by y.items ++ names) (in_append a m) ∙ sym (append_assoc (instantiated_by y.items) (used_in a) (instantiated_by m.items))

pub in_next : (all : List (Bor Module)) (i : ℕ) (m : Bor Module) → i < length all → m ≡ get_or all i m → used_in (trees_of (take (i + 1) all)) ≡ used_in (trees_of (take i all)) ++ instantiated_by m.now.items
in_next all i m h e = ap used_in (map_next (λ (x : Bor Module). x.now) all i m h e) ∙ in_append (trees_of (take i all)) m.now

-- ---- items that instantiate none

pub used_net : (w : NetWord) (t : Option TypeTree) (names : List Word) → instantiated (it.Net w t names) ≡ []
unfolding instantiated
used_net w t names = refl

pub used_variable : (t : TypeTree) (names : List Word) → instantiated (it.Variable t names) ≡ []
unfolding instantiated
used_variable t names = refl

pub used_typedef : (d : TypedefTree) → instantiated (it.Typedef d) ≡ []
unfolding instantiated
used_typedef d = refl

pub used_genvar : (names : List Word) → instantiated (it.Genvar names) ≡ []
unfolding instantiated
used_genvar names = refl

pub used_assign : (all : List AssignPair) → instantiated (it.Assign all) ≡ []
unfolding instantiated
used_assign all = refl

pub used_always : (b : Block) → instantiated (it.Always b) ≡ []
unfolding instantiated
used_always b = refl

pub used_param : (p : Param) → instantiated (it.Param p) ≡ []
unfolding instantiated
used_param p = refl

pub by_none : instantiated_by [] ≡ []
unfolding instantiated_by
by_none = refl

pub in_none : used_in [] ≡ []
unfolding used_in
in_none = refl
