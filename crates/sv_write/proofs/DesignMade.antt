-- Items as code makes them, with lists of parts: what is written of them.
use Rattle.std.proofs.Common.{◌≡◌, Bool, List, [], ◌∷◌, codes, Option, Some, None, refl, ap}
use Rattle.sv_outside.specs.declared.refusal.Place.{Place}
use Rattle.sv_tree.specs.declared.word.Word.{Word}
use Rattle.sv_tree.specs.declared.exprs.Expr.{Expr}
use Rattle.sv_tree.specs.declared.forms.TypeTree.{TypeTree}
use Rattle.sv_tree.specs.declared.forms.Typedef.{Typedef as TypedefTree}
use Rattle.sv_tree.specs.declared.stmts.Step.{Step}
use Rattle.sv_tree.specs.declared.stmts.Block.{Block}
use Rattle.sv_tree.specs.declared.design.AssignPair.{AssignPair}
use Rattle.sv_tree.specs.declared.design.Param.{Param as ParamTree}
use Rattle.sv_tree.specs.declared.design.NetWord.{NetWord}
use Rattle.sv_tree.specs.declared.design.Inst.{Inst as InstTree}
use Rattle.sv_tree.specs.declared.design.Item.{Item, Net, Variable, Typedef, Param, Genvar, Assign, Always, Inst}
use Rattle.sv_tree.specs.declared.design.Item.TheVariants as it
use Rattle.sv_tree.specs.declared.design.Gen.TheBlock.{shape-the_row-Item-0, hidden-the_row-Item-0, shape-the_row-Item-1, hidden-the_row-Item-1, shape-the_row-Gen-2, hidden-the_row-Gen-2}
use Rattle.sv_tree.specs.declared.design.Gen.{Gen}
use Rattle.sv_tree.specs.declared.design.Gen.TheVariants as ge
use Rattle.sv_write.specs.declared.lexeme.Lexeme.{Lexeme}
use Rattle.sv_write.specs.Writing.{Write, ◌⨾◌, mark, key, name, maybe, each, commas, label}
use Rattle.sv_write.specs.Exprs.{write_expr}
use Rattle.sv_write.specs.Forms.{write_type, write_typedef, write_param, write_net_key}
use Rattle.sv_write.specs.Stmts.{write_step, write_block, write_block_name}
use Rattle.sv_write.specs.Design.{write_pair, write_inst, write_genvar_if, write_item, write_gen, write_else, write_items, write_else_part}

-- ---- lists of parts

rows_items : (all : List Item) → ◌≡◌ {A = Write} (write_items (hidden-the_row-Item-0 all)) (each write_item all)
unfolding each write_item write_gen write_else write_items shape-the_row-Item-0 hidden-the_row-Item-0 shape-the_row-Item-1 hidden-the_row-Item-1 shape-the_row-Gen-2 hidden-the_row-Gen-2 denote.Hole.Carrier.hidden
rows_items [] = refl
rows_items (x ∷ all) = ap (λ (f : Write). write_item x ⨾ f) (rows_items all)

-- ---- trees as code makes them

pub made_net : (w : NetWord) (t : Option TypeTree) (names : List Word) (l : List Lexeme) → write_item (it.Net w t names) l ≡ (write_net_key w ⨾ maybe write_type t ⨾ commas name names ⨾ mark (codes ";")) l
unfolding write_item write_gen write_else write_items
made_net w t names l = refl

pub made_variable : (t : TypeTree) (names : List Word) (l : List Lexeme) → write_item (it.Variable t names) l ≡ (write_type t ⨾ commas name names ⨾ mark (codes ";")) l
unfolding write_item write_gen write_else write_items
made_variable t names l = refl

pub made_typedef : (d : TypedefTree) (l : List Lexeme) → write_item (it.Typedef d) l ≡ (write_typedef d) l
unfolding write_item write_gen write_else write_items
made_typedef d l = refl

pub made_param : (p : ParamTree) (l : List Lexeme) → write_item (it.Param p) l ≡ (write_param p) l
unfolding write_item write_gen write_else write_items
made_param p l = refl

pub made_genvar : (names : List Word) (l : List Lexeme) → write_item (it.Genvar names) l ≡ (key (codes "genvar") ⨾ commas name names ⨾ mark (codes ";")) l
unfolding write_item write_gen write_else write_items
made_genvar names l = refl

pub made_assign : (all : List AssignPair) (l : List Lexeme) → write_item (it.Assign all) l ≡ (key (codes "assign") ⨾ commas write_pair all ⨾ mark (codes ";")) l
unfolding write_item write_gen write_else write_items
made_assign all l = refl

pub made_always : (b : Block) (l : List Lexeme) → write_item (it.Always b) l ≡ (write_block b) l
unfolding write_item write_gen write_else write_items
made_always b l = refl

pub made_inst : (x : InstTree) (l : List Lexeme) → write_item (it.Inst x) l ≡ (write_inst x) l
unfolding write_item write_gen write_else write_items
made_inst x l = refl

pub made_for : (p : Place) (header : Bool) (v : Word) (start test : Expr) (next : Step) (x : Gen) (l : List Lexeme) → write_item (it.For p header v start test next x) l ≡ (key (codes "for") ⨾ mark (codes "(") ⨾ write_genvar_if header ⨾ name v ⨾ mark (codes "=") ⨾ write_expr start ⨾ mark (codes ";") ⨾ write_expr test ⨾ mark (codes ";") ⨾ write_step v next ⨾ mark (codes ")") ⨾ write_gen x) l
unfolding write_item write_gen write_else write_items shape-the_row-Item-0 hidden-the_row-Item-0 shape-the_row-Item-1 hidden-the_row-Item-1 shape-the_row-Gen-2 hidden-the_row-Gen-2 denote.Hole.Carrier.hidden
made_for p header v start test next x l = refl

pub made_if : (p : Place) (c : Expr) (x : Gen) (y : Option Gen) (l : List Lexeme) → write_item (it.If p c x y) l ≡ (key (codes "if") ⨾ mark (codes "(") ⨾ write_expr c ⨾ mark (codes ")") ⨾ write_gen x ⨾ maybe write_else_part y) l
unfolding write_item write_gen write_else write_items shape-the_row-Item-0 hidden-the_row-Item-0 shape-the_row-Item-1 hidden-the_row-Item-1 shape-the_row-Gen-2 hidden-the_row-Gen-2 denote.Hole.Carrier.hidden
made_if p c x None l = refl
made_if p c x (Some y) l = refl

pub made_generate : (all : List Item) (l : List Lexeme) → write_item (it.Generate all) l ≡ (key (codes "generate") ⨾ each write_item all ⨾ key (codes "endgenerate")) l
unfolding write_item write_gen write_else write_items shape-the_row-Item-0 hidden-the_row-Item-0 shape-the_row-Item-1 hidden-the_row-Item-1 shape-the_row-Gen-2 hidden-the_row-Gen-2 denote.Hole.Carrier.hidden
made_generate all l = ap (λ (f : Write). (key (codes "generate") ⨾ f ⨾ key (codes "endgenerate")) l) (rows_items all)

pub made_block : (p : Place) (b : Option Word) (all : List Item) (e : Option Word) (l : List Lexeme) → write_gen (ge.Block p b all e) l ≡ (key (codes "begin") ⨾ label b ⨾ each write_item all ⨾ key (codes "end") ⨾ label e) l
unfolding write_block_name write_item write_gen write_else write_items shape-the_row-Item-0 hidden-the_row-Item-0 shape-the_row-Item-1 hidden-the_row-Item-1 shape-the_row-Gen-2 hidden-the_row-Gen-2 denote.Hole.Carrier.hidden
made_block p None all e l = ap (λ (f : Write). (key (codes "begin") ⨾ label None ⨾ f ⨾ key (codes "end") ⨾ label e) l) (rows_items all)
made_block p (Some w) all e l = ap (λ (f : Write). (key (codes "begin") ⨾ label (Some w) ⨾ f ⨾ key (codes "end") ⨾ label e) l) (rows_items all)

pub made_single : (p : Place) (x : Item) (l : List Lexeme) → write_gen (ge.Single p x) l ≡ (write_item x) l
unfolding write_item write_gen write_else write_items shape-the_row-Item-0 hidden-the_row-Item-0 shape-the_row-Item-1 hidden-the_row-Item-1 shape-the_row-Gen-2 hidden-the_row-Gen-2 denote.Hole.Carrier.hidden
made_single p x l = refl
