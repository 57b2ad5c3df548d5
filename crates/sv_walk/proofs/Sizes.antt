-- Sizes of items, which the walk goes down.
use Rattle.std.proofs.Common.{◌≡◌, ℕ, zero, suc, ◌+◌, ◌*◌, ◌<◌, List, [], ◌∷◌, length, get_or, Bool, Option, Some, None, refl, ap, ◌∙◌, arith}
use mathlib.Core.Former.{Count}
use Rattle.sv_outside.specs.declared.refusal.Place.{Place}
use Rattle.sv_tree.specs.declared.word.Word.{Word}
use Rattle.sv_tree.specs.declared.exprs.Expr.{Expr}
use Rattle.sv_tree.specs.declared.stmts.Step.{Step}
use Rattle.sv_tree.specs.declared.design.Item.{Item, Net, Variable, Typedef, Param, Genvar, Assign, Always, Inst, For', If', Generate', Row_of-Item, end_of-Item, more_of-Item, end_of-Gen, more_of-Gen, Held-Item-If-3, None', Some'}
use Rattle.sv_tree.specs.declared.design.Item.TheVariants as it
use Rattle.sv_tree.specs.declared.design.Gen.{Gen, Block', Single'}
use Rattle.sv_tree.specs.declared.design.Gen.TheVariants as ge
use Rattle.sv_tree.specs.declared.design.Gen.TheBlock.{shape-the_row-Item-0, hidden-the_row-Item-0, shape-the_row-Item-1, hidden-the_row-Item-1, shape-the_row-Gen-2, hidden-the_row-Gen-2}

unfoldable mutual
  pub item_size : Item → ℕ
  item_size (Net w t names) = 0
  item_size (Variable t names) = 0
  item_size (Typedef d) = 0
  item_size (Param p) = 0
  item_size (Genvar names) = 0
  item_size (Assign all) = 0
  item_size (Always b) = 0
  item_size (Inst i) = 0
  item_size (Generate' s all) = suc (row_size all)
  item_size (For' p header v start test next r (more_of-Gen x end_of-Gen)) = suc (gen_size x)
  item_size (If' p c r (more_of-Gen x end_of-Gen) other) = suc (gen_size x + held_size other)

  pub row_size : {m : Count} → Row_of-Item m → ℕ
  row_size end_of-Item = 0
  row_size (more_of-Item x all) = suc (item_size x + row_size all)

  pub gen_size : Gen → ℕ
  gen_size (Block' p label s all e) = suc (row_size all)
  gen_size (Single' p r (more_of-Item x end_of-Item)) = suc (item_size x)

  pub held_size : Held-Item-If-3 → ℕ
  held_size None' = 0
  held_size (Some' r (more_of-Gen x end_of-Gen)) = gen_size x

unfoldable pub list_size : List Item → ℕ
list_size [] = 0
list_size (x ∷ more) = suc (item_size x + list_size more)

unfoldable pub else_size : Option Gen → ℕ
else_size None = 0
else_size (Some x) = gen_size x

row_is : (all : List Item) → row_size (hidden-the_row-Item-0 all) ≡ list_size all
unfolding item_size list_size shape-the_row-Item-0 hidden-the_row-Item-0 shape-the_row-Item-1 hidden-the_row-Item-1 shape-the_row-Gen-2 hidden-the_row-Gen-2 denote.Hole.Carrier.hidden
row_is [] = refl
row_is (x ∷ all) = ap (λ (n : ℕ). suc (item_size x + n)) (row_is all)

region_is : (all : List Item) → item_size (it.Generate all) ≡ suc (list_size all)
unfolding item_size shape-the_row-Item-0 hidden-the_row-Item-0 shape-the_row-Item-1 hidden-the_row-Item-1 shape-the_row-Gen-2 hidden-the_row-Gen-2 denote.Hole.Carrier.hidden
region_is all = ap suc (row_is all)

loop_is : (p : Place) (header : Bool) (v : Word) (start test : Expr) (next : Step) (x : Gen) → item_size (it.For p header v start test next x) ≡ suc (gen_size x)
unfolding item_size shape-the_row-Item-0 hidden-the_row-Item-0 shape-the_row-Item-1 hidden-the_row-Item-1 shape-the_row-Gen-2 hidden-the_row-Gen-2 denote.Hole.Carrier.hidden
loop_is p header v start test next x = refl

choice_is : (p : Place) (c : Expr) (x : Gen) (other : Option Gen) → item_size (it.If p c x other) ≡ suc (gen_size x + else_size other)
unfolding item_size else_size shape-the_row-Item-0 hidden-the_row-Item-0 shape-the_row-Item-1 hidden-the_row-Item-1 shape-the_row-Gen-2 hidden-the_row-Gen-2 denote.Hole.Carrier.hidden
choice_is p c x None = refl
choice_is p c x (Some y) = refl

block_is : (p : Place) (b : Option Word) (all : List Item) (e : Option Word) → gen_size (ge.Block p b all e) ≡ suc (list_size all)
unfolding item_size shape-the_row-Item-0 hidden-the_row-Item-0 shape-the_row-Item-1 hidden-the_row-Item-1 shape-the_row-Gen-2 hidden-the_row-Gen-2 denote.Hole.Carrier.hidden
block_is p b all e = ap suc (row_is all)

single_is : (p : Place) (x : Item) → gen_size (ge.Single p x) ≡ suc (item_size x)
unfolding item_size shape-the_row-Item-0 hidden-the_row-Item-0 shape-the_row-Item-1 hidden-the_row-Item-1 shape-the_row-Gen-2 hidden-the_row-Gen-2 denote.Hole.Carrier.hidden
single_is p x = refl

one_less : (all : List Item) (i : ℕ) (x : Item) → i < length all → x ≡ get_or all i x → item_size x < list_size all
unfolding list_size
one_less [] i x h e = absurd (omega arith)
one_less (y ∷ all) zero x h e = let g = ap item_size e in omega arith
one_less (y ∷ all) (suc i) x h e = let g = one_less all i x (omega arith) e in omega arith

-- ---- what is walked inside is smaller

pub item_less : (all : List Item) (i : ℕ) (x : Item) (n : ℕ) → i < length all → x ≡ get_or all i x → 2 * list_size all + 1 ≡ n → 2 * item_size x < n
item_less all i x n h e k = let g = one_less all i x h e in omega arith

pub region_less : (x : Item) (all now : List Item) (n : ℕ) → x ≡ it.Generate all → now ≡ all → 2 * item_size x ≡ n → 2 * list_size now + 1 < n
region_less x all now n e h k = let g = ap item_size e ∙ region_is all in let j = ap list_size h in omega arith

pub loop_less : (x : Item) (p : Place) (header : Bool) (v : Word) (start test : Expr) (next : Step) (body now : Gen) (n : ℕ) → x ≡ it.For p header v start test next body → now ≡ body → 2 * item_size x ≡ n → 2 * gen_size now + 1 < n
loop_less x p header v start test next body now n e h k = let g = ap item_size e ∙ loop_is p header v start test next body in let j = ap gen_size h in omega arith

pub choice_less : (x : Item) (p : Place) (c : Expr) (body : Gen) (other : Option Gen) (now : Gen) (n : ℕ) → x ≡ it.If p c body other → now ≡ body → 2 * item_size x ≡ n → 2 * (gen_size now + else_size other) + 1 < n
choice_less x p c body other now n e h k = let g = ap item_size e ∙ choice_is p c body other in let j = ap gen_size h in omega arith

pub block_less : (x : Gen) (p : Place) (b : Option Word) (all : List Item) (e : Option Word) (now : List Item) (n : ℕ) → x ≡ ge.Block p b all e → now ≡ all → 2 * gen_size x ≡ n → 2 * list_size now + 1 < n
block_less x p b all e now n i h k = let g = ap gen_size i ∙ block_is p b all e in let j = ap list_size h in omega arith

pub single_less : (x : Gen) (p : Place) (item now : Item) (n : ℕ) → x ≡ ge.Single p item → now ≡ item → 2 * gen_size x ≡ n → 2 * item_size now < n
single_less x p item now n e h k = let g = ap gen_size e ∙ single_is p item in let j = ap item_size h in omega arith

pub other_less : (x : Gen) (other : Option Gen) (y now : Gen) (n : ℕ) → other ≡ Some y → now ≡ y → 2 * (gen_size x + else_size other) + 1 ≡ n → 2 * gen_size now < n
unfolding else_size
other_less x other y now n e h k = let g = ap else_size e in let j = ap gen_size h in omega arith

pub inner_less : (x : Gen) (q : Place) (item at : Item) (p : Place) (c : Expr) (body : Gen) (other : Option Gen) (now : Gen) (n : ℕ) → x ≡ ge.Single q item → at ≡ item → at ≡ it.If p c body other → now ≡ body →
    2 * gen_size x ≡ n → 2 * (gen_size now + else_size other) + 1 < n
inner_less x q item at p c body other now n e i h j k =
    let f = ap gen_size e ∙ single_is q item in
    let g = ap item_size i in
    let a = ap item_size h ∙ choice_is p c body other in
    let b = ap gen_size j in
    omega arith
