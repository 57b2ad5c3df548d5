-- The first marks of statements as code lists them.
use Rattle.std.proofs.Common.{◌≡◌, ℕ, ◌+◌, ◌<◌, ◌≤◌, suc, Bool, List, [], ◌∷◌, ◌++◌, length, take, get_or, Option, Some, None, refl, sym, ap, ◌∙◌, arith}
use Rattle.std.proofs.lemmas.List.{take_all}
use Rattle.std.proofs.Math.Seq.{take-suc}
use Rattle.sv_outside.specs.declared.refusal.Place.{Place}
use Rattle.sv_tree.specs.declared.word.Word.{Word}
use Rattle.sv_tree.specs.declared.exprs.Expr.{Expr}
use Rattle.sv_tree.specs.declared.forms.WholeWord.{WholeWord}
use Rattle.sv_tree.specs.declared.stmts.Lvalue.{Lvalue}
use Rattle.sv_tree.specs.declared.stmts.Uniq.{Uniq}
use Rattle.sv_tree.specs.declared.stmts.CaseWord.{CaseWord}
use Rattle.sv_tree.specs.declared.stmts.AssignMark.{AssignMark}
use Rattle.sv_tree.specs.declared.stmts.Step.{Step}
use Rattle.sv_tree.specs.declared.stmts.Stmt.{Stmt, end_of-Stmt, more_of-Stmt}
use Rattle.sv_tree.specs.declared.stmts.Stmt.TheVariants as st
use Rattle.sv_tree.specs.declared.stmts.Arm.TheBlock.{shape-the_row-Stmt-0, hidden-the_row-Stmt-0, shape-the_row-Stmt-1, hidden-the_row-Stmt-1, shape-the_row-Arm-2, hidden-the_row-Arm-2}
use Rattle.sv_tree.specs.declared.stmts.Arm.{Arm, Labels', Default'}
use Rattle.sv_tree.specs.declared.stmts.Arm.TheVariants as ar
use Rattle.sv_meaning.specs.Blocks.{earlier, first_mark, first_mark_of, first_mark_arms}
use Rattle.sv_actions.specs.Listing.{else_mark, arm_mark, first_in}

-- ---- rows are lists

first_row : (all : List Stmt) → first_mark_of (hidden-the_row-Stmt-1 all) ≡ first_in first_mark all
unfolding first_mark first_in shape-the_row-Stmt-0 hidden-the_row-Stmt-0 shape-the_row-Stmt-1 hidden-the_row-Stmt-1 shape-the_row-Arm-2 hidden-the_row-Arm-2 denote.Hole.Carrier.hidden
first_row [] = refl
first_row (x ∷ all) = ap (λ (z : Option AssignMark). earlier (first_mark x) z) (first_row all)

first_arms_row : (all : List Arm) → first_mark_arms (hidden-the_row-Arm-2 all) ≡ first_in arm_mark all
unfolding first_mark first_in shape-the_row-Stmt-0 hidden-the_row-Stmt-0 shape-the_row-Stmt-1 hidden-the_row-Stmt-1 shape-the_row-Arm-2 hidden-the_row-Arm-2 denote.Hole.Carrier.hidden
first_arms_row [] = refl
first_arms_row (Labels' xs r (more_of-Stmt x end_of-Stmt) ∷ all) = ap (λ (z : Option AssignMark). earlier (first_mark x) z) (first_arms_row all)
first_arms_row (Default' b r (more_of-Stmt x end_of-Stmt) ∷ all) = ap (λ (z : Option AssignMark). earlier (first_mark x) z) (first_arms_row all)

-- ---- statements by their productions

pub first_empty : (x : Stmt) → x ≡ st.Empty → None ≡ first_mark x
unfolding first_mark
first_empty x h = sym (ap first_mark h)

pub first_block : (x : Stmt) (p : Place) (b : Option Word) (all given : List Stmt) (e : Option Word) (m : Option AssignMark) → x ≡ st.Block p b all e → given ≡ all → m ≡ first_in first_mark given → m ≡ first_mark x
unfolding first_mark shape-the_row-Stmt-0 hidden-the_row-Stmt-0 shape-the_row-Stmt-1 hidden-the_row-Stmt-1 shape-the_row-Arm-2 hidden-the_row-Arm-2 denote.Hole.Carrier.hidden
first_block x p b all given e m h g j = j ∙ ap (first_in first_mark) g ∙ sym (first_row all) ∙ sym (ap first_mark h)

if_first : (u : Option Uniq) (t : Expr) (x : Stmt) (y : Option Stmt) → first_mark (st.If u t x y) ≡ earlier (first_mark x) (else_mark y)
unfolding first_mark shape-the_row-Stmt-0 hidden-the_row-Stmt-0 shape-the_row-Stmt-1 hidden-the_row-Stmt-1 shape-the_row-Arm-2 hidden-the_row-Arm-2 denote.Hole.Carrier.hidden
if_first u t x None = refl
if_first u t x (Some y) = refl

pub first_if : (x : Stmt) (u : Option Uniq) (t : Expr) (y given : Stmt) (other : Option Stmt) (m : Option AssignMark) → x ≡ st.If u t y other → given ≡ y → m ≡ earlier (first_mark given) (else_mark other) → m ≡ first_mark x
first_if x u t y given other m h g j = j ∙ ap (λ (z : Stmt). earlier (first_mark z) (else_mark other)) g ∙ sym (if_first u t y other) ∙ sym (ap first_mark h)

pub first_case : (x : Stmt) (u : Option Uniq) (w : CaseWord) (v : Expr) (all given : List Arm) (m : Option AssignMark) → x ≡ st.Case u w v all → given ≡ all → m ≡ first_in arm_mark given → m ≡ first_mark x
unfolding first_mark shape-the_row-Stmt-0 hidden-the_row-Stmt-0 shape-the_row-Stmt-1 hidden-the_row-Stmt-1 shape-the_row-Arm-2 hidden-the_row-Arm-2 denote.Hole.Carrier.hidden
first_case x u w v all given m h g j = j ∙ ap (first_in arm_mark) g ∙ sym (first_arms_row all) ∙ sym (ap first_mark h)

for_first : (p : Place) (form : WholeWord) (v : Word) (start test : Expr) (next : Step) (body : Stmt) → first_mark (st.For p form v start test next body) ≡ first_mark body
unfolding first_mark shape-the_row-Stmt-0 hidden-the_row-Stmt-0 shape-the_row-Stmt-1 hidden-the_row-Stmt-1 shape-the_row-Arm-2 hidden-the_row-Arm-2 denote.Hole.Carrier.hidden
for_first p form v start test next body = refl

pub first_for : (x : Stmt) (p : Place) (form : WholeWord) (v : Word) (start test : Expr) (next : Step) (body given : Stmt) (m : Option AssignMark) → x ≡ st.For p form v start test next body → given ≡ body → m ≡ first_mark given → m ≡ first_mark x
first_for x p form v start test next body given m h g j = j ∙ ap first_mark g ∙ sym (for_first p form v start test next body) ∙ sym (ap first_mark h)

pub first_assign : (x : Stmt) (to : Lvalue) (m : AssignMark) (p : Place) (v : Expr) → x ≡ st.Assign to m p v → Some m ≡ first_mark x
unfolding first_mark
first_assign x to m p v h = sym (ap first_mark h)

pub first_else : (x given : Stmt) (other : Option Stmt) (m : Option AssignMark) → other ≡ Some x → given ≡ x → m ≡ first_mark given → m ≡ else_mark other
first_else x given other m h g j = j ∙ ap first_mark g ∙ sym (ap else_mark h)

labels_first : (xs : List Expr) (x : Stmt) → arm_mark (ar.Labels xs x) ≡ first_mark x
unfolding shape-the_row-Stmt-0 hidden-the_row-Stmt-0 shape-the_row-Stmt-1 hidden-the_row-Stmt-1 shape-the_row-Arm-2 hidden-the_row-Arm-2 denote.Hole.Carrier.hidden
labels_first xs x = refl

default_first : (b : Bool) (x : Stmt) → arm_mark (ar.Default b x) ≡ first_mark x
unfolding shape-the_row-Stmt-0 hidden-the_row-Stmt-0 shape-the_row-Stmt-1 hidden-the_row-Stmt-1 shape-the_row-Arm-2 hidden-the_row-Arm-2 denote.Hole.Carrier.hidden
default_first b x = refl

pub first_labels : (a : Arm) (xs : List Expr) (x given : Stmt) (m : Option AssignMark) → a ≡ ar.Labels xs x → given ≡ x → m ≡ first_mark given → m ≡ arm_mark a
first_labels a xs x given m h g j = j ∙ ap first_mark g ∙ sym (labels_first xs x) ∙ sym (ap arm_mark h)

pub first_default : (a : Arm) (b : Bool) (x given : Stmt) (m : Option AssignMark) → a ≡ ar.Default b x → given ≡ x → m ≡ first_mark given → m ≡ arm_mark a
first_default a b x given m h g j = j ∙ ap first_mark g ∙ sym (default_first b x) ∙ sym (ap arm_mark h)

-- ---- lists

earlier_none : (a : Option AssignMark) → earlier a None ≡ a
earlier_none None = refl
earlier_none (Some m) = refl

earlier_on : (a b d : Option AssignMark) → earlier a (earlier b d) ≡ earlier (earlier a b) d
earlier_on None b d = refl
earlier_on (Some m) b d = refl

first_join : {A : Type 0} (f : A → Option AssignMark) (xs ys : List A) → first_in f (xs ++ ys) ≡ earlier (first_in f xs) (first_in f ys)
unfolding first_in
first_join f [] ys = refl
first_join f (x ∷ xs) ys = ap (λ (z : Option AssignMark). earlier (f x) z) (first_join f xs ys) ∙ earlier_on (f x) (first_in f xs) (first_in f ys)

first_one : {A : Type 0} (f : A → Option AssignMark) (x : A) → first_in f (x ∷ []) ≡ f x
unfolding first_in
first_one f x = earlier_none (f x)

take_next : {A : Type 0} (xs : List A) (i : ℕ) (x : A) → i < length xs → x ≡ get_or xs i x → take (i + 1) xs ≡ take i xs ++ x ∷ []
take_next xs i x h e = let n : i + 1 ≡ suc i = omega arith in ap (λ (k : ℕ). take k xs) n ∙ take-suc xs i x h ∙ ap (λ z. take i xs ++ z ∷ []) (sym e)

pub first_next : {A : Type 0} (f : A → Option AssignMark) (xs : List A) (i : ℕ) (x : A) (found part m : Option AssignMark) → i < length xs → x ≡ get_or xs i x → m ≡ earlier found part → found ≡ first_in f (take i xs) → part ≡ f x → m ≡ first_in f (take (i + 1) xs)
first_next f xs i x found part m h e j g k =
    j ∙ ap (λ (z : Option AssignMark). earlier z part) g ∙ ap (λ (z : Option AssignMark). earlier (first_in f (take i xs)) z) (k ∙ sym (first_one f x)) ∙ sym (first_join f (take i xs) (x ∷ [])) ∙ sym (ap (first_in f) (take_next xs i x h e))

pub first_none : {A : Type 0} (f : A → Option AssignMark) → None ≡ first_in f []
unfolding first_in
first_none f = refl

pub first_all : {A : Type 0} (f : A → Option AssignMark) (xs : List A) (i : ℕ) (m : Option AssignMark) → length xs ≤ i → m ≡ first_in f (take i xs) → m ≡ first_in f xs
first_all f xs i m h j = j ∙ ap (first_in f) (take_all i xs h)
