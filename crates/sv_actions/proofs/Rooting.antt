-- The signals that targets name, by lists as code has them.
use Rattle.std.proofs.Common.{◌≡◌, ℕ, ◌+◌, ◌<◌, ◌≤◌, Bool, List, [], ◌∷◌, ◌++◌, length, take, get_or, Option, Some, None, Result, Ok, Err, refl, sym, ap, ◌∙◌, append_assoc}
use Rattle.std.proofs.lemmas.List.{append-nil, take_all}
use Rattle.sv_outside.specs.declared.refusal.Place.{Place}
use Rattle.sv_tree.specs.declared.word.Word.{Word}
use Rattle.sv_tree.specs.declared.exprs.Expr.{Expr}
use Rattle.sv_tree.specs.declared.exprs.Select.{Select}
use Rattle.sv_tree.specs.declared.forms.WholeWord.{WholeWord}
use Rattle.sv_tree.specs.declared.stmts.Lvalue.{Lvalue, Name}
use Rattle.sv_tree.specs.declared.stmts.Lvalue.TheVariants as lv
use Rattle.sv_tree.specs.declared.stmts.Lvalue.TheBlock.{shape-the_row-Lvalue-0, hidden-the_row-Lvalue-0}
use Rattle.sv_tree.specs.declared.stmts.Uniq.{Uniq}
use Rattle.sv_tree.specs.declared.stmts.CaseWord.{CaseWord}
use Rattle.sv_tree.specs.declared.stmts.AssignMark.{AssignMark}
use Rattle.sv_tree.specs.declared.stmts.Step.{Step}
use Rattle.sv_tree.specs.declared.stmts.Stmt.{Stmt, Empty, Assign, end_of-Stmt, more_of-Stmt}
use Rattle.sv_tree.specs.declared.stmts.Stmt.TheVariants as st
use Rattle.sv_tree.specs.declared.stmts.Arm.TheBlock.{shape-the_row-Stmt-0, hidden-the_row-Stmt-0, shape-the_row-Stmt-1, hidden-the_row-Stmt-1, shape-the_row-Arm-2, hidden-the_row-Arm-2}
use Rattle.sv_tree.specs.declared.stmts.Arm.{Arm, Labels', Default'}
use Rattle.sv_tree.specs.declared.stmts.Arm.TheVariants as ar
use Rattle.sv_meaning.specs.Layouts.{Name as Text, Scope, find, NamedSignal}
use Rattle.std.specs.Prelude.{OnOk}
use Rattle.sv_actions.specs.Texts.{signal_of, root_signals, all_root_signals, target_signals, signals_in, arms_signals, of_each, other_signals, arm_signals}
use Rattle.sv_actions.proofs.Orders.{take_next}

abbrev pub Signals : Type 0
Signals = List NamedSignal

pub ok_tail : {T E : Type 0} (r : Result T E) (after before xs ys : Signals) → xs ≡ ys → OnOk r (after ≡ before ++ xs) → OnOk r (after ≡ before ++ ys)
ok_tail (Ok x) after before xs ys e h = h ∙ ap (λ zs. before ++ zs) e
ok_tail (Err x) after before xs ys e h = tt

-- ---- rows are lists

roots_row : (at : Scope) (all : List Lvalue) → all_root_signals at (hidden-the_row-Lvalue-0 all) ≡ of_each (root_signals at) all
unfolding root_signals of_each shape-the_row-Lvalue-0 hidden-the_row-Lvalue-0 denote.Hole.Carrier.hidden
roots_row at [] = refl
roots_row at (x ∷ all) = ap (λ (z : Signals). root_signals at x ++ z) (roots_row at all)

signals_row : (at : Scope) (all : List Stmt) → signals_in at (hidden-the_row-Stmt-1 all) ≡ of_each (target_signals at) all
unfolding target_signals of_each shape-the_row-Stmt-0 hidden-the_row-Stmt-0 shape-the_row-Stmt-1 hidden-the_row-Stmt-1 shape-the_row-Arm-2 hidden-the_row-Arm-2 denote.Hole.Carrier.hidden
signals_row at [] = refl
signals_row at (x ∷ all) = ap (λ (z : Signals). target_signals at x ++ z) (signals_row at all)

arms_row : (at : Scope) (all : List Arm) → arms_signals at (hidden-the_row-Arm-2 all) ≡ of_each (arm_signals at) all
unfolding target_signals of_each shape-the_row-Stmt-0 hidden-the_row-Stmt-0 shape-the_row-Stmt-1 hidden-the_row-Stmt-1 shape-the_row-Arm-2 hidden-the_row-Arm-2 denote.Hole.Carrier.hidden
arms_row at [] = refl
arms_row at (Labels' xs r (more_of-Stmt x end_of-Stmt) ∷ all) = ap (λ (z : Signals). target_signals at x ++ z) (arms_row at all)
arms_row at (Default' b r (more_of-Stmt x end_of-Stmt) ∷ all) = ap (λ (z : Signals). target_signals at x ++ z) (arms_row at all)

-- ---- targets

pub root_name : (at : Scope) (x : Lvalue) (w : Word) (all : List Select) (given : Text) → x ≡ lv.Name w all → given ≡ w.text → signal_of (find given at) ≡ root_signals at x
unfolding root_signals
root_name at x w all given h g = ap (λ n. signal_of (find n at)) g ∙ sym (ap (root_signals at) h)

pub root_concat : (at : Scope) (x : Lvalue) (p : Place) (all given : List Lvalue) → x ≡ lv.Concat p all → given ≡ all → of_each (root_signals at) given ≡ root_signals at x
unfolding root_signals shape-the_row-Lvalue-0 hidden-the_row-Lvalue-0 denote.Hole.Carrier.hidden
root_concat at x p all given h g = ap (of_each (root_signals at)) g ∙ sym (ap (root_signals at) h ∙ roots_row at all)

-- ---- statements by their productions

pub of_empty : (at : Scope) (x : Stmt) (before : Signals) → x ≡ st.Empty → before ≡ before ++ target_signals at x
unfolding target_signals
of_empty at x before h = sym (ap (λ y. before ++ target_signals at y) h ∙ append-nil before)

pub of_block : (at : Scope) (x : Stmt) (p : Place) (b : Option Word) (all given : List Stmt) (e : Option Word) → x ≡ st.Block p b all e → given ≡ all → of_each (target_signals at) given ≡ target_signals at x
unfolding target_signals shape-the_row-Stmt-0 hidden-the_row-Stmt-0 shape-the_row-Stmt-1 hidden-the_row-Stmt-1 shape-the_row-Arm-2 hidden-the_row-Arm-2 denote.Hole.Carrier.hidden
of_block at x p b all given e h g = ap (of_each (target_signals at)) g ∙ sym (ap (target_signals at) h ∙ signals_row at all)

if_signals : (at : Scope) (u : Option Uniq) (t : Expr) (x : Stmt) (y : Option Stmt) → target_signals at (st.If u t x y) ≡ target_signals at x ++ other_signals at y
unfolding target_signals shape-the_row-Stmt-0 hidden-the_row-Stmt-0 shape-the_row-Stmt-1 hidden-the_row-Stmt-1 shape-the_row-Arm-2 hidden-the_row-Arm-2 denote.Hole.Carrier.hidden
if_signals at u t x None = refl
if_signals at u t x (Some y) = refl

pub of_if : {T E : Type 0} (r : Result T E) (at : Scope) (x : Stmt) (u : Option Uniq) (t : Expr) (y given : Stmt) (other : Option Stmt) (before mid after : Signals) → x ≡ st.If u t y other → given ≡ y
    → mid ≡ before ++ target_signals at given → OnOk r (after ≡ mid ++ other_signals at other) → OnOk r (after ≡ before ++ target_signals at x)
of_if (Ok z) at x u t y given other before mid after h g k m =
    m ∙ ap (λ (z : Signals). z ++ other_signals at other) k ∙ append_assoc before (target_signals at given) (other_signals at other)
    ∙ ap (λ (z : Stmt). before ++ (target_signals at z ++ other_signals at other)) g ∙ sym (ap (λ (z : Signals). before ++ z) (ap (target_signals at) h ∙ if_signals at u t y other))
of_if (Err z) at x u t y given other before mid after h g k m = tt

pub of_two : (at : Scope) (x : Stmt) (u : Option Uniq) (t : Expr) (y given : Stmt) (other : Option Stmt) → x ≡ st.If u t y other → given ≡ y → target_signals at given ++ other_signals at other ≡ target_signals at x
of_two at x u t y given other h g = ap (λ (z : Stmt). target_signals at z ++ other_signals at other) g ∙ sym (ap (target_signals at) h ∙ if_signals at u t y other)

pub of_case : (at : Scope) (x : Stmt) (u : Option Uniq) (w : CaseWord) (v : Expr) (all given : List Arm) → x ≡ st.Case u w v all → given ≡ all → of_each (arm_signals at) given ≡ target_signals at x
unfolding target_signals shape-the_row-Stmt-0 hidden-the_row-Stmt-0 shape-the_row-Stmt-1 hidden-the_row-Stmt-1 shape-the_row-Arm-2 hidden-the_row-Arm-2 denote.Hole.Carrier.hidden
of_case at x u w v all given h g = ap (of_each (arm_signals at)) g ∙ sym (ap (target_signals at) h ∙ arms_row at all)

for_signals : (at : Scope) (p : Place) (form : WholeWord) (v : Word) (start test : Expr) (next : Step) (body : Stmt) → target_signals at (st.For p form v start test next body) ≡ target_signals at body
unfolding target_signals shape-the_row-Stmt-0 hidden-the_row-Stmt-0 shape-the_row-Stmt-1 hidden-the_row-Stmt-1 shape-the_row-Arm-2 hidden-the_row-Arm-2 denote.Hole.Carrier.hidden
for_signals at p form v start test next body = refl

pub of_for : (at : Scope) (x : Stmt) (p : Place) (form : WholeWord) (v : Word) (start test : Expr) (next : Step) (body given : Stmt) → x ≡ st.For p form v start test next body → given ≡ body → target_signals at given ≡ target_signals at x
of_for at x p form v start test next body given h g = ap (target_signals at) g ∙ sym (ap (target_signals at) h ∙ for_signals at p form v start test next body)

pub of_assign : (at : Scope) (x : Stmt) (to : Lvalue) (m : AssignMark) (p : Place) (v : Expr) → x ≡ st.Assign to m p v → root_signals at to ≡ target_signals at x
unfolding target_signals
of_assign at x to m p v h = sym (ap (target_signals at) h)

pub of_other : (at : Scope) (o : Option Stmt) (y given : Stmt) → o ≡ Some y → given ≡ y → target_signals at given ≡ other_signals at o
of_other at o y given h g = ap (target_signals at) g ∙ sym (ap (other_signals at) h)

pub of_no_other : (at : Scope) (o : Option Stmt) (before : Signals) → o ≡ None → before ≡ before ++ other_signals at o
of_no_other at o before h = sym (ap (λ y. before ++ other_signals at y) h ∙ append-nil before)

labels_signals : (at : Scope) (xs : List Expr) (x : Stmt) → arm_signals at (ar.Labels xs x) ≡ target_signals at x
unfolding shape-the_row-Stmt-0 hidden-the_row-Stmt-0 shape-the_row-Stmt-1 hidden-the_row-Stmt-1 shape-the_row-Arm-2 hidden-the_row-Arm-2 denote.Hole.Carrier.hidden
labels_signals at xs x = refl

default_signals : (at : Scope) (b : Bool) (x : Stmt) → arm_signals at (ar.Default b x) ≡ target_signals at x
unfolding shape-the_row-Stmt-0 hidden-the_row-Stmt-0 shape-the_row-Stmt-1 hidden-the_row-Stmt-1 shape-the_row-Arm-2 hidden-the_row-Arm-2 denote.Hole.Carrier.hidden
default_signals at b x = refl

pub of_labels : (at : Scope) (a : Arm) (xs : List Expr) (x given : Stmt) → a ≡ ar.Labels xs x → given ≡ x → target_signals at given ≡ arm_signals at a
of_labels at a xs x given h g = ap (target_signals at) g ∙ sym (ap (arm_signals at) h ∙ labels_signals at xs x)

pub of_default : (at : Scope) (a : Arm) (b : Bool) (x given : Stmt) → a ≡ ar.Default b x → given ≡ x → target_signals at given ≡ arm_signals at a
of_default at a b x given h g = ap (target_signals at) g ∙ sym (ap (arm_signals at) h ∙ default_signals at b x)

-- ---- lists

each_push : {A : Type 0} (f : A → Signals) (front : List A) (x : A) → of_each f (front ++ x ∷ []) ≡ of_each f front ++ f x
unfolding of_each
each_push f [] x = append-nil (f x)
each_push f (y ∷ front) x = ap (λ (z : Signals). f y ++ z) (each_push f front x) ∙ sym (append_assoc (f y) (of_each f front) (f x))

pub each_begin : {A : Type 0} (f : A → Signals) (xs : List A) (before : Signals) → before ≡ before ++ of_each f (take 0 xs)
unfolding of_each
each_begin f xs before = sym (append-nil before)

pub each_more : {A : Type 0} (f : A → Signals) (xs : List A) (i : ℕ) (x : A) (before mid after : Signals) → i < length xs → x ≡ get_or xs i x → mid ≡ before ++ of_each f (take i xs) → after ≡ mid ++ f x → after ≡ before ++ of_each f (take (i + 1) xs)
each_more f xs i x before mid after l e h k =
    k ∙ ap (λ (z : Signals). z ++ f x) h ∙ append_assoc before (of_each f (take i xs)) (f x) ∙ ap (λ (z : Signals). before ++ z) (sym (ap (of_each f) (take_next xs i x l e) ∙ each_push f (take i xs) x))

pub each_end : {A : Type 0} (f : A → Signals) (xs : List A) (i : ℕ) (before after : Signals) → length xs ≤ i → after ≡ before ++ of_each f (take i xs) → after ≡ before ++ of_each f xs
each_end f xs i before after l h = h ∙ ap (λ zs. before ++ of_each f zs) (take_all i xs l)
