-- The marks of statements as code lists them.
use Rattle.std.proofs.Common.{◌≡◌, ℕ, ◌+◌, ◌<◌, ◌≤◌, suc, Bool, List, [], ◌∷◌, ◌++◌, length, take, get_or, Option, Some, None, Result, refl, sym, ap, ◌∙◌, subst, arith, append_assoc}
use Rattle.std.proofs.lemmas.List.{append-nil, take_all}
use Rattle.std.proofs.Math.Seq.{take-suc}
use Rattle.sv_outside.specs.declared.refusal.Place.{Place}
use Rattle.sv_outside.specs.declared.refusal.TextErr.{TextErr}
use Rattle.sv_tree.specs.declared.word.Word.{Word}
use Rattle.sv_tree.specs.declared.exprs.Expr.{Expr}
use Rattle.sv_tree.specs.declared.forms.WholeWord.{WholeWord}
use Rattle.sv_tree.specs.declared.stmts.Lvalue.{Lvalue}
use Rattle.sv_tree.specs.declared.stmts.Uniq.{Uniq}
use Rattle.sv_tree.specs.declared.stmts.CaseWord.{CaseWord}
use Rattle.sv_tree.specs.declared.stmts.AssignMark.{AssignMark}
use Rattle.sv_tree.specs.declared.stmts.Step.{Step}
use Rattle.sv_tree.specs.declared.stmts.Stmt.{Stmt, end_of-Stmt, more_of-Stmt}
use Rattle.sv_tree.specs.declared.stmts.Stmt.TheVariants as st
use Rattle.sv_tree.specs.declared.stmts.Arm.TheBlock.{shape-the_row-Stmt-0, hidden-the_row-Stmt-0, shape-the_row-Stmt-1, hidden-the_row-Stmt-1, shape-the_row-Arm-2, hidden-the_row-Arm-2}
use Rattle.sv_tree.specs.declared.stmts.Arm.{Arm, Labels', Default'}
use Rattle.sv_tree.specs.declared.stmts.Arm.TheVariants as ar
use Rattle.sv_meaning.specs.Faults.{Faults}
use Rattle.sv_meaning.specs.Blocks.{marks, marks_of, marks_arms, mark_faults}
use Rattle.sv_actions.specs.Listing.{JudgesFaults, else_marks, arm_marks, faults_in}

faults_as : (f g : Faults) (r : Result Unit TextErr) → f ≡ g → JudgesFaults g r → JudgesFaults f r
faults_as f g r h j = subst (λ (z : Faults). JudgesFaults z r) (sym h) j

-- ---- rows are lists

marks_row : (c : AssignMark) (all : List Stmt) → marks_of c (hidden-the_row-Stmt-1 all) ≡ faults_in (marks c) all
unfolding marks faults_in shape-the_row-Stmt-0 hidden-the_row-Stmt-0 shape-the_row-Stmt-1 hidden-the_row-Stmt-1 shape-the_row-Arm-2 hidden-the_row-Arm-2 denote.Hole.Carrier.hidden
marks_row c [] = refl
marks_row c (x ∷ all) = ap (λ (z : Faults). marks c x ++ z) (marks_row c all)

arms_row : (c : AssignMark) (all : List Arm) → marks_arms c (hidden-the_row-Arm-2 all) ≡ faults_in (arm_marks c) all
unfolding marks faults_in shape-the_row-Stmt-0 hidden-the_row-Stmt-0 shape-the_row-Stmt-1 hidden-the_row-Stmt-1 shape-the_row-Arm-2 hidden-the_row-Arm-2 denote.Hole.Carrier.hidden
arms_row c [] = refl
arms_row c (Labels' xs r (more_of-Stmt x end_of-Stmt) ∷ all) = ap (λ (z : Faults). marks c x ++ z) (arms_row c all)
arms_row c (Default' b r (more_of-Stmt x end_of-Stmt) ∷ all) = ap (λ (z : Faults). marks c x ++ z) (arms_row c all)

-- ---- statements by their productions

pub marked_empty : (c : AssignMark) (x : Stmt) → x ≡ st.Empty → marks c x ≡ []
unfolding marks
marked_empty c x h = ap (marks c) h

pub marked_block : (c : AssignMark) (x : Stmt) (p : Place) (b : Option Word) (all given : List Stmt) (e : Option Word) (r : Result Unit TextErr) → x ≡ st.Block p b all e → given ≡ all →
    JudgesFaults (faults_in (marks c) given) r → JudgesFaults (marks c x) r
unfolding marks shape-the_row-Stmt-0 hidden-the_row-Stmt-0 shape-the_row-Stmt-1 hidden-the_row-Stmt-1 shape-the_row-Arm-2 hidden-the_row-Arm-2 denote.Hole.Carrier.hidden
marked_block c x p b all given e r h g j = faults_as _ _ r (ap (marks c) h ∙ marks_row c all ∙ ap (faults_in (marks c)) (sym g)) j

if_marks : (c : AssignMark) (u : Option Uniq) (t : Expr) (x : Stmt) (y : Option Stmt) → marks c (st.If u t x y) ≡ marks c x ++ else_marks c y
unfolding marks shape-the_row-Stmt-0 hidden-the_row-Stmt-0 shape-the_row-Stmt-1 hidden-the_row-Stmt-1 shape-the_row-Arm-2 hidden-the_row-Arm-2 denote.Hole.Carrier.hidden
if_marks c u t x None = refl
if_marks c u t x (Some y) = refl

pub marked_if : (c : AssignMark) (x : Stmt) (u : Option Uniq) (t : Expr) (y given : Stmt) (other : Option Stmt) (r : Result Unit TextErr) → x ≡ st.If u t y other → given ≡ y →
    JudgesFaults (marks c given ++ else_marks c other) r → JudgesFaults (marks c x) r
marked_if c x u t y given other r h g j = faults_as _ _ r (ap (marks c) h ∙ if_marks c u t y other ∙ ap (λ (z : Stmt). marks c z ++ else_marks c other) (sym g)) j

pub marked_case : (c : AssignMark) (x : Stmt) (u : Option Uniq) (w : CaseWord) (v : Expr) (all given : List Arm) (r : Result Unit TextErr) → x ≡ st.Case u w v all → given ≡ all →
    JudgesFaults (faults_in (arm_marks c) given) r → JudgesFaults (marks c x) r
unfolding marks shape-the_row-Stmt-0 hidden-the_row-Stmt-0 shape-the_row-Stmt-1 hidden-the_row-Stmt-1 shape-the_row-Arm-2 hidden-the_row-Arm-2 denote.Hole.Carrier.hidden
marked_case c x u w v all given r h g j = faults_as _ _ r (ap (marks c) h ∙ arms_row c all ∙ ap (faults_in (arm_marks c)) (sym g)) j

for_marks : (c : AssignMark) (p : Place) (form : WholeWord) (v : Word) (start test : Expr) (next : Step) (body : Stmt) → marks c (st.For p form v start test next body) ≡ marks c body
unfolding marks shape-the_row-Stmt-0 hidden-the_row-Stmt-0 shape-the_row-Stmt-1 hidden-the_row-Stmt-1 shape-the_row-Arm-2 hidden-the_row-Arm-2 denote.Hole.Carrier.hidden
for_marks c p form v start test next body = refl

pub marked_for : (c : AssignMark) (x : Stmt) (p : Place) (form : WholeWord) (v : Word) (start test : Expr) (next : Step) (body given : Stmt) (r : Result Unit TextErr) → x ≡ st.For p form v start test next body → given ≡ body →
    JudgesFaults (marks c given) r → JudgesFaults (marks c x) r
marked_for c x p form v start test next body given r h g j = faults_as _ _ r (ap (marks c) h ∙ for_marks c p form v start test next body ∙ ap (marks c) (sym g)) j

pub marked_assign : (c : AssignMark) (x : Stmt) (to : Lvalue) (m : AssignMark) (p : Place) (v : Expr) (r : Result Unit TextErr) → x ≡ st.Assign to m p v → JudgesFaults (mark_faults c m p) r → JudgesFaults (marks c x) r
unfolding marks
marked_assign c x to m p v r h j = faults_as _ _ r (ap (marks c) h) j

labels_marks : (c : AssignMark) (xs : List Expr) (x : Stmt) → arm_marks c (ar.Labels xs x) ≡ marks c x
unfolding shape-the_row-Stmt-0 hidden-the_row-Stmt-0 shape-the_row-Stmt-1 hidden-the_row-Stmt-1 shape-the_row-Arm-2 hidden-the_row-Arm-2 denote.Hole.Carrier.hidden
labels_marks c xs x = refl

default_marks : (c : AssignMark) (b : Bool) (x : Stmt) → arm_marks c (ar.Default b x) ≡ marks c x
unfolding shape-the_row-Stmt-0 hidden-the_row-Stmt-0 shape-the_row-Stmt-1 hidden-the_row-Stmt-1 shape-the_row-Arm-2 hidden-the_row-Arm-2 denote.Hole.Carrier.hidden
default_marks c b x = refl

pub marked_labels : (c : AssignMark) (a : Arm) (xs : List Expr) (x given : Stmt) (r : Result Unit TextErr) → a ≡ ar.Labels xs x → given ≡ x → JudgesFaults (marks c given) r → JudgesFaults (arm_marks c a) r
marked_labels c a xs x given r h g j = faults_as _ _ r (ap (arm_marks c) h ∙ labels_marks c xs x ∙ ap (marks c) (sym g)) j

pub marked_default : (c : AssignMark) (a : Arm) (b : Bool) (x given : Stmt) (r : Result Unit TextErr) → a ≡ ar.Default b x → given ≡ x → JudgesFaults (marks c given) r → JudgesFaults (arm_marks c a) r
marked_default c a b x given r h g j = faults_as _ _ r (ap (arm_marks c) h ∙ default_marks c b x ∙ ap (marks c) (sym g)) j

-- ---- lists

faults_join : {A : Type 0} (f : A → Faults) (xs ys : List A) → faults_in f (xs ++ ys) ≡ faults_in f xs ++ faults_in f ys
unfolding faults_in
faults_join f [] ys = refl
faults_join f (x ∷ xs) ys = ap (λ (z : Faults). f x ++ z) (faults_join f xs ys) ∙ sym (append_assoc (f x) (faults_in f xs) (faults_in f ys))

faults_one : {A : Type 0} (f : A → Faults) (x : A) → faults_in f (x ∷ []) ≡ f x
unfolding faults_in
faults_one f x = append-nil (f x)

take_next : {A : Type 0} (xs : List A) (i : ℕ) (x : A) → i < length xs → x ≡ get_or xs i x → take (i + 1) xs ≡ take i xs ++ x ∷ []
take_next xs i x h e = let n : i + 1 ≡ suc i = omega arith in ap (λ (k : ℕ). take k xs) n ∙ take-suc xs i x h ∙ ap (λ z. take i xs ++ z ∷ []) (sym e)

pub faults_next : {A : Type 0} (f : A → Faults) (xs : List A) (i : ℕ) (x : A) (r : Result Unit TextErr) → i < length xs → x ≡ get_or xs i x → JudgesFaults (faults_in f (take i xs) ++ f x) r → JudgesFaults (faults_in f (take (i + 1) xs)) r
faults_next f xs i x r h e j = faults_as _ _ r (ap (faults_in f) (take_next xs i x h e) ∙ faults_join f (take i xs) (x ∷ []) ∙ ap (λ (z : Faults). faults_in f (take i xs) ++ z) (faults_one f x)) j

pub faults_none : {A : Type 0} (f : A → Faults) → faults_in f [] ≡ []
unfolding faults_in
faults_none f = refl

pub faults_all : {A : Type 0} (f : A → Faults) (xs : List A) (i : ℕ) (r : Result Unit TextErr) → length xs ≤ i → JudgesFaults (faults_in f (take i xs)) r → JudgesFaults (faults_in f xs) r
faults_all f xs i r h j = faults_as _ _ r (ap (faults_in f) (sym (take_all i xs h))) j
