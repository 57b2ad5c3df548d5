-- Statements by their productions, as code lists their parts.
use Rattle.std.proofs.Common.{◌≡◌, ℕ, suc, ◌+◌, ◌≤◌, Bool, true, false, not, List, [], ◌∷◌, ◌++◌, map, Option, Some, None, Result, Ok, Err, refl, sym, ap, ◌∙◌, subst, arith, append_assoc, length, take, drop, get_or, ◌<◌}
use Rattle.std.proofs.lemmas.Bool.Decides.{nat_tests}
use Rattle.std.proofs.lemmas.List.{append-nil, take_all, at_drop_more, at_drop_all, take-append-drop}
use Rattle.std.specs.Result.{IfOk}
use Rattle.std.specs.List.{AllZip, AllByRecursion}
use Rattle.std.proofs.lemmas.List.Elements.{recursion_from_All}
use Rattle.fourvec.specs.declared.Bit.{Bit}
use Rattle.sv_outside.specs.declared.refusal.Place.{Place}
use Rattle.sv_outside.specs.declared.refusal.TextErr.{TextErr}
use Rattle.sv_outside.specs.declared.refusal.TextErr.TheVariants.{No, Memory}
use Rattle.sv_tree.specs.declared.word.Word.{Word}
use Rattle.sv_tree.specs.declared.exprs.Expr.{Expr}
use Rattle.sv_tree.specs.declared.forms.WholeWord.{WholeWord}
use Rattle.sv_tree.specs.declared.stmts.Lvalue.{Lvalue, Name as LvName, Concat'}
use Rattle.sv_tree.specs.declared.stmts.Uniq.{Uniq}
use Rattle.sv_tree.specs.declared.stmts.CaseWord.{CaseWord}
use Rattle.sv_tree.specs.declared.stmts.AssignMark.{AssignMark}
use Rattle.sv_tree.specs.declared.stmts.Step.{Step}
use Rattle.sv_tree.specs.declared.stmts.Stmt.{Stmt, end_of-Stmt, more_of-Stmt}
use Rattle.sv_tree.specs.declared.stmts.Stmt.TheVariants as st
use Rattle.sv_tree.specs.declared.stmts.Arm.TheBlock.{shape-the_row-Stmt-0, hidden-the_row-Stmt-0, shape-the_row-Stmt-1, hidden-the_row-Stmt-1, shape-the_row-Arm-2, hidden-the_row-Arm-2}
use Rattle.sv_tree.specs.declared.stmts.Arm.{Arm, Labels', Default'}
use Rattle.sv_tree.specs.declared.stmts.Arm.TheVariants as ar
use Rattle.sv_meaning.specs.Faults.{Faults, Judged, fault_if, or_then}
use Rattle.sv_meaning.specs.Layouts as m
use Rattle.sv_meaning.specs.Layouts.{Scope, constant_scope}
use Rattle.sv_meaning.specs.Meanings.{Meaning, free_faults, is_width}
use Rattle.sv_meaning.specs.Values.{mean}
use Rattle.sv_meaning.specs.Targets.{Target, targets, targets_of, widths, wide_target, lvalue_faults, all_lvalue_faults}
use Rattle.sv_meaning.specs.Deeds.{Deed, CaseArm, deed, deeds, arms, idle, after, assign, if_else, case_of, is_casez, in_turn, in_turns, one_turn, turns, turn_faults, with_index, labels_of, all_faults}
use Rattle.sv_typed.specs.declared.tree.Pick.{Pick}
use Rattle.sv_typed.specs.Typed.{PickIsSound, picked_width}
use Rattle.sv_names.specs.declared.names.Names.{Names}
use Rattle.sv_names.specs.Kinds.{entries_are}
use Rattle.sv_names.specs.Names.{names_are, stack_of, fronts, fronts_above, loops_of}
use Rattle.sv_typing.specs.Judging.{IsCause}
use Rattle.sv_typing.proofs.Lists.{in_left, in_right, in_first, in_second, contains_both, then_clear, second_clear}
use Rattle.sv_typing.proofs.Judged.{cause_from}
use Rattle.sv_loops.specs.Answers.{Gives}
use Rattle.sv_targets.specs.declared.targets.TypedTarget.{TypedTarget}
use Rattle.sv_targets.specs.Targets.{StandsFor, AreTargets, JudgesTargets, width_of_all}
use Rattle.sv_targets.proofs.Targeting.{widths_are}
use Rattle.sv_actions.specs.declared.action.Action.{Action}
use Rattle.sv_actions.specs.declared.statements.Acted.{Acted}
use Rattle.sv_actions.specs.declared.arms.ActedArms.{ActedArms}
use Rattle.sv_actions.specs.Typing.{Does, IsActed, JudgesDeed}
use Rattle.sv_actions.specs.Listing.{in_order, all_deeds, else_deed, turn_deed, arm_of, all_arms, rest_of, AreArms, JudgesArms, arms_faults, bodies}
use Rattle.sv_actions.proofs.Orders.{order_next, order_all, order_none, order_join, joint, joint_in, stands, take_next}
use Rattle.sv_actions.proofs.Casing.{faults_join, labels_join}

judged_as : (d e : Deed) (made : ℕ) (r : Result Acted TextErr) → d ≡ e → JudgesDeed e made r → JudgesDeed d made r
judged_as d e made r h j = subst (λ (x : Deed). JudgesDeed x made r) (sym h) j

-- ---- names that are as before

pub names_kept : (a b : Names) → stack_of b ≡ stack_of a → loops_of b ≡ loops_of a → names_are b ≡ names_are a
names_kept a b f l = λ i. record { all = entries_are (fronts (f i) ++ l i); above = entries_are (fronts_above (f i) ++ l i) }

pub at_names : (f : Scope → Deed) (a b : Names) (n made : ℕ) (r : Result Acted TextErr) → stack_of b ≡ stack_of a → loops_of b ≡ loops_of a → n ≡ made → JudgesDeed (f (names_are b)) n r → JudgesDeed (f (names_are a)) made r
at_names f a b n made r h l e j = subst (λ (at : Scope). JudgesDeed (f at) made r) (names_kept a b h l) (subst (λ (k : ℕ). JudgesDeed (f (names_are b)) k r) e j)

pub arms_at : (front : List CaseArm) (x : Arm) (a b : Names) (made : ℕ) (r : Result ActedArms TextErr) → stack_of b ≡ stack_of a → loops_of b ≡ loops_of a → JudgesArms (front ++ arm_of (names_are b) x) made r → JudgesArms (front ++ arm_of (names_are a) x) made r
arms_at front x a b made r h l j = subst (λ (at : Scope). JudgesArms (front ++ arm_of at x) made r) (names_kept a b h l) j

-- ---- rows are lists

deeds_row : (at : Scope) (all : List Stmt) → deeds (hidden-the_row-Stmt-1 all) at ≡ all_deeds at all
unfolding deed in_order shape-the_row-Stmt-0 hidden-the_row-Stmt-0 shape-the_row-Stmt-1 hidden-the_row-Stmt-1 shape-the_row-Arm-2 hidden-the_row-Arm-2 denote.Hole.Carrier.hidden
deeds_row at [] = refl
deeds_row at (x ∷ all) = ap (after (deed x at)) (deeds_row at all)

arms_row : (at : Scope) (all : List Arm) → arms (hidden-the_row-Arm-2 all) at ≡ (all_arms at all, rest_of at all)
unfolding deed all_arms rest_of shape-the_row-Stmt-0 hidden-the_row-Stmt-0 shape-the_row-Stmt-1 hidden-the_row-Stmt-1 shape-the_row-Arm-2 hidden-the_row-Arm-2 denote.Hole.Carrier.hidden
arms_row at [] = refl
arms_row at (Labels' xs r (more_of-Stmt x end_of-Stmt) ∷ all) =
    ap (λ (p : List CaseArm × Deed). (record { labels = map (mean at) xs; body = deed x at } ∷ p.0, p.1)) (arms_row at all)
arms_row at (Default' b r (more_of-Stmt x end_of-Stmt) ∷ all) = ap (λ (p : List CaseArm × Deed). (p.0, deed x at)) (arms_row at all)

-- ---- productions

empty_is : (at : Scope) → deed st.Empty at ≡ idle
unfolding deed
empty_is at = refl

pub done_empty : (at : Scope) (x : Stmt) (made : ℕ) (r : Result Acted TextErr) → x ≡ st.Empty → JudgesDeed idle made r → JudgesDeed (deed x at) made r
done_empty at x made r h j = judged_as (deed x at) idle made r (ap (λ (y : Stmt). deed y at) h ∙ empty_is at) j

block_is : (at : Scope) (p : Place) (b : Option Word) (all : List Stmt) (e : Option Word) → deed (st.Block p b all e) at ≡ all_deeds at all
unfolding deed shape-the_row-Stmt-0 hidden-the_row-Stmt-0 shape-the_row-Stmt-1 hidden-the_row-Stmt-1 shape-the_row-Arm-2 hidden-the_row-Arm-2 denote.Hole.Carrier.hidden
block_is at p b all e = deeds_row at all

pub done_block : (at : Scope) (x : Stmt) (p : Place) (b : Option Word) (all given : List Stmt) (e : Option Word) (made : ℕ) (r : Result Acted TextErr) → x ≡ st.Block p b all e → given ≡ all →
    JudgesDeed (all_deeds at given) made r → JudgesDeed (deed x at) made r
done_block at x p b all given e made r h g j = judged_as (deed x at) (all_deeds at given) made r (ap (λ (y : Stmt). deed y at) h ∙ block_is at p b all e ∙ ap (all_deeds at) (sym g)) j

if_is : (at : Scope) (u : Option Uniq) (t : Expr) (x : Stmt) (y : Option Stmt) → deed (st.If u t x y) at ≡ if_else (mean at t) (deed x at) (else_deed at y)
unfolding deed shape-the_row-Stmt-0 hidden-the_row-Stmt-0 shape-the_row-Stmt-1 hidden-the_row-Stmt-1 shape-the_row-Arm-2 hidden-the_row-Arm-2 denote.Hole.Carrier.hidden
if_is at u t x None = refl
if_is at u t x (Some y) = refl

pub done_if : (at : Scope) (x : Stmt) (u : Option Uniq) (t : Expr) (y given : Stmt) (other : Option Stmt) (made : ℕ) (r : Result Acted TextErr) → x ≡ st.If u t y other → given ≡ y →
    JudgesDeed (if_else (mean at t) (deed given at) (else_deed at other)) made r → JudgesDeed (deed x at) made r
done_if at x u t y given other made r h g j =
    judged_as (deed x at) (if_else (mean at t) (deed given at) (else_deed at other)) made r (ap (λ (y : Stmt). deed y at) h ∙ if_is at u t y other ∙ ap (λ (z : Stmt). if_else (mean at t) (deed z at) (else_deed at other)) (sym g)) j

case_is : (at : Scope) (u : Option Uniq) (w : CaseWord) (v : Expr) (all : List Arm) → deed (st.Case u w v all) at ≡ case_of (is_casez w) (mean at v) (all_arms at all, rest_of at all)
unfolding deed shape-the_row-Stmt-0 hidden-the_row-Stmt-0 shape-the_row-Stmt-1 hidden-the_row-Stmt-1 shape-the_row-Arm-2 hidden-the_row-Arm-2 denote.Hole.Carrier.hidden
case_is at u w v all = ap (case_of (is_casez w) (mean at v)) (arms_row at all)

pub done_case : (at : Scope) (x : Stmt) (u : Option Uniq) (w : CaseWord) (v : Expr) (all one two : List Arm) (z : Bool) (made : ℕ) (r : Result Acted TextErr) → x ≡ st.Case u w v all → one ≡ all → two ≡ all → z ≡ is_casez w →
    JudgesDeed (case_of z (mean at v) (all_arms at one, rest_of at two)) made r → JudgesDeed (deed x at) made r
done_case at x u w v all one two z made r h f g e j =
    judged_as (deed x at) (case_of z (mean at v) (all_arms at one, rest_of at two)) made r
    (ap (λ (y : Stmt). deed y at) h ∙ case_is at u w v all ∙ (λ i. case_of (sym e i) (mean at v) (all_arms at (sym f i), rest_of at (sym g i)))) j

for_is : (at : Scope) (p : Place) (form : WholeWord) (v : Word) (start test : Expr) (next : Step) (body : Stmt) →
    deed (st.For p form v start test next body) at ≡ in_turns p (λ bits. deed body (with_index at v.text bits)) (turns p (constant_scope at) v.text start test next)
unfolding deed shape-the_row-Stmt-0 hidden-the_row-Stmt-0 shape-the_row-Stmt-1 hidden-the_row-Stmt-1 shape-the_row-Arm-2 hidden-the_row-Arm-2 denote.Hole.Carrier.hidden
for_is at p form v start test next body = refl

turns_is : (p : Place) (f : List Bit → Deed) (all : List (List Bit)) → in_turn p f all ≡ in_order (λ bits. one_turn p (f bits)) all
unfolding in_turn in_order
turns_is p f [] = refl
turns_is p f (bits ∷ all) = ap (after (one_turn p (f bits))) (turns_is p f all)

gone : (p : Place) (f : List Bit → Deed) (j : Judged (List (List Bit))) (all : List (List Bit)) → Gives j (Ok all) → in_turns p f j ≡ in_order (λ bits. one_turn p (f bits)) all
gone p f (Ok x) all h = turns_is p f x ∙ ap (in_order (λ bits. one_turn p (f bits))) h
gone p f (Err why) all h = absurd h

pub done_for : (at : Scope) (x : Stmt) (p : Place) (form : WholeWord) (v : Word) (start test : Expr) (next : Step) (body given : Stmt) (values slice : List (List Bit)) (made : ℕ) (r : Result Acted TextErr) → x ≡ st.For p form v start test next body → given ≡ body → slice ≡ values →
    Gives (turns p (constant_scope at) v.text start test next) (Ok values) → JudgesDeed (in_order (turn_deed at p v.text given) slice) made r → JudgesDeed (deed x at) made r
done_for at x p form v start test next body given values slice made r h g s k j =
    judged_as (deed x at) (in_order (turn_deed at p v.text given) slice) made r
    (ap (λ (y : Stmt). deed y at) h ∙ for_is at p form v start test next body ∙ gone p (λ bits. deed body (with_index at v.text bits)) (turns p (constant_scope at) v.text start test next) values k
    ∙ (λ i. in_order (turn_deed at p v.text (sym g i)) (sym s i))) j

lost : (p : Place) (f : List Bit → Deed) (j : Judged (List (List Bit))) (made : ℕ) (e : TextErr) → Gives j (Err e) → JudgesDeed (in_turns p f j) made (Err e)
lost p f (Ok x) made (No r) h = absurd h
lost p f (Ok x) made Memory h = tt
lost p f (Err all) made (No r) h = in_left all [] r h
lost p f (Err all) made Memory h = tt

pub for_refused : (at : Scope) (x : Stmt) (p : Place) (form : WholeWord) (v : Word) (start test : Expr) (next : Step) (body : Stmt) (made : ℕ) (e : TextErr) → x ≡ st.For p form v start test next body →
    Gives (turns p (constant_scope at) v.text start test next) (Err e) → JudgesDeed (deed x at) made (Err e)
for_refused at x p form v start test next body made e h k =
    judged_as (deed x at) (in_turns p (λ bits. deed body (with_index at v.text bits)) (turns p (constant_scope at) v.text start test next)) made (Err e) (ap (λ (y : Stmt). deed y at) h ∙ for_is at p form v start test next body)
    (lost p (λ bits. deed body (with_index at v.text bits)) (turns p (constant_scope at) v.text start test next) made e k)

assign_is : (at : Scope) (to : Lvalue) (m : AssignMark) (p : Place) (v : Expr) → deed (st.Assign to m p v) at ≡ assign (targets at at to) (lvalue_faults free_faults at at to) (mean at v)
unfolding deed
assign_is at to m p v = refl

pub done_assign : (at : Scope) (x : Stmt) (to : Lvalue) (m : AssignMark) (p : Place) (v : Expr) (made : ℕ) (r : Result Acted TextErr) → x ≡ st.Assign to m p v →
    JudgesDeed (assign (targets at at to) (lvalue_faults free_faults at at to) (mean at v)) made r → JudgesDeed (deed x at) made r
done_assign at x to m p v made r h j = judged_as (deed x at) (assign (targets at at to) (lvalue_faults free_faults at at to) (mean at v)) made r (ap (λ (y : Stmt). deed y at) h ∙ assign_is at to m p v) j

-- ---- arms

arm_labels : (at : Scope) (xs : List Expr) (x : Stmt) → arm_of at (ar.Labels xs x) ≡ record { labels = map (mean at) xs; body = deed x at } ∷ []
unfolding shape-the_row-Stmt-0 hidden-the_row-Stmt-0 shape-the_row-Stmt-1 hidden-the_row-Stmt-1 shape-the_row-Arm-2 hidden-the_row-Arm-2 denote.Hole.Carrier.hidden
arm_labels at xs x = refl

arm_default : (at : Scope) (b : Bool) (x : Stmt) → arm_of at (ar.Default b x) ≡ []
unfolding shape-the_row-Stmt-0 hidden-the_row-Stmt-0 shape-the_row-Stmt-1 hidden-the_row-Stmt-1 shape-the_row-Arm-2 hidden-the_row-Arm-2 denote.Hole.Carrier.hidden
arm_default at b x = refl

arms_as : (a b : List CaseArm) (made : ℕ) (r : Result ActedArms TextErr) → a ≡ b → JudgesArms b made r → JudgesArms a made r
arms_as a b made r h j = subst (λ (x : List CaseArm). JudgesArms x made r) (sym h) j

pub done_labels : (at : Scope) (a : Arm) (front : List CaseArm) (xs one : List Expr) (x two : Stmt) (made : ℕ) (r : Result ActedArms TextErr) → a ≡ ar.Labels xs x → one ≡ xs → two ≡ x →
    JudgesArms (front ++ record { labels = map (mean at) one; body = deed two at } ∷ []) made r → JudgesArms (front ++ arm_of at a) made r
done_labels at a front xs one x two made r h f g j =
    arms_as (front ++ arm_of at a) (front ++ record { labels = map (mean at) one; body = deed two at } ∷ []) made r
    (ap (λ (y : Arm). front ++ arm_of at y) h ∙ ap (λ (y : List CaseArm). front ++ y) (arm_labels at xs x) ∙ (λ i. front ++ record { labels = map (mean at) (sym f i); body = deed (sym g i) at } ∷ [])) j

pub done_default : (at : Scope) (a : Arm) (front : List CaseArm) (b : Bool) (x : Stmt) (made : ℕ) (found : ActedArms) → a ≡ ar.Default b x → AreArms front made found → AreArms (front ++ arm_of at a) made found
done_default at a front b x made found h j =
    subst (λ (y : List CaseArm). AreArms y made found) (sym (ap (λ (y : Arm). front ++ arm_of at y) h ∙ ap (λ (y : List CaseArm). front ++ y) (arm_default at b x) ∙ append-nil front)) j

-- ---- lists of arms

arms_join : (at : Scope) (xs ys : List Arm) → all_arms at (xs ++ ys) ≡ all_arms at xs ++ all_arms at ys
unfolding all_arms
arms_join at [] ys = refl
arms_join at (x ∷ xs) ys = ap (λ (z : List CaseArm). arm_of at x ++ z) (arms_join at xs ys) ∙ sym (append_assoc (arm_of at x) (all_arms at xs) (all_arms at ys))

arms_one : (at : Scope) (x : Arm) → all_arms at (x ∷ []) ≡ arm_of at x
unfolding all_arms
arms_one at x = append-nil (arm_of at x)

pub arms_begin : (at : Scope) (made : ℕ) (x : ActedArms) → AreArms [] made x → AreArms (all_arms at []) made x
unfolding all_arms
arms_begin at made x h = h

pub arms_next : (at : Scope) (all : List Arm) (i : ℕ) (x : Arm) (made : ℕ) (r : Result ActedArms TextErr) → i < length all → x ≡ get_or all i x → JudgesArms (all_arms at (take i all) ++ arm_of at x) made r → JudgesArms (all_arms at (take (i + 1) all)) made r
arms_next at all i x made r h e j =
    arms_as (all_arms at (take (i + 1) all)) (all_arms at (take i all) ++ arm_of at x) made r (ap (all_arms at) (take_next all i x h e) ∙ arms_join at (take i all) (x ∷ []) ∙ ap (λ (z : List CaseArm). all_arms at (take i all) ++ z) (arms_one at x)) j

pub arms_end : (at : Scope) (all : List Arm) (i : ℕ) (made : ℕ) (x : ActedArms) → length all ≤ i → AreArms (all_arms at (take i all)) made x → AreArms (all_arms at all) made x
arms_end at all i made x h j = subst (λ (z : List Arm). AreArms (all_arms at z) made x) (take_all i all h) j

front_cause : (xs ys : List CaseArm) (made : ℕ) (e : TextErr) → IsCause (arms_faults xs made) e → IsCause (arms_faults (xs ++ ys) made) e
front_cause xs ys made e h =
    let L = ap all_faults (labels_join xs ys) ∙ faults_join (labels_of xs) (labels_of ys) in
    let B = order_join (λ (x : CaseArm). x.body) xs ys in
    subst (λ (z : Faults). IsCause z e) (λ i. sym L i ++ stands (sym B i) made)
    (cause_from (arms_faults xs made) ((all_faults (labels_of xs) ++ all_faults (labels_of ys)) ++ joint (bodies xs) (bodies ys) made) (λ r.
    contains_both (all_faults (labels_of xs)) (stands (bodies xs) made) (all_faults (labels_of xs) ++ all_faults (labels_of ys)) (joint (bodies xs) (bodies ys) made) r (in_left (all_faults (labels_of xs)) (all_faults (labels_of ys)) r) (joint_in (bodies xs) (bodies ys) made r)) e h)

pub arms_cause : (at : Scope) (all : List Arm) (i : ℕ) (made : ℕ) (e : TextErr) → IsCause (arms_faults (all_arms at (take i all)) made) e → IsCause (arms_faults (all_arms at all) made) e
arms_cause at all i made e h =
    subst (λ (z : List CaseArm). IsCause (arms_faults z made) e) (sym (arms_join at (take i all) (drop i all)) ∙ ap (all_arms at) (take-append-drop i all)) (front_cause (all_arms at (take i all)) (all_arms at (drop i all)) made e h)

-- ---- the default

rest_labels : (at : Scope) (xs : List Expr) (x : Stmt) (more : List Arm) → rest_of at (ar.Labels xs x ∷ more) ≡ rest_of at more
unfolding rest_of shape-the_row-Stmt-0 hidden-the_row-Stmt-0 shape-the_row-Stmt-1 hidden-the_row-Stmt-1 shape-the_row-Arm-2 hidden-the_row-Arm-2 denote.Hole.Carrier.hidden
rest_labels at xs x more = refl

rest_default : (at : Scope) (b : Bool) (x : Stmt) (more : List Arm) → rest_of at (ar.Default b x ∷ more) ≡ deed x at
unfolding rest_of shape-the_row-Stmt-0 hidden-the_row-Stmt-0 shape-the_row-Stmt-1 hidden-the_row-Stmt-1 shape-the_row-Arm-2 hidden-the_row-Arm-2 denote.Hole.Carrier.hidden
rest_default at b x more = refl

rest_none : (at : Scope) → rest_of at [] ≡ idle
unfolding rest_of
rest_none at = refl

rest_here : (at : Scope) (all : List Arm) (i : ℕ) (x : Arm) → i < length all → x ≡ get_or all i x → rest_of at (drop i all) ≡ rest_of at (x ∷ drop (i + 1) all)
rest_here at all i x h e = at_drop_more (rest_of at) all i x h ∙ ap (λ (y : Arm). rest_of at (y ∷ drop (i + 1) all)) (sym e)

-- an arm with labels is passed by
pub rest_passed : (at : Scope) (all : List Arm) (i : ℕ) (x : Arm) (xs : List Expr) (b : Stmt) → i < length all → x ≡ get_or all i x → x ≡ ar.Labels xs b → rest_of at all ≡ rest_of at (drop i all) → rest_of at all ≡ rest_of at (drop (i + 1) all)
rest_passed at all i x xs b h e k r = r ∙ rest_here at all i x h e ∙ ap (λ (y : Arm). rest_of at (y ∷ drop (i + 1) all)) k ∙ rest_labels at xs b (drop (i + 1) all)

pub rest_found : (at : Scope) (all : List Arm) (i : ℕ) (x : Arm) (c : Bool) (b given : Stmt) (made : ℕ) (r : Result Acted TextErr) → i < length all → x ≡ get_or all i x → x ≡ ar.Default c b → given ≡ b → rest_of at all ≡ rest_of at (drop i all) →
    JudgesDeed (deed given at) made r → JudgesDeed (rest_of at all) made r
rest_found at all i x c b given made r h e k g q j =
    judged_as (rest_of at all) (deed given at) made r
    (q ∙ rest_here at all i x h e ∙ ap (λ (y : Arm). rest_of at (y ∷ drop (i + 1) all)) k ∙ rest_default at c b (drop (i + 1) all) ∙ ap (λ (y : Stmt). deed y at) (sym g)) j

pub rest_absent : (at : Scope) (all : List Arm) (i : ℕ) (made : ℕ) (x : Acted) → length all ≤ i → rest_of at all ≡ rest_of at (drop i all) → IsActed idle made x → IsActed (rest_of at all) made x
rest_absent at all i made x h q j = subst (λ (d : Deed). IsActed d made x) (sym (q ∙ at_drop_all (rest_of at) all i h ∙ rest_none at)) j

-- ---- lists of statements and turns

pub order_begin : {A : Type 0} (f : A → Deed) (made : ℕ) (x : Acted) → IsActed idle made x → IsActed (in_order f []) made x
order_begin f made x h = subst (λ (d : Deed). IsActed d made x) (sym (order_none f)) h

pub order_goes : {A : Type 0} (f : A → Deed) (xs : List A) (i : ℕ) (x : A) (made : ℕ) (r : Result Acted TextErr) → i < length xs → x ≡ get_or xs i x → JudgesDeed (after (in_order f (take i xs)) (f x)) made r → JudgesDeed (in_order f (take (i + 1) xs)) made r
order_goes f xs i x made r h e j = judged_as (in_order f (take (i + 1) xs)) (after (in_order f (take i xs)) (f x)) made r (order_next f xs i x h e) j

pub order_ends : {A : Type 0} (f : A → Deed) (xs : List A) (i : ℕ) (made : ℕ) (x : Acted) → length xs ≤ i → IsActed (in_order f (take i xs)) made x → IsActed (in_order f xs) made x
order_ends f xs i made x h j = subst (λ (d : Deed). IsActed d made x) (order_all f xs i h) j

pub arms_ok : (all : List CaseArm) (made : ℕ) (r : Result ActedArms TextErr) (x : ActedArms) → r ≡ Ok x → JudgesArms all made r → AreArms all made x
arms_ok all made r x e h = subst (JudgesArms all made) e h

pub arms_err : (all : List CaseArm) (made : ℕ) (r : Result ActedArms TextErr) (e : TextErr) → r ≡ Err e → JudgesArms all made r → IsCause (arms_faults all made) e
arms_err all made r e q h = subst (JudgesArms all made) q h

-- ---- one turn

does_turn : (p : Place) (d : Deed) (xs : List Action) → Does xs d → Does xs (one_turn p d)
does_turn p d xs h = record { run = h.run; writes = h.writes; names = h.names; fits = h.fits }

pub turn_made : (p : Place) (d : Deed) (made n : ℕ) (r : Result Acted TextErr) → turn_faults p made ≡ [] → n ≡ made + 1 → JudgesDeed d n r → JudgesDeed (one_turn p d) made r
turn_made p d made n (Ok x) c e h =
    let s : n ≡ suc made = omega arith in
    record {
      clear = h.clear;
      turned = then_clear (turn_faults p made) (d.overrun (suc made)) c (subst (λ (k : ℕ). d.overrun k ≡ []) s h.turned);
      made = let q = h.made in omega arith;
      does = does_turn p d x.actions h.does;
    }
turn_made p d made n (Err why) c e h =
    let s : n ≡ suc made = omega arith in
    cause_from (stands d (suc made)) (d.faults ++ or_then (turn_faults p made) (d.overrun (suc made))) (λ r. contains_both d.faults (d.overrun (suc made)) d.faults (or_then (turn_faults p made) (d.overrun (suc made))) r (λ k. k) (in_second (turn_faults p made) (d.overrun (suc made)) r c)) why
    (subst (λ (k : ℕ). IsCause (stands d k) why) s h)

pub turn_refused : (p : Place) (d : Deed) (made : ℕ) (e : TextErr) → IsCause (turn_faults p made) e → IsCause (stands (one_turn p d) made) e
turn_refused p d made e h =
    cause_from (turn_faults p made) (d.faults ++ or_then (turn_faults p made) (d.overrun (suc made))) (λ r q. in_right d.faults (or_then (turn_faults p made) (d.overrun (suc made))) r (in_first (turn_faults p made) (d.overrun (suc made)) r q)) e h

-- ---- targets have some bits

pub wide_by : (picks : List Pick) (w : ℕ) → AllByRecursion PickIsSound picks → 1 ≤ w → 1 ≤ picked_width picks w
unfolding picked_width PickIsSound
wide_by [] w h k = k
wide_by (p ∷ more) w h k = wide_by more p.width h.1 h.0.0.0

some_one : (judge : Meaning → Faults) (x : TypedTarget) (t : Target) → StandsFor judge x t → 1 ≤ x.width
some_one judge x t h =
    let w = wide_by x.picks (m.width t.layout) (recursion_from_All PickIsSound x.picks h.follows.sound) (subst (λ (n : ℕ). 1 ≤ n) (sym h.whole) h.some) in
    subst (λ (n : ℕ). 1 ≤ n) (h.follows.width ∙ h.width) w

width_true : (n : ℕ) → is_width n ≡ true → 1 ≤ n
width_true n h = grind (arith, nat_tests)

no_fault_then : (b : Bool) (n : ℕ) (p : Place) → fault_if (not b) n p ≡ [] → b ≡ true
no_fault_then true n p h = refl
no_fault_then false n p h = cc

one_width : (judge : Meaning → Faults) (all : List TypedTarget) (t : Target) → AllZip (StandsFor judge) all (t ∷ []) → 1 ≤ width_of_all all
unfolding width_of_all
one_width judge [] t h = absurd h
one_width judge (x ∷ all) t h = let w = some_one judge x t h.0 in omega arith

some_width : (judge : Meaning → Faults) (index at : Scope) (x : Lvalue) (all : List TypedTarget) → AreTargets judge (lvalue_faults judge index at x) (targets index at x) all → 1 ≤ width_of_all all
unfolding targets lvalue_faults
some_width judge index at (LvName w steps) all h = one_width judge all _ h.stand
some_width judge index at (Concat' p s row) all h =
    let c = second_clear (all_lvalue_faults judge index at row) (wide_target p (targets_of index at row)) h.clear in
    let n = width_true (widths (targets_of index at row)) (no_fault_then (is_width (widths (targets_of index at row))) _ p c) in
    subst (λ (k : ℕ). 1 ≤ k) (widths_are judge all (targets_of index at row) h.stand) n

pub targets_some : (judge : Meaning → Faults) (index at : Scope) (x : Lvalue) (r : Result (List TypedTarget) TextErr) → JudgesTargets judge (lvalue_faults judge index at x) (targets index at x) r → IfOk r (λ all. 1 ≤ width_of_all all)
targets_some judge index at x (Ok all) h = some_width judge index at x all h
targets_some judge index at x (Err e) h = tt
