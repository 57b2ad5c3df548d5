-- Actuals as targets, and lists of them.
use Rattle.std.proofs.Common.{◌≡◌, ℕ, zero, suc, ◌≤◌, ◌<◌, List, [], ◌∷◌, ◌++◌, length, take, drop, get_or, map, Result, refl, sym, ap, ◌∙◌, subst, arith, append_assoc}
use Rattle.std.proofs.lemmas.List.{append-nil, take_all}
use Rattle.std.proofs.Math.Seq.{take-suc}
use Rattle.std.specs.List.{Contains}
use Rattle.sv_outside.specs.declared.refusal.Place.{Place}
use Rattle.sv_outside.specs.declared.refusal.TextErr.{TextErr}
use Rattle.sv_tree.specs.declared.word.Word.{Word}
use Rattle.sv_tree.specs.declared.exprs.Sign.{Sign}
use Rattle.sv_tree.specs.declared.exprs.SystemName.{SystemName}
use Rattle.sv_tree.specs.declared.exprs.UnaryOp.{UnaryOp}
use Rattle.sv_tree.specs.declared.exprs.BinaryOp.{BinaryOp}
use Rattle.sv_tree.specs.declared.exprs.Select.{Select}
use Rattle.sv_tree.specs.declared.exprs.Expr.{Expr}
use Rattle.sv_tree.specs.declared.exprs.Expr.TheVariants as e
use Rattle.sv_tree.specs.declared.exprs.Expr.TheBlock.{shape-the_row-Select-0, hidden-the_row-Select-0, shape-the_row-Expr-2, hidden-the_row-Expr-2}
use Rattle.sv_meaning.specs.Faults.{Faults, or_then, fault, bad_target}
use Rattle.sv_meaning.specs.Layouts as m
use Rattle.sv_meaning.specs.Meanings.{Meaning, fixed_faults}
use Rattle.sv_meaning.specs.Values.{step}
use Rattle.sv_meaning.specs.Targets.{target_of, target_faults, wide_target}
use Rattle.sv_meaning.specs.Designs.{as_targets, all_as_targets, part_faults, all_part_faults}
use Rattle.sv_typing.specs.Judging.{IsCause}
use Rattle.sv_typing.proofs.OfRules.{cause_left}
use Rattle.sv_typing.proofs.Made.{steps_list}
use Rattle.sv_targets.specs.declared.targets.TypedTarget.{TypedTarget}
use Rattle.sv_targets.specs.Targets.{AreTargets, JudgesTargets, actual_list_faults, actual_list_targets, no_target}
use Rattle.sv_targets.proofs.Targeting.{targets_as}

-- ---- actuals as code makes them

pub actual_name_targets : (index at : m.Scope) (w : Word) (all : List Select) → as_targets index at (e.Name w all) ≡ target_of (m.find w.text at) (map (step index) all) ∷ []
unfolding as_targets shape-the_row-Select-0 hidden-the_row-Select-0 denote.Hole.Carrier.hidden
actual_name_targets index at w all = ap (λ z. target_of (m.find w.text at) z ∷ []) (steps_list index all)

pub actual_name_faults : (q : Place) (index at : m.Scope) (w : Word) (all : List Select) → part_faults q index at (e.Name w all) ≡ target_faults fixed_faults q w (m.find w.text at) (map (step index) all)
unfolding part_faults shape-the_row-Select-0 hidden-the_row-Select-0 denote.Hole.Carrier.hidden
actual_name_faults q index at w all = ap (target_faults fixed_faults q w (m.find w.text at)) (steps_list index all)

targets_row : (index at : m.Scope) (all : List Expr) → all_as_targets index at (hidden-the_row-Expr-2 all) ≡ actual_list_targets index at all
unfolding as_targets actual_list_targets shape-the_row-Expr-2 hidden-the_row-Expr-2 denote.Hole.Carrier.hidden
targets_row index at [] = refl
targets_row index at (x ∷ all) = ap (λ z. as_targets index at x ++ z) (targets_row index at all)

faults_row : (q : Place) (index at : m.Scope) (all : List Expr) → all_part_faults q index at (hidden-the_row-Expr-2 all) ≡ actual_list_faults q index at all
unfolding part_faults actual_list_faults shape-the_row-Expr-2 hidden-the_row-Expr-2 denote.Hole.Carrier.hidden
faults_row q index at [] = refl
faults_row q index at (x ∷ all) = ap (λ z. part_faults q index at x ++ z) (faults_row q index at all)

pub actual_concat_targets : (index at : m.Scope) (p : Place) (all : List Expr) → as_targets index at (e.Concat p all) ≡ actual_list_targets index at all
unfolding as_targets shape-the_row-Expr-2 hidden-the_row-Expr-2 denote.Hole.Carrier.hidden
actual_concat_targets index at p all = targets_row index at all

pub actual_concat_faults : (q : Place) (index at : m.Scope) (p : Place) (all : List Expr) → part_faults q index at (e.Concat p all) ≡ or_then (actual_list_faults q index at all) (wide_target p (actual_list_targets index at all))
unfolding part_faults shape-the_row-Expr-2 hidden-the_row-Expr-2 denote.Hole.Carrier.hidden
actual_concat_faults q index at p all = ap (λ z. or_then z (wide_target p (all_as_targets index at (hidden-the_row-Expr-2 all)))) (faults_row q index at all) ∙ ap (λ z. or_then (actual_list_faults q index at all) (wide_target p z)) (targets_row index at all)

-- ---- what is no target

refused : (q : Place) (index at : m.Scope) (x : Expr) (v : TextErr) → part_faults q index at x ≡ fault bad_target q → v ≡ no_target q → IsCause (part_faults q index at x) v
refused q index at x v h g = subst (IsCause (part_faults q index at x)) (sym g) (subst (λ (f : Faults). Contains f (record { number = bad_target; place = q; count = 0 })) (sym h) (0, omega arith, refl))

plain : Place → Expr → Type 0
plain q x = (index at : m.Scope) → part_faults q index at x ≡ fault bad_target q

refused_as : (q : Place) (index at : m.Scope) (x y : Expr) (v : TextErr) → x ≡ y → plain q y → v ≡ no_target q → IsCause (part_faults q index at x) v
unfolding plain
refused_as q index at x y v h p g = refused q index at x v (subst (plain q) (sym h) p index at) g

pub no_literal : (q : Place) (index at : m.Scope) (x : Expr) (w : Word) (v : TextErr) → x ≡ e.Literal w → v ≡ no_target q → IsCause (part_faults q index at x) v
unfolding part_faults plain
no_literal q index at x w v h g = refused_as q index at x (e.Literal w) v h (λ i a. refl) g

pub no_paren : (q : Place) (index at : m.Scope) (x : Expr) (p : Place) (y : Expr) (v : TextErr) → x ≡ e.Paren p y → v ≡ no_target q → IsCause (part_faults q index at x) v
unfolding part_faults plain
no_paren q index at x p y v h g = refused_as q index at x (e.Paren p y) v h (λ i a. refl) g

pub no_repeat : (q : Place) (index at : m.Scope) (x : Expr) (p : Place) (n : Expr) (all : List Expr) (v : TextErr) → x ≡ e.Repeat p n all → v ≡ no_target q → IsCause (part_faults q index at x) v
unfolding part_faults plain
no_repeat q index at x p n all v h g = refused_as q index at x (e.Repeat p n all) v h (λ i a. refl) g

pub no_cast_literal : (q : Place) (index at : m.Scope) (x : Expr) (w : Word) (y : Expr) (v : TextErr) → x ≡ e.CastLiteral w y → v ≡ no_target q → IsCause (part_faults q index at x) v
unfolding part_faults plain
no_cast_literal q index at x w y v h g = refused_as q index at x (e.CastLiteral w y) v h (λ i a. refl) g

pub no_cast_name : (q : Place) (index at : m.Scope) (x : Expr) (w : Word) (y : Expr) (v : TextErr) → x ≡ e.CastName w y → v ≡ no_target q → IsCause (part_faults q index at x) v
unfolding part_faults plain
no_cast_name q index at x w y v h g = refused_as q index at x (e.CastName w y) v h (λ i a. refl) g

pub no_cast_paren : (q : Place) (index at : m.Scope) (x : Expr) (p : Place) (n y : Expr) (v : TextErr) → x ≡ e.CastParen p n y → v ≡ no_target q → IsCause (part_faults q index at x) v
unfolding part_faults plain
no_cast_paren q index at x p n y v h g = refused_as q index at x (e.CastParen p n y) v h (λ i a. refl) g

pub no_cast_sign : (q : Place) (index at : m.Scope) (x : Expr) (s : Sign) (p : Place) (y : Expr) (v : TextErr) → x ≡ e.CastSign s p y → v ≡ no_target q → IsCause (part_faults q index at x) v
unfolding part_faults plain
no_cast_sign q index at x s p y v h g = refused_as q index at x (e.CastSign s p y) v h (λ i a. refl) g

pub no_system : (q : Place) (index at : m.Scope) (x : Expr) (f : SystemName) (p : Place) (y : Expr) (v : TextErr) → x ≡ e.System f p y → v ≡ no_target q → IsCause (part_faults q index at x) v
unfolding part_faults plain
no_system q index at x f p y v h g = refused_as q index at x (e.System f p y) v h (λ i a. refl) g

pub no_unary : (q : Place) (index at : m.Scope) (x : Expr) (op : UnaryOp) (p : Place) (y : Expr) (v : TextErr) → x ≡ e.Unary op p y → v ≡ no_target q → IsCause (part_faults q index at x) v
unfolding part_faults plain
no_unary q index at x op p y v h g = refused_as q index at x (e.Unary op p y) v h (λ i a. refl) g

pub no_binary : (q : Place) (index at : m.Scope) (x a : Expr) (op : BinaryOp) (p : Place) (b : Expr) (v : TextErr) → x ≡ e.Binary a op p b → v ≡ no_target q → IsCause (part_faults q index at x) v
unfolding part_faults plain
no_binary q index at x a op p b v h g = refused_as q index at x (e.Binary a op p b) v h (λ i a. refl) g

pub no_choose : (q : Place) (index at : m.Scope) (x t a b : Expr) (v : TextErr) → x ≡ e.Choose t a b → v ≡ no_target q → IsCause (part_faults q index at x) v
unfolding part_faults plain
no_choose q index at x t a b v h g = refused_as q index at x (e.Choose t a b) v h (λ i a. refl) g

-- ---- actuals behind others

take_next : (xs : List Expr) (i j : ℕ) (x : Expr) → i < length xs → j ≡ suc i → x ≡ get_or xs i x → take j xs ≡ take i xs ++ x ∷ []
take_next xs i j x h k e = ap (λ (z : ℕ). take z xs) k ∙ take-suc xs i x h ∙ ap (λ (z : Expr). take i xs ++ z ∷ []) (sym e)

split_at : (xs : List Expr) (i : ℕ) (x : Expr) → i < length xs → x ≡ get_or xs i x → xs ≡ take i xs ++ x ∷ drop (suc i) xs
split_at [] i x h e = absurd (omega arith)
split_at (y ∷ xs) zero x h e = ap (λ (z : Expr). z ∷ xs) (sym e)
split_at (y ∷ xs) (suc i) x h e = ap (λ (z : List Expr). y ∷ z) (split_at xs i x (omega arith) e)

faults_join : (q : Place) (index at : m.Scope) (a b : List Expr) → actual_list_faults q index at (a ++ b) ≡ actual_list_faults q index at a ++ actual_list_faults q index at b
unfolding actual_list_faults
faults_join q index at [] b = refl
faults_join q index at (x ∷ a) b = ap (λ z. part_faults q index at x ++ z) (faults_join q index at a b) ∙ sym (append_assoc (part_faults q index at x) (actual_list_faults q index at a) (actual_list_faults q index at b))

targets_join : (index at : m.Scope) (a b : List Expr) → actual_list_targets index at (a ++ b) ≡ actual_list_targets index at a ++ actual_list_targets index at b
unfolding actual_list_targets
targets_join index at [] b = refl
targets_join index at (x ∷ a) b = ap (λ z. as_targets index at x ++ z) (targets_join index at a b) ∙ sym (append_assoc (as_targets index at x) (actual_list_targets index at a) (actual_list_targets index at b))

faults_one : (q : Place) (index at : m.Scope) (x : Expr) → actual_list_faults q index at (x ∷ []) ≡ part_faults q index at x
unfolding actual_list_faults
faults_one q index at x = append-nil (part_faults q index at x)

targets_one : (index at : m.Scope) (x : Expr) → actual_list_targets index at (x ∷ []) ≡ as_targets index at x
unfolding actual_list_targets
targets_one index at x = append-nil (as_targets index at x)

pub actuals_begin : (judge : Meaning → Faults) (q : Place) (index at : m.Scope) → AreTargets judge (actual_list_faults q index at []) (actual_list_targets index at []) []
unfolding actual_list_faults actual_list_targets
actuals_begin judge q index at = record { clear = refl; stand = tt }

pub actuals_go : (judge : Meaning → Faults) (q : Place) (index at : m.Scope) (all : List Expr) (i j : ℕ) (x : Expr) (r : Result (List TypedTarget) TextErr) → i < length all → j ≡ suc i → x ≡ get_or all i x →
    JudgesTargets judge (actual_list_faults q index at (take i all) ++ part_faults q index at x) (actual_list_targets index at (take i all) ++ as_targets index at x) r → JudgesTargets judge (actual_list_faults q index at (take j all)) (actual_list_targets index at (take j all)) r
actuals_go judge q index at all i j x r lt ji e h =
    targets_as judge _ _ _ _ r
    (ap (actual_list_faults q index at) (take_next all i j x lt ji e) ∙ faults_join q index at (take i all) (x ∷ []) ∙ ap (λ z. actual_list_faults q index at (take i all) ++ z) (faults_one q index at x))
    (ap (actual_list_targets index at) (take_next all i j x lt ji e) ∙ targets_join index at (take i all) (x ∷ []) ∙ ap (λ z. actual_list_targets index at (take i all) ++ z) (targets_one index at x)) h

pub actuals_cause : (q : Place) (index at : m.Scope) (all : List Expr) (i : ℕ) (x : Expr) (v : TextErr) → i < length all → x ≡ get_or all i x → IsCause (actual_list_faults q index at (take i all) ++ part_faults q index at x) v → IsCause (actual_list_faults q index at all) v
unfolding actual_list_faults
actuals_cause q index at all i x v lt g h =
    let s = ap (actual_list_faults q index at) (split_at all i x lt g) ∙ faults_join q index at (take i all) (x ∷ drop (suc i) all) ∙ sym (append_assoc (actual_list_faults q index at (take i all)) (part_faults q index at x) (actual_list_faults q index at (drop (suc i) all))) in
    subst (λ (z : Faults). IsCause z v) (sym s) (cause_left (actual_list_faults q index at (take i all) ++ part_faults q index at x) (actual_list_faults q index at (drop (suc i) all)) v h)

pub actuals_end : (judge : Meaning → Faults) (q : Place) (index at : m.Scope) (all : List Expr) (i : ℕ) (found : List TypedTarget) → length all ≤ i → AreTargets judge (actual_list_faults q index at (take i all)) (actual_list_targets index at (take i all)) found → AreTargets judge (actual_list_faults q index at all) (actual_list_targets index at all) found
actuals_end judge q index at all i found lt h = subst (λ (z : List Expr). AreTargets judge (actual_list_faults q index at z) (actual_list_targets index at z) found) (take_all i all lt) h

-- ---- productions

pub arm_name : (q : Place) (index at : m.Scope) (tree : Expr) (w : Word) (all given : List Select) (r : Result (List TypedTarget) TextErr) → tree ≡ e.Name w all → given ≡ all →
    JudgesTargets fixed_faults (target_faults fixed_faults q w (m.find w.text at) (map (step index) given)) (target_of (m.find w.text at) (map (step index) given) ∷ []) r → JudgesTargets fixed_faults (part_faults q index at tree) (as_targets index at tree) r
arm_name q index at tree w all given r h g x =
    targets_as fixed_faults _ (target_faults fixed_faults q w (m.find w.text at) (map (step index) given)) _ (target_of (m.find w.text at) (map (step index) given) ∷ []) r
    (ap (part_faults q index at) h ∙ actual_name_faults q index at w all ∙ ap (λ (z : List Select). target_faults fixed_faults q w (m.find w.text at) (map (step index) z)) (sym g))
    (ap (as_targets index at) h ∙ actual_name_targets index at w all ∙ ap (λ (z : List Select). target_of (m.find w.text at) (map (step index) z) ∷ []) (sym g)) x

pub arm_concat : (q : Place) (index at : m.Scope) (tree : Expr) (p : Place) (all given : List Expr) (r : Result (List TypedTarget) TextErr) → tree ≡ e.Concat p all → given ≡ all →
    JudgesTargets fixed_faults (or_then (actual_list_faults q index at given) (wide_target p (actual_list_targets index at given))) (actual_list_targets index at given) r → JudgesTargets fixed_faults (part_faults q index at tree) (as_targets index at tree) r
arm_concat q index at tree p all given r h g x =
    targets_as fixed_faults _ (or_then (actual_list_faults q index at given) (wide_target p (actual_list_targets index at given))) _ (actual_list_targets index at given) r
    (ap (part_faults q index at) h ∙ actual_concat_faults q index at p all ∙ ap (λ (z : List Expr). or_then (actual_list_faults q index at z) (wide_target p (actual_list_targets index at z))) (sym g))
    (ap (as_targets index at) h ∙ actual_concat_targets index at p all ∙ ap (actual_list_targets index at) (sym g)) x
