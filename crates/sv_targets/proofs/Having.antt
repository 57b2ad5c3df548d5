-- Targets have some bits.
use Rattle.std.proofs.Common.{◌≡◌, ℕ, ◌≤◌, Bool, true, false, not, List, [], ◌∷◌, Result, Ok, Err, IfOk, refl, sym, ◌∙◌, subst, arith}
use Rattle.std.specs.List.{AllZip, AllByRecursion}
use Rattle.std.proofs.lemmas.Bool.Decides.{nat_tests}
use Rattle.std.proofs.lemmas.List.Elements.{recursion_from_All}
use Rattle.sv_outside.specs.declared.refusal.Place.{Place}
use Rattle.sv_outside.specs.declared.refusal.TextErr.{TextErr}
use Rattle.sv_tree.specs.declared.stmts.Lvalue.{Lvalue, Name as LvName, Concat' as LvConcat}
use Rattle.sv_tree.specs.declared.exprs.Expr.{Expr, Literal, Name', Concat', Repeat', end_of-Expr, more_of-Expr}
use Rattle.sv_meaning.specs.Patterns.{paren, cast_literal, cast_name, cast_paren, cast_sign, system, unary, binary, choose}
use Rattle.sv_meaning.specs.Faults.{Faults, fault_if, or_then}
use Rattle.sv_meaning.specs.Layouts.{Scope, width}
use Rattle.sv_meaning.specs.Meanings.{Meaning, is_width, fixed_faults}
use Rattle.sv_meaning.specs.Values.{mean}
use Rattle.sv_meaning.specs.Targets.{Target, targets, targets_of, widths, wide_target, lvalue_faults, all_lvalue_faults}
use Rattle.sv_meaning.specs.Designs.{as_targets, all_as_targets, actual_faults, part_faults, all_part_faults}
use Rattle.sv_typed.specs.declared.tree.Pick.{Pick}
use Rattle.sv_typed.specs.Typed.{PickIsSound, picked_width}
use Rattle.sv_targets.specs.declared.targets.TypedTarget.{TypedTarget}
use Rattle.sv_targets.specs.Targets.{StandsFor, AreTargets, JudgesTargets, width_of_all}
use Rattle.sv_targets.proofs.Targeting.{widths_are}

wide_by : (picks : List Pick) (w : ℕ) → AllByRecursion PickIsSound picks → 1 ≤ w → 1 ≤ picked_width picks w
unfolding picked_width PickIsSound
wide_by [] w h k = k
wide_by (p ∷ more) w h k = wide_by more p.width h.1 h.0.0.0

some_one : (judge : Meaning → Faults) (x : TypedTarget) (t : Target) → StandsFor judge x t → 1 ≤ x.width
some_one judge x t h =
    let w = wide_by x.picks (width t.layout) (recursion_from_All PickIsSound x.picks h.follows.sound) (subst (λ (n : ℕ). 1 ≤ n) (sym h.whole) h.some) in
    subst (λ (n : ℕ). 1 ≤ n) (h.follows.width ∙ h.width) w

one_width : (judge : Meaning → Faults) (all : List TypedTarget) (t : Target) → AllZip (StandsFor judge) all (t ∷ []) → 1 ≤ width_of_all all
unfolding width_of_all
one_width judge [] t h = absurd h
one_width judge (x ∷ all) t h = let w = some_one judge x t h.0 in omega (arith, w)

width_true : (n : ℕ) → is_width n ≡ true → 1 ≤ n
width_true n h = grind (arith, nat_tests)

no_fault_then : (b : Bool) (n : ℕ) (p : Place) → fault_if (not b) n p ≡ [] → b ≡ true
no_fault_then true n p h = refl
no_fault_then false n p h = cc

second : (a b : Faults) → or_then a b ≡ [] → b ≡ []
second [] b h = h
second (f ∷ a) b h = cc

in_braces : (judge : Meaning → Faults) (f g : Faults) (p : Place) (ts : List Target) (all : List TypedTarget) → AreTargets judge g ts all → g ≡ or_then f (wide_target p ts) → 1 ≤ width_of_all all
in_braces judge f g p ts all h e =
    let n = width_true (widths ts) (no_fault_then (is_width (widths ts)) _ p (second f (wide_target p ts) (sym e ∙ h.clear))) in
    subst (λ (k : ℕ). 1 ≤ k) (widths_are judge all ts h.stand) n

target_width : (judge : Meaning → Faults) (index at : Scope) (x : Lvalue) (all : List TypedTarget) → AreTargets judge (lvalue_faults judge index at x) (targets index at x) all → 1 ≤ width_of_all all
unfolding targets lvalue_faults
target_width judge index at (LvName w steps) all h = one_width judge all _ h.stand
target_width judge index at (LvConcat p s row) all h = in_braces judge (all_lvalue_faults judge index at row) _ p (targets_of index at row) all h refl

actual_width : (q : Place) (index at : Scope) (x : Expr) (all : List TypedTarget) → AreTargets fixed_faults (part_faults q index at x) (as_targets index at x) all → 1 ≤ width_of_all all
unfolding as_targets part_faults
actual_width q index at (Name' w s steps) all h = one_width fixed_faults all _ h.stand
actual_width q index at (Concat' p s row) all h = in_braces fixed_faults (all_part_faults q index at row) _ p (all_as_targets index at row) all h refl
actual_width q index at (Literal w) all h = let e = h.clear in cc
actual_width q index at (paren p x) all h = let e = h.clear in cc
actual_width q index at (Repeat' p r (more_of-Expr n end_of-Expr) s row) all h = let e = h.clear in cc
actual_width q index at (cast_literal w x) all h = let e = h.clear in cc
actual_width q index at (cast_name w x) all h = let e = h.clear in cc
actual_width q index at (cast_paren p n x) all h = let e = h.clear in cc
actual_width q index at (cast_sign s p x) all h = let e = h.clear in cc
actual_width q index at (system f p x) all h = let e = h.clear in cc
actual_width q index at (unary op p x) all h = let e = h.clear in cc
actual_width q index at (binary x op p y) all h = let e = h.clear in cc
actual_width q index at (choose c x y) all h = let e = h.clear in cc

pub targets_some : (judge : Meaning → Faults) (index at : Scope) (x : Lvalue) (r : Result (List TypedTarget) TextErr) → JudgesTargets judge (lvalue_faults judge index at x) (targets index at x) r → IfOk r (λ all. 1 ≤ width_of_all all)
targets_some judge index at x (Ok all) h = target_width judge index at x all h
targets_some judge index at x (Err e) h = tt

pub actuals_some : (index at : Scope) (x : Expr) (r : Result (List TypedTarget) TextErr) → JudgesTargets fixed_faults (actual_faults index at x) (as_targets index at x) r → IfOk r (λ all. 1 ≤ width_of_all all)
actuals_some index at x (Ok all) h = actual_width (mean at x).start index at x all h
actuals_some index at x (Err e) h = tt
