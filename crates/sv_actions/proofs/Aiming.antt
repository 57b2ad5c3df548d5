-- Each target of what is typed is one of the signals that the text names.
use Rattle.std.proofs.Common.{◌≡◌, ℕ, zero, suc, ◌<◌, Bool, true, false, cond, List, [], ◌∷◌, ◌++◌, length, get_or, Option, Some, None, Result, Ok, Err, refl, sym, ap, ◌⊎◌, inl, inr, subst, arith}
use Rattle.std.specs.Prelude.{bytes_eq}
use Rattle.std.specs.Result.{IfOk}
use Rattle.std.specs.List.{All, AllByRecursion, AllZip, Contains}
use Rattle.std.proofs.lemmas.List.Elements.{Contains-append_left, Contains-append_right, Contains-append_cases, All-from_recursion, recursion_from_All}
use mathlib.Core.Former.{Count}
use Rattle.fourvec.specs.declared.Bit.{Bit}
use Rattle.sv_outside.specs.declared.refusal.TextErr.{TextErr}
use Rattle.sv_outside.specs.declared.refusal.Place.{Place}
use Rattle.sv_tree.specs.declared.word.Word.{Word}
use Rattle.sv_tree.specs.declared.stmts.Lvalue.{Lvalue, Name, Concat', Row_of-Lvalue, end_of-Lvalue, more_of-Lvalue}
use Rattle.sv_tree.specs.declared.stmts.Stmt.{Stmt, Empty, Block', If', Case', For', Assign, Row_of-Stmt, end_of-Stmt, more_of-Stmt, Row_of-Arm, end_of-Arm, more_of-Arm, Held-Stmt-If-3, None', Some'}
use Rattle.sv_tree.specs.declared.stmts.Arm.{Labels', Default'}
use Rattle.sv_meaning.specs.Faults.{Faults}
use Rattle.sv_meaning.specs.Layouts.{Scope, What, signal_is, number_is, type_is, genvar_is, of_wires, of_choice, of_samples, width, find, last_of, or_else, NamedSignal}
use Rattle.sv_meaning.specs.Layouts as m
use Rattle.sv_meaning.specs.Meanings.{Meaning, Step}
use Rattle.sv_meaning.specs.Targets.{Target, target_of, target_faults, targets, targets_of, lvalue_faults, all_lvalue_faults, wide_target}
use Rattle.sv_meaning.specs.Deeds.{with_index}
use Rattle.sv_names.specs.declared.names.Names.{Names}
use Rattle.sv_names.specs.Names.{names_are, stack_of, loops_of}
use Rattle.sv_typing.proofs.Lists.{left_clear, right_clear, first_clear}
use Rattle.sv_targets.specs.declared.targets.TypedTarget.{TypedTarget}
use Rattle.sv_targets.specs.Targets.{StandsFor, JudgesTargets}
use Rattle.sv_actions.specs.declared.action.Case.{Case}
use Rattle.sv_actions.specs.declared.action.Action.{Action}
use Rattle.sv_actions.specs.declared.action.Action.TheVariants as act
use Rattle.sv_actions.specs.declared.action.Action.TheBlock.{shape-the_row-Action-0, hidden-the_row-Action-0, shape-the_row-Arm-1, hidden-the_row-Arm-1}
use Rattle.sv_actions.specs.declared.action.Arm.{Arm}
use Rattle.sv_actions.specs.declared.statements.Acted.{Acted}
use Rattle.sv_actions.specs.declared.arms.ActedArms.{ActedArms}
use Rattle.sv_typed.specs.declared.tree.Typed.{Typed}
use Rattle.sv_actions.specs.Texts.{wire_signal, signal_of, root_signals, all_root_signals, target_signals, else_signals, signals_in, arms_signals, of_each}
use Rattle.sv_actions.specs.Doing.{IsAimed, Aims, AimsRow, AimsArms}
use Rattle.sv_actions.specs.Listing.{Within, ActedAims, ArmAims, ArmsAim}
use Rattle.sv_actions.proofs.Producing.{names_kept}

abbrev pub Signals : Type 0
Signals = List NamedSignal

-- ---- one list within another

pub within_at : (f : Scope → Signals) (a b : Names) (named : Signals) → stack_of b ≡ stack_of a → loops_of b ≡ loops_of a → Within (f (names_are a)) named → Within (f (names_are b)) named
within_at f a b named g l w = subst (λ (at : Scope). Within (f at) named) (sym (names_kept a b g l)) w

pub within_as : (xs ys named : Signals) → ys ≡ xs → Within xs named → Within ys named
within_as xs ys named e w = subst (λ (z : Signals). Within z named) (sym e) w

pub within_left : (a b named : Signals) → Within (a ++ b) named → Within a named
within_left a b named w s h = w s (Contains-append_left a b s h)

pub within_right : (a b named : Signals) → Within (a ++ b) named → Within b named
within_right a b named w s h = w s (Contains-append_right a b s h)

each_in : {A : Type 0} (f : A → Signals) (xs : List A) (i : ℕ) (x : A) → i < length xs → x ≡ get_or xs i x → (s : NamedSignal) → Contains (f x) s → Contains (of_each f xs) s
unfolding of_each
each_in f [] i x l e s h = absurd (omega arith)
each_in f (y ∷ more) zero x l e s h = Contains-append_left (f y) (of_each f more) s (subst (λ z. Contains (f z) s) e h)
each_in f (y ∷ more) (suc i) x l e s h = Contains-append_right (f y) (of_each f more) s (each_in f more i x (omega arith) e s h)

pub within_one : {A : Type 0} (f : A → Signals) (xs : List A) (i : ℕ) (x : A) (named : Signals) → i < length xs → x ≡ get_or xs i x → Within (of_each f xs) named → Within (f x) named
within_one f xs i x named l e w s h = w s (each_in f xs i x l e s h)

-- ---- actions

row_aims : (named : Signals) (all : List Action) → AllByRecursion (Aims named) all → AimsRow named (hidden-the_row-Action-0 all)
unfolding Aims shape-the_row-Action-0 hidden-the_row-Action-0 shape-the_row-Arm-1 hidden-the_row-Arm-1 denote.Hole.Carrier.hidden
row_aims named [] h = tt
row_aims named (x ∷ all) h = (h.0, row_aims named all h.1)

aims_row : (named : Signals) (all : List Action) → All (Aims named) all → AimsRow named (hidden-the_row-Action-0 all)
aims_row named all h = row_aims named all (recursion_from_All (Aims named) all h)

aims_arms : (named : Signals) (all : List Arm) → AllByRecursion (ArmAims named) all → AimsArms named (hidden-the_row-Arm-1 all)
unfolding Aims shape-the_row-Action-0 hidden-the_row-Action-0 shape-the_row-Arm-1 hidden-the_row-Arm-1 denote.Hole.Carrier.hidden
aims_arms named [] h = tt
aims_arms named (x ∷ all) h = (aims_row named x.body h.0, aims_arms named all h.1)

only_aims : (named : Signals) (x : Action) (r : Result Acted TextErr) → IfOk r (λ z. z.actions ≡ x ∷ []) → Aims named x → IfOk r (ActedAims named)
only_aims named x (Ok z) e h = subst (All (Aims named)) (sym e) (All-from_recursion (Aims named) (x ∷ []) (h, tt))
only_aims named x (Err why) e h = tt

pub assign_aims : (named : Signals) (xs : List TypedTarget) (v : Typed) (r : Result Acted TextErr) → IfOk r (λ z. z.actions ≡ act.Assign xs v ∷ []) → All (IsAimed named) xs → IfOk r (ActedAims named)
unfolding Aims
assign_aims named xs v r e h = only_aims named (act.Assign xs v) r e h

pub choose_aims : (named : Signals) (v : Typed) (x y : Acted) (r : Result Acted TextErr) → IfOk r (λ z. z.actions ≡ act.Choose v x.actions y.actions ∷ []) → ActedAims named x → ActedAims named y → IfOk r (ActedAims named)
unfolding Aims shape-the_row-Action-0 hidden-the_row-Action-0 shape-the_row-Arm-1 hidden-the_row-Arm-1 denote.Hole.Carrier.hidden
choose_aims named v x y r e h k = only_aims named (act.Choose v x.actions y.actions) r e (aims_row named x.actions h, aims_row named y.actions k)

pub match_aims : (named : Signals) (c : Case) (x : ActedArms) (y : Acted) (r : Result Acted TextErr) → IfOk r (λ z. z.actions ≡ act.Match c x.arms y.actions ∷ []) → ArmsAim named x → ActedAims named y → IfOk r (ActedAims named)
unfolding Aims shape-the_row-Action-0 hidden-the_row-Action-0 shape-the_row-Arm-1 hidden-the_row-Arm-1 denote.Hole.Carrier.hidden
match_aims named c x y r e h k = only_aims named (act.Match c x.arms y.actions) r e (aims_arms named x.arms (recursion_from_All (ArmAims named) x.arms h), aims_row named y.actions k)

pub aims_of : (named : Signals) (r : Result Acted TextErr) (x : Acted) → r ≡ Ok x → IfOk r (ActedAims named) → ActedAims named x
aims_of named r x e h = subst (λ (z : Result Acted TextErr). IfOk z (ActedAims named)) e h

pub arms_aim_of : (named : Signals) (r : Result ActedArms TextErr) (x : ActedArms) → r ≡ Ok x → IfOk r (ArmsAim named) → ArmsAim named x
arms_aim_of named r x e h = subst (λ (z : Result ActedArms TextErr). IfOk z (ArmsAim named)) e h

-- ---- targets

abbrev aim_of : Target → NamedSignal
aim_of t = wire_signal t.wire (width t.layout)

abbrev Rooted : Signals → List Target → Type 0
Rooted named ts = AllByRecursion (λ t. Contains named (aim_of t)) ts

rooted_more : (named : Signals) (a b : List Target) → Rooted named a → Rooted named b → Rooted named (a ++ b)
rooted_more named [] b h k = k
rooted_more named (t ∷ a) b h k = (h.0, rooted_more named a b h.1 k)

rooted_one : (judge : Meaning → Faults) (named : Signals) (p : Place) (w : Word) (o : Option What) (all : List Step) → target_faults judge p w o all ≡ [] → Within (signal_of o) named → Rooted named (target_of o all ∷ [])
rooted_one judge named p w (Some (signal_is of_wires n x)) all f h = (h (wire_signal n (width x)) (0, omega arith, refl), tt)
rooted_one judge named p w (Some (signal_is of_choice n x)) all f h = cc
rooted_one judge named p w (Some (signal_is of_samples n x)) all f h = cc
rooted_one judge named p w (Some (number_is v t)) all f h = cc
rooted_one judge named p w (Some (type_is t)) all f h = cc
rooted_one judge named p w (Some genvar_is) all f h = cc
rooted_one judge named p w None all f h = cc

mutual
  unfolding targets lvalue_faults root_signals

  rooted : (judge : Meaning → Faults) (index at : Scope) (named : Signals) (x : Lvalue) → lvalue_faults judge index at x ≡ [] → Within (root_signals at x) named → Rooted named (targets index at x)
  rooted judge index at named (Name w all) f h = rooted_one judge named _ w (find w.text at) _ f h
  rooted judge index at named (Concat' p s all) f h = all_rooted judge index at named all (first_clear (all_lvalue_faults judge index at all) (wide_target p (targets_of index at all)) f) h

  all_rooted : {k : Count} (judge : Meaning → Faults) (index at : Scope) (named : Signals) (all : Row_of-Lvalue k) → all_lvalue_faults judge index at all ≡ [] → Within (all_root_signals at all) named → Rooted named (targets_of index at all)
  all_rooted judge index at named end_of-Lvalue f h = tt
  all_rooted judge index at named (more_of-Lvalue x all) f h =
      rooted_more named (targets index at x) (targets_of index at all)
      (rooted judge index at named x (left_clear (lvalue_faults judge index at x) (all_lvalue_faults judge index at all) f) (within_left (root_signals at x) (all_root_signals at all) named h))
      (all_rooted judge index at named all (right_clear (lvalue_faults judge index at x) (all_lvalue_faults judge index at all) f) (within_right (root_signals at x) (all_root_signals at all) named h))

aimed : (judge : Meaning → Faults) (named : Signals) (xs : List TypedTarget) (ts : List Target) → AllZip (StandsFor judge) xs ts → Rooted named ts → AllByRecursion (IsAimed named) xs
aimed judge named [] [] h r = tt
aimed judge named [] (t ∷ ts) h r = absurd h
aimed judge named (x ∷ xs) [] h r = absurd h
aimed judge named (x ∷ xs) (t ∷ ts) h r =
    (subst (λ n. Contains named (wire_signal n x.wire_width)) h.0.wire (subst (λ w. Contains named (wire_signal t.wire w)) h.0.whole r.0), aimed judge named xs ts h.1 r.1)

pub targets_aim : (judge : Meaning → Faults) (index at : Scope) (named : Signals) (x : Lvalue) (r : Result (List TypedTarget) TextErr) → JudgesTargets judge (lvalue_faults judge index at x) (targets index at x) r → Within (root_signals at x) named → IfOk r (λ all. All (IsAimed named) all)
targets_aim judge index at named x (Ok all) h w = All-from_recursion (IsAimed named) all (aimed judge named all (targets index at x) h.stand (rooted judge index at named x h.clear w))
targets_aim judge index at named x (Err e) h w = tt

-- ---- the variable of a loop is no target

found_in : (at : List m.Entry) (name n : m.Name) (w : What) → (last_of n (at ++ (name, w) ∷ []) ≡ last_of n at) ⊎ (last_of n (at ++ (name, w) ∷ []) ≡ Some w)
unfolding last_of
found_in [] name n w = here (bytes_eq name n)
  where
    here : (b : Bool) → (cond b (Some w) None ≡ None) ⊎ (cond b (Some w) None ≡ Some w)
    here true = inr refl
    here false = inl refl
found_in (e ∷ more) name n w = elim (found_in more name n w) [
  | inl h ↦ inl (ap (λ o. or_else o (cond (bytes_eq e.0 n) (Some e.1) None)) h)
  | inr h ↦ inr (ap (λ o. or_else o (cond (bytes_eq e.0 n) (Some e.1) None)) h)
]

name_outer : (at : Scope) (name n : m.Name) (bits : List Bit) → Within (signal_of (find n (with_index at name bits))) (signal_of (find n at))
name_outer at name n bits s h = elim (found_in at.all name n (number_is bits true)) [
  | inl e ↦ subst (λ o. Contains (signal_of o) s) e h
  | inr e ↦ absurd (nothing (subst (λ o. Contains (signal_of o) s) e h))
]
  where
    nothing : Contains (signal_of (Some (number_is bits true))) s → ⊥
    nothing k = omega (arith, k.1)

both_outer : (a b c d : Signals) → Within a c → Within b d → Within (a ++ b) (c ++ d)
both_outer a b c d f g s h = elim (Contains-append_cases a b s h) [ inl x ↦ Contains-append_left c d s (f s x) | inr y ↦ Contains-append_right c d s (g s y) ]

mutual
  unfolding root_signals

  root_outer : (at : Scope) (name : m.Name) (bits : List Bit) (x : Lvalue) → Within (root_signals (with_index at name bits) x) (root_signals at x)
  root_outer at name bits (Name w all) s h = name_outer at name w.text bits s h
  root_outer at name bits (Concat' p t all) s h = roots_outer at name bits all s h

  roots_outer : {k : Count} (at : Scope) (name : m.Name) (bits : List Bit) (all : Row_of-Lvalue k) → Within (all_root_signals (with_index at name bits) all) (all_root_signals at all)
  roots_outer at name bits end_of-Lvalue s h = h
  roots_outer at name bits (more_of-Lvalue x all) s h =
      both_outer (root_signals (with_index at name bits) x) (all_root_signals (with_index at name bits) all) (root_signals at x) (all_root_signals at all) (root_outer at name bits x) (roots_outer at name bits all) s h

mutual
  unfolding target_signals

  -- what targets name in a loop they name outside of it
  outer : (at : Scope) (name : m.Name) (bits : List Bit) (x : Stmt) → Within (target_signals (with_index at name bits) x) (target_signals at x)
  outer at name bits Empty s h = h
  outer at name bits (Block' p b t all e) s h = in_outer at name bits all s h
  outer at name bits (If' u c r (more_of-Stmt x end_of-Stmt) other) s h =
      both_outer (target_signals (with_index at name bits) x) (else_signals (with_index at name bits) other) (target_signals at x) (else_signals at other) (outer at name bits x) (else_outer at name bits other) s h
  outer at name bits (Case' u word x t all) s h = arms_outer at name bits all s h
  outer at name bits (For' p form v start test next r (more_of-Stmt body end_of-Stmt)) s h = outer at name bits body s h
  outer at name bits (Assign to mark p x) s h = root_outer at name bits to s h

  else_outer : (at : Scope) (name : m.Name) (bits : List Bit) (x : Held-Stmt-If-3) → Within (else_signals (with_index at name bits) x) (else_signals at x)
  else_outer at name bits None' s h = h
  else_outer at name bits (Some' r (more_of-Stmt x end_of-Stmt)) s h = outer at name bits x s h

  in_outer : {k : Count} (at : Scope) (name : m.Name) (bits : List Bit) (all : Row_of-Stmt k) → Within (signals_in (with_index at name bits) all) (signals_in at all)
  in_outer at name bits end_of-Stmt s h = h
  in_outer at name bits (more_of-Stmt x all) s h =
      both_outer (target_signals (with_index at name bits) x) (signals_in (with_index at name bits) all) (target_signals at x) (signals_in at all) (outer at name bits x) (in_outer at name bits all) s h

  arms_outer : {k : Count} (at : Scope) (name : m.Name) (bits : List Bit) (all : Row_of-Arm k) → Within (arms_signals (with_index at name bits) all) (arms_signals at all)
  arms_outer at name bits end_of-Arm s h = h
  arms_outer at name bits (more_of-Arm (Labels' xs r (more_of-Stmt x end_of-Stmt)) all) s h =
      both_outer (target_signals (with_index at name bits) x) (arms_signals (with_index at name bits) all) (target_signals at x) (arms_signals at all) (outer at name bits x) (arms_outer at name bits all) s h
  arms_outer at name bits (more_of-Arm (Default' colon r (more_of-Stmt x end_of-Stmt)) all) s h =
      both_outer (target_signals (with_index at name bits) x) (arms_signals (with_index at name bits) all) (target_signals at x) (arms_signals at all) (outer at name bits x) (arms_outer at name bits all) s h

pub within_turn : (at inner : Scope) (name : m.Name) (bits : List Bit) (x : Stmt) (named : Signals) → inner ≡ with_index at name bits → Within (target_signals at x) named → Within (target_signals inner x) named
within_turn at inner name bits x named e w = subst (λ (z : Scope). Within (target_signals z x) named) (sym e) (λ s h. w s (outer at name bits x s h))
