-- Each signal that targets and events name is declared.
use Rattle.std.proofs.Common.{◌≡◌, zero, suc, Bool, List, [], ◌∷◌, ◌++◌, Option, Some, None, refl, ap, inl, inr, subst, arith}
use Rattle.std.specs.List.{Contains}
use Rattle.std.proofs.lemmas.List.Elements.{Contains-append_cases}
use mathlib.Core.Former.{Count}
use Rattle.sv_tree.specs.declared.stmts.Lvalue.{Lvalue, Name, Concat', Row_of-Lvalue, end_of-Lvalue, more_of-Lvalue}
use Rattle.sv_tree.specs.declared.stmts.Stmt.{Stmt, Empty, Block', If', Case', For', Assign, Row_of-Stmt, end_of-Stmt, more_of-Stmt, Row_of-Arm, end_of-Arm, more_of-Arm, Held-Stmt-If-3, None', Some'}
use Rattle.sv_tree.specs.declared.stmts.Arm.{Labels', Default'}
use Rattle.sv_tree.specs.declared.stmts.BlockKind.{BlockKind}
use Rattle.sv_tree.specs.declared.stmts.Event.{Event}
use Rattle.sv_meaning.specs.Layouts.{Name as Text, Entry, Scope, What, signal_is, number_is, type_is, genvar_is, of_wires, of_choice, of_samples, find, last_of, or_else, NamedSignal, Declared}
use Rattle.std.specs.Prelude.{bytes_eq}
use Rattle.std.proofs.Common.{cond, true, false}
use Rattle.sv_actions.specs.Texts.{signal_of, root_signals, all_root_signals, target_signals, else_signals, signals_in, arms_signals, of_each, event_signal, event_signals}
use Rattle.sv_meaning.specs.Blocks.{kind_events}
use Rattle.sv_stmt.specs.Blocks.{AreDeclared}

abbrev pub Signals : Type 0
Signals = List NamedSignal

-- ---- each is declared

none : (at : Scope) → AreDeclared at []
none at s h = absurd (omega (arith, h.1))

pub two_declared : (at : Scope) (a b : Signals) → AreDeclared at a → AreDeclared at b → AreDeclared at (a ++ b)
two_declared at a b f g s h = elim (Contains-append_cases a b s h) [ inl x ↦ f s x | inr y ↦ g s y ]

-- an entry of this name
record Found (n : Text) (at : List Entry) (x : What) : Type 0 where
  pub name : Text
  pub is_there : Contains at (name, x)

behind : {A : Type 0} (y : A) (a : List A) (x : A) → Contains a x → Contains (y ∷ a) x
behind y a x h = (suc h.0, omega (arith, h.1), h.2)

chosen_entry : (b : Bool) (e x : What) → cond b (Some e) None ≡ Some x → e ≡ x
chosen_entry true e x h = cc
chosen_entry false e x h = cc

found : (n : Text) (at : List Entry) (x : What) → last_of n at ≡ Some x → Found n at x
unfolding last_of
found n [] x h = cc
found n (e ∷ more) x h = go (last_of n more) (λ y k. found n more y k) h
  where
    go : (o : Option What) → ((y : What) → o ≡ Some y → Found n more y) → or_else o (cond (bytes_eq e.0 n) (Some e.1) None) ≡ Some x → Found n (e ∷ more) x
    go (Some y) f k = let g = f x k in record { name = g.name; is_there = behind e more (g.name, x) g.is_there }
    go None f k = record { name = e.0; is_there = (0, omega arith, ap (λ y. (e.0, y)) (chosen_entry (bytes_eq e.0 n) e.1 x k)) }

one_declared : (at : Scope) (n : Text) (o : Option What) → find n at ≡ o → AreDeclared at (signal_of o)
one_declared at n (Some (signal_is of_wires k x)) e s (zero, l, same) =
    let g = found n at.all (signal_is of_wires k x) e in subst (Declared at) same (inl (record { name = g.name; layout = x; is_there = g.is_there; wide = refl }))
one_declared at n (Some (signal_is of_wires k x)) e s (suc i, l, same) = absurd (omega arith)
one_declared at n (Some (signal_is of_choice k x)) e s h = none at s h
one_declared at n (Some (signal_is of_samples k x)) e s h = none at s h
one_declared at n (Some (number_is v t)) e s h = none at s h
one_declared at n (Some (type_is t)) e s h = none at s h
one_declared at n (Some genvar_is) e s h = none at s h
one_declared at n None e s h = none at s h

mutual
  unfolding root_signals

  roots_declared : (at : Scope) (x : Lvalue) → AreDeclared at (root_signals at x)
  roots_declared at (Name w all) = one_declared at w.text (find w.text at) refl
  roots_declared at (Concat' p s all) = all_roots_declared at all

  all_roots_declared : {k : Count} (at : Scope) (all : Row_of-Lvalue k) → AreDeclared at (all_root_signals at all)
  all_roots_declared at end_of-Lvalue = none at
  all_roots_declared at (more_of-Lvalue x all) = two_declared at (root_signals at x) (all_root_signals at all) (roots_declared at x) (all_roots_declared at all)

mutual
  unfolding target_signals

  pub targets_declared : (at : Scope) (x : Stmt) → AreDeclared at (target_signals at x)
  targets_declared at Empty = none at
  targets_declared at (Block' p b s all e) = in_declared at all
  targets_declared at (If' u c r (more_of-Stmt x end_of-Stmt) other) = two_declared at (target_signals at x) (else_signals at other) (targets_declared at x) (else_declared at other)
  targets_declared at (Case' u word x s all) = arms_declared at all
  targets_declared at (For' p form name start test next r (more_of-Stmt body end_of-Stmt)) = targets_declared at body
  targets_declared at (Assign to m p x) = roots_declared at to

  else_declared : (at : Scope) (x : Held-Stmt-If-3) → AreDeclared at (else_signals at x)
  else_declared at None' = none at
  else_declared at (Some' r (more_of-Stmt x end_of-Stmt)) = targets_declared at x

  in_declared : {k : Count} (at : Scope) (all : Row_of-Stmt k) → AreDeclared at (signals_in at all)
  in_declared at end_of-Stmt = none at
  in_declared at (more_of-Stmt x all) = two_declared at (target_signals at x) (signals_in at all) (targets_declared at x) (in_declared at all)

  arms_declared : {k : Count} (at : Scope) (all : Row_of-Arm k) → AreDeclared at (arms_signals at all)
  arms_declared at end_of-Arm = none at
  arms_declared at (more_of-Arm (Labels' xs r (more_of-Stmt x end_of-Stmt)) all) = two_declared at (target_signals at x) (arms_signals at all) (targets_declared at x) (arms_declared at all)
  arms_declared at (more_of-Arm (Default' colon r (more_of-Stmt x end_of-Stmt)) all) = two_declared at (target_signals at x) (arms_signals at all) (targets_declared at x) (arms_declared at all)

each_declared : (at : Scope) (all : List Event) → AreDeclared at (of_each (event_signal at) all)
unfolding of_each
each_declared at [] = none at
each_declared at (e ∷ more) = two_declared at (event_signal at e) (of_each (event_signal at) more) (one_declared at e.name.text (find e.name.text at) refl) (each_declared at more)

pub event_declared : (at : Scope) (k : BlockKind) → AreDeclared at (event_signals at k)
event_declared at k = each_declared at (kind_events k)
