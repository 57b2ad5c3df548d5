-- The signals that statements and actions name are declared, and have a bit at least.
use Rattle.std.proofs.Common.{◌≡◌, ℕ, zero, suc, Bool, true, List, [], ◌∷◌, ◌++◌, map, Option, Some, None, Ok, Err, refl, sym, ap, ◌∙◌, inl, inr, subst, arith, append_assoc}
use Rattle.std.specs.List.{Contains}
use Rattle.std.proofs.lemmas.List.Elements.{Contains-append_cases}
use mathlib.Core.Former.{Count}
use Rattle.fourvec.specs.declared.Bit.{Bit}
use Rattle.sv_tree.specs.declared.exprs.Expr.{Expr}
use Rattle.sv_tree.specs.declared.exprs.Select.{Select, Member}
use Rattle.sv_meaning.specs.Patterns.{index, range}
use Rattle.sv_tree.specs.declared.stmts.Stmt.{Stmt, Empty, Block', If', Case', For', Assign, Row_of-Stmt, end_of-Stmt, more_of-Stmt, Row_of-Arm, end_of-Arm, more_of-Arm, Held-Stmt-If-3, None', Some'}
use Rattle.sv_tree.specs.declared.stmts.Arm.{Labels', Default'}
use Rattle.sv_tree.specs.declared.stmts.Lvalue.{Lvalue, Name, Concat', Row_of-Lvalue, end_of-Lvalue, more_of-Lvalue}
use Rattle.sv_outside.specs.declared.refusal.Place.{Place}
use Rattle.sv_meaning.specs.Faults.{Judged}
use Rattle.sv_meaning.specs.Layouts.{Scope, What, signal_is, number_is, type_is, genvar_is, of_wires, of_choice, of_samples, find, NamedSignal, Declared, DeclaredIn, constant_scope}
use Rattle.sv_meaning.specs.Layouts as m
use Rattle.sv_meaning.specs.Meanings.{Meaning, all_indices, indices}
use Rattle.sv_meaning.specs.Values.{mean, step}
use Rattle.sv_meaning.specs.Targets.{Target, target_of, targets, targets_of}
use Rattle.sv_meaning.specs.Deeds.{Deed, deed, deed_else, deeds, arms, with_index, in_turns, in_turn, turns, target_names, CaseArm, labels_of, all_names, case_chain, is_casez}
use Rattle.sv_meaning.proofs.Declaring.{names-declared}
use Rattle.sv_tree.specs.declared.exprs.RangeMark.TheVariants as mark
use Rattle.sv_stmt.specs.Blocks.{AreDeclared}

none : (at : Scope) → AreDeclared at []
none at s h = absurd (omega (arith, h.1))

two : (at : Scope) (a b : List NamedSignal) → AreDeclared at a → AreDeclared at b → AreDeclared at (a ++ b)
two at a b f g s h = elim (Contains-append_cases a b s h) [ inl x ↦ f s x | inr y ↦ g s y ]

-- ---- an entry of a loop declares no signal

index_in : (at : List m.Entry) (name : m.Name) (bits : List Bit) (s : NamedSignal) → DeclaredIn (at ++ (name, number_is bits true) ∷ []) s → DeclaredIn at s
index_in at name bits s d = elim (Contains-append_cases at ((name, number_is bits true) ∷ []) (d.name, signal_is s.owner s.number d.layout) d.is_there) [
  | inl x ↦ record { name = d.name; layout = d.layout; is_there = x; wide = d.wide }
  | inr y ↦ absurd (apart y)
]
  where
    apart : Contains {X = m.Name × What} ((name, number_is bits true) ∷ []) (d.name, signal_is s.owner s.number d.layout) → ⊥
    apart (zero, k, e) = let g = ap (λ x. x.1) e in cc
    apart (suc i, k, e) = absurd (omega arith)

index_only : (at : Scope) (name : m.Name) (bits : List Bit) (s : NamedSignal) → Declared (with_index at name bits) s → Declared at s
index_only at name bits s (inl d) = inl (index_in at.all name bits s d)
index_only at name bits s (inr d) = inr (index_in at.above name bits s d)

-- what a constant expression sees is declared too
seen_above : (at : Scope) (s : NamedSignal) → Declared (constant_scope at) s → Declared at s
seen_above at s (inl d) = inr d
seen_above at s (inr d) = inr d

constants_declared : (at : Scope) (all : List NamedSignal) → AreDeclared (constant_scope at) all → AreDeclared at all
constants_declared at all d s h = seen_above at s (d s h)

-- ---- targets

step_names : (at : Scope) (x : Select) → AreDeclared at (indices (step at x)).names
unfolding mean
step_names at (Member p w) = none at
step_names at (index p x) = names-declared at x
step_names at (range p x mark.To y) = two at (mean (constant_scope at) x).names (mean (constant_scope at) y).names (constants_declared at _ (names-declared (constant_scope at) x)) (constants_declared at _ (names-declared (constant_scope at) y))
step_names at (range p x mark.Up y) = two at (mean at x).names (mean (constant_scope at) y).names (names-declared at x) (constants_declared at _ (names-declared (constant_scope at) y))
step_names at (range p x mark.Down y) = two at (mean at x).names (mean (constant_scope at) y).names (names-declared at x) (constants_declared at _ (names-declared (constant_scope at) y))

steps_names : (at : Scope) (all : List Select) → AreDeclared at (all_indices (map (step at) all)).names
unfolding all_indices
steps_names at [] = none at
steps_names at (x ∷ more) = two at (indices (step at x)).names (all_indices (map (step at) more)).names (step_names at x) (steps_names at more)

one_names : (at : Scope) (o : Option What) (all : List Select) → AreDeclared at (all_indices (target_of o (map (step at) all)).steps).names
unfolding all_indices
one_names at (Some (signal_is of_wires n x)) all = steps_names at all
one_names at (Some (signal_is of_choice n x)) all = none at
one_names at (Some (signal_is of_samples n x)) all = none at
one_names at (Some (number_is v s)) all = none at
one_names at (Some (type_is t)) all = none at
one_names at (Some genvar_is) all = none at
one_names at None all = none at

names_append : (a b : List Target) → target_names (a ++ b) ≡ target_names a ++ target_names b
unfolding target_names
names_append [] b = refl
names_append (t ∷ a) b = ap (λ n. (all_indices t.steps).names ++ n) (names_append a b) ∙ sym (append_assoc (all_indices t.steps).names (target_names a) (target_names b))

mutual
  unfolding targets target_names

  lvalue_names : (at : Scope) (x : Lvalue) → AreDeclared at (target_names (targets at at x))
  lvalue_names at (Name w all) = two at (all_indices (target_of (find w.text at) (map (step at) all)).steps).names [] (one_names at (find w.text at) all) (none at)
  lvalue_names at (Concat' p s all) = lvalues_names at all

  lvalues_names : {k : Count} (at : Scope) (all : Row_of-Lvalue k) → AreDeclared at (target_names (targets_of at at all))
  lvalues_names at end_of-Lvalue = none at
  lvalues_names at (more_of-Lvalue x all) =
      subst (AreDeclared at) (sym (names_append (targets at at x) (targets_of at at all)))
      (two at (target_names (targets at at x)) (target_names (targets_of at at all)) (lvalue_names at x) (lvalues_names at all))

-- ---- labels and arms

unfoldable LabelsDeclared : Scope → List Meaning → Type 0
LabelsDeclared at [] = Unit {0}
LabelsDeclared at (m ∷ more) = AreDeclared at m.names × LabelsDeclared at more

labels_are : (at : Scope) (all : List Expr) → LabelsDeclared at (map (mean at) all)
unfolding LabelsDeclared
labels_are at [] = tt
labels_are at (x ∷ more) = (names-declared at x, labels_are at more)

labels_append : (at : Scope) (a b : List Meaning) → LabelsDeclared at a → LabelsDeclared at b → LabelsDeclared at (a ++ b)
unfolding LabelsDeclared
labels_append at [] b f g = g
labels_append at (m ∷ a) b f g = (f.0, labels_append at a b f.1 g)

labels_names : (at : Scope) (all : List Meaning) → LabelsDeclared at all → AreDeclared at (all_names all)
unfolding LabelsDeclared all_names
labels_names at [] h = none at
labels_names at (m ∷ more) h = two at m.names (all_names more) h.0 (labels_names at more h.1)

unfoldable ArmsDeclared : Scope → List CaseArm → Type 0
ArmsDeclared at [] = Unit {0}
ArmsDeclared at (a ∷ more) = LabelsDeclared at a.labels × (AreDeclared at a.body.names × ArmsDeclared at more)

arms_labels : (at : Scope) (all : List CaseArm) → ArmsDeclared at all → LabelsDeclared at (labels_of all)
unfolding ArmsDeclared labels_of LabelsDeclared
arms_labels at [] h = tt
arms_labels at (a ∷ more) h = labels_append at a.labels (labels_of more) h.0 (arms_labels at more h.1.1)

chain_names : (at : Scope) (z : Bool) (w : ℕ) (s : Bool) (x : Meaning) (all : List CaseArm) (other : Deed) → ArmsDeclared at all → AreDeclared at other.names → AreDeclared at (case_chain z w s x all other).names
unfolding ArmsDeclared case_chain
chain_names at z w s x [] other h g = g
chain_names at z w s x (a ∷ more) other h g = two at a.body.names (case_chain z w s x more other).names h.1.0 (chain_names at z w s x more other h.1.1 g)

-- ---- turns

in_turn_names : (at : Scope) (p : Place) (body : List Bit → Deed) (all : List (List Bit)) → ((bits : List Bit) → AreDeclared at (body bits).names) → AreDeclared at (in_turn p body all).names
unfolding in_turn
in_turn_names at p body [] h = none at
in_turn_names at p body (bits ∷ more) h = two at (body bits).names (in_turn p body more).names (h bits) (in_turn_names at p body more h)

in_turns_names : (at : Scope) (p : Place) (body : List Bit → Deed) (j : Judged (List (List Bit))) → ((bits : List Bit) → AreDeclared at (body bits).names) → AreDeclared at (in_turns p body j).names
in_turns_names at p body (Err all) h = none at
in_turns_names at p body (Ok all) h = in_turn_names at p body all h

-- ---- statements

mutual
  unfolding deed all_names labels_of ArmsDeclared

  -- each signal that a statement names is declared, at this width
  pub deed_declared : (at : Scope) (x : Stmt) → AreDeclared at (deed x at).names
  deed_declared at Empty = none at
  deed_declared at (Block' p b s all e) = deeds_declared at all
  deed_declared at (If' u c r (more_of-Stmt x end_of-Stmt) other) =
      two at (mean at c).names ((deed x at).names ++ (deed_else other at).names) (names-declared at c) (two at (deed x at).names (deed_else other at).names (deed_declared at x) (else_declared at other))
  deed_declared at (Case' u word x s all) =
      let each = arms_declared at all in
      two at ((mean at x).names ++ all_names (labels_of (arms all at).0)) _ (two at (mean at x).names (all_names (labels_of (arms all at).0)) (names-declared at x) (labels_names at (labels_of (arms all at).0) (arms_labels at (arms all at).0 each.0)))
      (chain_names at (is_casez word) _ _ (mean at x) (arms all at).0 (arms all at).1 each.0 each.1)
  deed_declared at (For' p form name start test next r (more_of-Stmt body end_of-Stmt)) =
      in_turns_names at p (λ bits. deed body (with_index at name.text bits)) (turns p (constant_scope at) name.text start test next) (λ bits s h. index_only at name.text bits s (deed_declared (with_index at name.text bits) body s h))
  deed_declared at (Assign to mark p x) = two at (mean at x).names (target_names (targets at at to)) (names-declared at x) (lvalue_names at to)

  else_declared : (at : Scope) (x : Held-Stmt-If-3) → AreDeclared at (deed_else x at).names
  else_declared at None' = none at
  else_declared at (Some' r (more_of-Stmt x end_of-Stmt)) = deed_declared at x

  deeds_declared : {k : Count} (at : Scope) (all : Row_of-Stmt k) → AreDeclared at (deeds all at).names
  deeds_declared at end_of-Stmt = none at
  deeds_declared at (more_of-Stmt x all) = two at (deed x at).names (deeds all at).names (deed_declared at x) (deeds_declared at all)

  arms_declared : {k : Count} (at : Scope) (all : Row_of-Arm k) → ArmsDeclared at (arms all at).0 × AreDeclared at (arms all at).1.names
  arms_declared at end_of-Arm = (tt, none at)
  arms_declared at (more_of-Arm (Labels' xs r (more_of-Stmt x end_of-Stmt)) all) =
      let rest = arms_declared at all in ((labels_are at xs, (deed_declared at x, rest.0)), rest.1)
  arms_declared at (more_of-Arm (Default' colon r (more_of-Stmt x end_of-Stmt)) all) = let rest = arms_declared at all in (rest.0, deed_declared at x)
