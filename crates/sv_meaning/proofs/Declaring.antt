-- Each signal that an expression names is declared, at the width at which it is named.
use Rattle.std.proofs.Common.{◌≡◌, zero, suc, Bool, true, false, List, [], ◌∷◌, ◌++◌, refl, ap, subst, arith, Option, Some, None, cond, nat_lt, inl, inr}
use Rattle.std.specs.List.{Contains}
use Rattle.std.specs.Prelude.{bytes_eq, length}
use Rattle.std.proofs.lemmas.List.Elements.{Contains-append_cases}
use mathlib.Core.Former.{Count}
use Rattle.fourvec.specs.declared.Bit.{Bit}
use Rattle.sv_outside.specs.declared.refusal.Place.{Place}
use Rattle.sv_tree.specs.declared.word.Word.{Word}
use Rattle.sv_tree.specs.declared.exprs.RangeMark.{RangeMark}
use Rattle.sv_tree.specs.declared.exprs.RangeMark.TheVariants as range_mark
use Rattle.sv_tree.specs.declared.exprs.SystemName.{SystemName}
use Rattle.sv_tree.specs.declared.exprs.SystemName.TheVariants as system_name
use Rattle.sv_tree.specs.declared.exprs.UnaryOp.{UnaryOp}
use Rattle.sv_tree.specs.declared.exprs.UnaryOp.TheVariants as one
use Rattle.sv_tree.specs.declared.exprs.BinaryOp.{BinaryOp}
use Rattle.sv_tree.specs.declared.exprs.BinaryOp.TheVariants as two
use Rattle.sv_tree.specs.declared.exprs.Expr.{Expr, Literal, Name', Concat', Repeat', Row_of-Expr, end_of-Expr, more_of-Expr, Row_of-Select, end_of-Select, more_of-Select}
use Rattle.sv_tree.specs.declared.exprs.Select.{Select, Member}
use Rattle.sv_meaning.specs.Patterns.{paren, cast_literal, cast_name, cast_paren, cast_sign, system, unary, binary, choose, index, range}
use Rattle.sv_meaning.specs.Faults.{Faults}
use Rattle.sv_meaning.specs.Layouts.{Name, Entry, Layout, width, plain, What, number_is, type_is, signal_is, genvar_is, NamedSignal, Read, Scope, constant_scope, find, last_of, or_else, DeclaredIn, Declared}
use Rattle.sv_meaning.specs.Meanings.{Meaning, parts, Step, indices, all_indices, chain_layout, selected, constant_named, named, cast_to, bits_from}
use Rattle.sv_meaning.specs.Values.{mean, means, step, steps, unary_meaning, binary_meaning, system_meaning, operand_scope, left_scope}

-- ---- what a name stands for

-- an entry of this name
record Found (n : Name) (at : List Entry) (x : What) : Type 0 where
  pub name : Name
  pub is_there : Contains at (name, x)

behind : {A : Type 0} (y : A) (a : List A) (x : A) → Contains a x → Contains (y ∷ a) x
behind y a x h = (suc h.0, omega (arith, h.1), h.2)

chosen-entry : (b : Bool) (e x : What) → cond b (Some e) None ≡ Some x → e ≡ x
chosen-entry true e x h = cc
chosen-entry false e x h = cc

found : (n : Name) (at : List Entry) (x : What) → last_of n at ≡ Some x → Found n at x
unfolding last_of
found n [] x h = cc
found n (e ∷ more) x h = go (last_of n more) (λ y k. found n more y k) h
  where
    go : (o : Option What) → ((y : What) → o ≡ Some y → Found n more y) → or_else o (cond (bytes_eq e.0 n) (Some e.1) None) ≡ Some x → Found n (e ∷ more) x
    go (Some y) f k = let g = f x k in record { name = g.name; is_there = behind e more (g.name, x) g.is_there }
    go None f k = record { name = e.0; is_there = (0, omega arith, ap (λ y. (e.0, y)) (chosen-entry (bytes_eq e.0 n) e.1 x k)) }

-- ---- each of a meaning's names is declared

abbrev pub NamesDeclared : Scope → Meaning → Type 0
NamesDeclared at m = (s : NamedSignal) → Contains m.names s → Declared at s

none-declared : (at : Scope) (s : NamedSignal) → Contains [] s → Declared at s
none-declared at s (k, h, e) = absurd (omega arith)

both-declared : (at : Scope) (a b : List NamedSignal) → ((s : NamedSignal) → Contains a s → Declared at s) → ((s : NamedSignal) → Contains b s → Declared at s) → (s : NamedSignal) → Contains (a ++ b) s → Declared at s
both-declared at a b f g s h = elim (Contains-append_cases a b s h) [ inl l ↦ f s l | inr r ↦ g s r ]

declared-unary : (at : Scope) (op : UnaryOp) (a : Meaning) → NamesDeclared at a → NamesDeclared at (unary_meaning op a)
declared-unary at one.Plus a h = h
declared-unary at one.Minus a h = h
declared-unary at one.Not a h = h
declared-unary at one.LogicNot a h = h
declared-unary at one.And a h = h
declared-unary at one.Nand a h = h
declared-unary at one.Or a h = h
declared-unary at one.Nor a h = h
declared-unary at one.Xor a h = h
declared-unary at one.TildeXor a h = h
declared-unary at one.XorTilde a h = h

declared-binary : (at : Scope) (p : Place) (op : BinaryOp) (a b : Meaning) → NamesDeclared at a → NamesDeclared at b → NamesDeclared at (binary_meaning p op a b)
declared-binary at p two.Power a b g h = both-declared at a.names b.names g h
declared-binary at p two.Mul a b g h = both-declared at a.names b.names g h
declared-binary at p two.Div a b g h = both-declared at a.names b.names g h
declared-binary at p two.Rem a b g h = both-declared at a.names b.names g h
declared-binary at p two.Add a b g h = both-declared at a.names b.names g h
declared-binary at p two.Sub a b g h = both-declared at a.names b.names g h
declared-binary at p two.Shl a b g h = both-declared at a.names b.names g h
declared-binary at p two.Shr a b g h = both-declared at a.names b.names g h
declared-binary at p two.Sal a b g h = both-declared at a.names b.names g h
declared-binary at p two.Sar a b g h = both-declared at a.names b.names g h
declared-binary at p two.Lt a b g h = both-declared at a.names b.names g h
declared-binary at p two.Le a b g h = both-declared at a.names b.names g h
declared-binary at p two.Gt a b g h = both-declared at a.names b.names g h
declared-binary at p two.Ge a b g h = both-declared at a.names b.names g h
declared-binary at p two.Eq a b g h = both-declared at a.names b.names g h
declared-binary at p two.Ne a b g h = both-declared at a.names b.names g h
declared-binary at p two.And a b g h = both-declared at a.names b.names g h
declared-binary at p two.Xor a b g h = both-declared at a.names b.names g h
declared-binary at p two.TildeXor a b g h = both-declared at a.names b.names g h
declared-binary at p two.XorTilde a b g h = both-declared at a.names b.names g h
declared-binary at p two.Or a b g h = both-declared at a.names b.names g h
declared-binary at p two.LogicAnd a b g h = both-declared at a.names b.names g h
declared-binary at p two.LogicOr a b g h = both-declared at a.names b.names g h
declared-binary at p two.Implies a b g h = both-declared at a.names b.names g h
declared-binary at p two.Equivalent a b g h = both-declared at a.names b.names g h

declared-system : (at : Scope) (f : SystemName) (a : Meaning) → NamesDeclared at a → NamesDeclared at (system_meaning f a)
declared-system at system_name.Signed a h = h
declared-system at system_name.Unsigned a h = h
declared-system at system_name.Clog2 a h = none-declared at

declared-cast : (at : Scope) (w : Word) (x : Option What) (a : Meaning) → NamesDeclared at a → NamesDeclared at (cast_to w x a)
declared-cast at w (Some (type_is t)) a h = h
declared-cast at w (Some (number_is v s)) a h = h
declared-cast at w (Some (signal_is o n x)) a h = none-declared at
declared-cast at w (Some genvar_is) a h = none-declared at
declared-cast at w None a h = none-declared at

abbrev AllDeclared : Scope → List Meaning → Type 0
AllDeclared at [] = Unit {0}
AllDeclared at (m ∷ more) = NamesDeclared at m × AllDeclared at more

declared-parts : (at : Scope) (all : List Meaning) → AllDeclared at all → NamesDeclared at (parts all)
unfolding parts
declared-parts at [] h = none-declared at
declared-parts at (m ∷ more) h = both-declared at m.names (parts more).names h.0 (declared-parts at more h.1)

-- ---- names with their selects

declared-selected : (at : Scope) (o : Option Layout) (k : Bool) (why : Bool → Faults) (p : Place) (names : List NamedSignal) (all : List Step) (x : Layout) (f : Read → List Bit)
    → ((s : NamedSignal) → Contains names s → Declared at s) → NamesDeclared at (all_indices all) → NamesDeclared at (selected o k why p names all x f)
declared-selected at None k why p names all x f g h = none-declared at
declared-selected at (Some y) k why p names all x f g h = both-declared at names (all_indices all).names g h

declared-constant : (at : Scope) (b : Bool) (w : Word) (v : List Bit) (s : Bool) (all : List Step) → NamesDeclared at (all_indices all) → NamesDeclared at (constant_named b w v s all)
declared-constant at true w v s all h = declared-selected at (chain_layout (plain (length v) s) all) true _ w.place [] all _ (λ read. v) (none-declared at) h
declared-constant at false w v s all h = none-declared at

declared-whole : (at : Scope) (s t : NamedSignal) → Declared at s → Contains (s ∷ []) t → Declared at t
declared-whole at s t h (zero, k, e) = subst (Declared at) e h
declared-whole at s t h (suc i, k, e) = absurd (omega arith)

declared-named : (at : Scope) (w : Word) (x : Option What) (all : List Step) → find w.text at ≡ x → NamesDeclared at (all_indices all) → NamesDeclared at (named w x all)
declared-named at w (Some (number_is v s)) all e h = declared-constant at (nat_lt 0 (length v)) w v s all h
declared-named at w (Some (signal_is o n x)) all e h =
    let g = found w.text at.all (signal_is o n x) e in
    let d : DeclaredIn at.all (record { owner = o; number = n; width = width x }) = record { name = g.name; layout = x; is_there = g.is_there; wide = refl } in
    declared-selected at (chain_layout x all) false _ w.place _ all x (λ read. bits_from (read o n) 0 (width x)) (λ t. declared-whole at _ t (inl d)) h
declared-named at w (Some (type_is t)) all e h = none-declared at
declared-named at w (Some genvar_is) all e h = none-declared at
declared-named at w None all e h = none-declared at

-- ---- what is declared of a constant expression

from-above : (at : Scope) (s : NamedSignal) → Declared (constant_scope at) s → Declared at s
from-above at s (inl d) = inr d
from-above at s (inr d) = inr d

from-constant : (at : Scope) (m : Meaning) → NamesDeclared (constant_scope at) m → NamesDeclared at m
from-constant at m h s k = from-above at s (h s k)

from-operand : (at : Scope) (f : SystemName) (m : Meaning) → NamesDeclared (operand_scope f at) m → NamesDeclared at m
from-operand at system_name.Signed m h = h
from-operand at system_name.Unsigned m h = h
from-operand at system_name.Clog2 m h = from-constant at m h

from-left : (at : Scope) (mark : RangeMark) (m : Meaning) → NamesDeclared (left_scope mark at) m → NamesDeclared at m
from-left at range_mark.To m h = from-constant at m h
from-left at range_mark.Up m h = h
from-left at range_mark.Down m h = h

-- ---- all expressions

mutual
  unfolding mean all_indices

  -- each signal that an expression names is declared, at this width
  pub names-declared : (at : Scope) (x : Expr) → NamesDeclared at (mean at x)
  names-declared at (Literal w) = none-declared at
  names-declared at (Name' w s all) = declared-named at w (find w.text at) (steps at all) refl (steps-declared at all)
  names-declared at (paren p x) = names-declared at x
  names-declared at (Concat' p s all) = declared-parts at (means at all) (means-declared at all)
  names-declared at (Repeat' p r (more_of-Expr n end_of-Expr) s all) = declared-parts at (means at all) (means-declared at all)
  names-declared at (cast_literal w x) = names-declared at x
  names-declared at (cast_name w x) = declared-cast at w (find w.text (constant_scope at)) (mean at x) (names-declared at x)
  names-declared at (cast_paren p n x) = names-declared at x
  names-declared at (cast_sign s p x) = names-declared at x
  names-declared at (system f p x) = declared-system at f (mean (operand_scope f at) x) (from-operand at f (mean (operand_scope f at) x) (names-declared (operand_scope f at) x))
  names-declared at (unary op p x) = declared-unary at op (mean at x) (names-declared at x)
  names-declared at (binary x op p y) = declared-binary at p op (mean at x) (mean at y) (names-declared at x) (names-declared at y)
  names-declared at (choose c x y) =
      both-declared at ((mean at c).names ++ (mean at x).names) (mean at y).names
      (both-declared at (mean at c).names (mean at x).names (names-declared at c) (names-declared at x)) (names-declared at y)

  means-declared : {m : Count} (at : Scope) (all : Row_of-Expr m) → AllDeclared at (means at all)
  means-declared at end_of-Expr = tt
  means-declared at (more_of-Expr x all) = (names-declared at x, means-declared at all)

  -- the indices of one select
  step-declared : (at : Scope) (x : Select) → NamesDeclared at (indices (step at x))
  step-declared at (Member p w) = none-declared at
  step-declared at (index p x) = names-declared at x
  step-declared at (range p x m y) =
      both-declared at (mean (left_scope m at) x).names (mean (constant_scope at) y).names
      (from-left at m (mean (left_scope m at) x) (names-declared (left_scope m at) x)) (from-constant at (mean (constant_scope at) y) (names-declared (constant_scope at) y))

  steps-declared : {m : Count} (at : Scope) (all : Row_of-Select m) → NamesDeclared at (all_indices (steps at all))
  steps-declared at end_of-Select = none-declared at
  steps-declared at (more_of-Select x all) = both-declared at (indices (step at x)).names (all_indices (steps at all)).names (step-declared at x) (steps-declared at all)
