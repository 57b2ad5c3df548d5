-- What a typed expression's node says of the expression in the source.
use Rattle.std.proofs.Common.{◌≡◌, ℕ, max, Bool, List, [], take, refl, sym, ap, ◌∙◌, IsTrue}
use Rattle.svex_shape.specs.declared.shape.VarName.{VarName}
use Rattle.svex_shape.specs.declared.shape.Shape.{Shape}
use Rattle.sv_tree.specs.declared.exprs.Expr.{Expr}
use Rattle.sv_meaning.specs.Layouts.{Read, Scope, Origin, of_wires, of_choice, of_samples}
use Rattle.sv_meaning.specs.Meanings.{Meaning, assigned}
use Rattle.sv_meaning.specs.Values.{mean}
use Rattle.sv_meaning.proofs.Declaring.{names-declared}
use Rattle.sv_typed.specs.declared.tree.Typed.{Typed}
use Rattle.sv_typed.specs.Typed.{worth, Stands}
use Rattle.sv_lower.specs.declared.look.Look.TheVariants.{Present}
use Rattle.sv_lower.specs.Lowering.{look_test, each_signal, HoldsOfNames, HoldsOfDeclared, IsIn}
use Rattle.sv_lower.proofs.Naming.{look_holds}

-- no wire has a node in the present
pub present_is_in : (shapes : List Shape) → IsIn Present shapes
present_is_in shapes = record { there = λ n node h. cc }

-- whatever nodes there are
present_test : (shapes : List Shape) (p : VarName → ℕ → Bool) (o : Origin) (n w : ℕ) → look_test Present [] p o n w ≡ look_test Present shapes p o n w
unfolding look_test
present_test shapes p of_wires n w = refl
present_test shapes p of_choice n w = refl
present_test shapes p of_samples n w = refl

pub assigned_worth : (t : Typed) (m : Meaning) (read : Read) (w : ℕ) → Stands t m → take w (worth t read (max w t.width) t.signed) ≡ assigned m read w
unfolding Stands
assigned_worth t m read w h = sym (ap (λ x. assigned x read w) h.is)

pub names_hold : (m : Meaning) (t : Typed) (shapes : List Shape) (p : VarName → ℕ → Bool) → Stands t m → HoldsOfNames m.names p → IsTrue (each_signal (look_test Present shapes p) t)
unfolding Stands
names_hold m t shapes p h k = look_holds Present shapes t p (λ s i. sym (present_test shapes p s.owner s.number s.width) ∙ k s (h.names s i))

pub declared_hold : (at : Scope) (x : Expr) (t : Typed) (shapes : List Shape) (p : VarName → ℕ → Bool) → Stands t (mean at x) → HoldsOfDeclared at p → IsTrue (each_signal (look_test Present shapes p) t)
declared_hold at x t shapes p h k = names_hold (mean at x) t shapes p h (λ s i. k s (names-declared at x s i))
