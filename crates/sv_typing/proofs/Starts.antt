-- Where expressions begin.
use Rattle.std.proofs.Common.{◌≡◌, Bool, true, false, nat_lt, List, [], length, Option, Some, None, refl, ap, ◌∙◌}
use Rattle.fourvec.specs.declared.Bit.{Bit}
use Rattle.sv_outside.specs.declared.refusal.Place.{Place}
use Rattle.sv_tree.specs.declared.word.Word.{Word}
use Rattle.sv_tree.specs.declared.exprs.Sign.{Sign}
use Rattle.sv_tree.specs.declared.exprs.SystemName.{SystemName}
use Rattle.sv_tree.specs.declared.exprs.UnaryOp.{UnaryOp}
use Rattle.sv_tree.specs.declared.exprs.BinaryOp.{BinaryOp}
use Rattle.sv_tree.specs.declared.exprs.Expr.{Expr, Literal}
use Rattle.sv_tree.specs.declared.exprs.Expr.TheVariants as e
use Rattle.sv_tree.specs.declared.exprs.Select.{Select}
use Rattle.sv_meaning.specs.Faults.{Faults}
use Rattle.sv_meaning.specs.Layouts.{Layout, Scope, constant_scope, find, What, number_is, type_is, signal_is, genvar_is, NamedSignal, Read, plain}
use Rattle.sv_meaning.specs.Meanings.{Meaning, Step, selected, constant_named, named, cast_to, chain_layout}
use Rattle.sv_meaning.specs.Values.{mean, binary_meaning}
use Rattle.sv_tree.specs.declared.exprs.BinaryOp.TheVariants as two
use Rattle.sv_typing.proofs.Made.{mean_literal, mean_name, mean_paren, mean_concat, mean_repeat, mean_cast_literal, mean_cast_name, mean_cast_paren, mean_cast_sign, mean_system, mean_unary, mean_binary, mean_choose}

start_of : Meaning → Place
start_of m = m.start

-- ---- where meanings start

selected_start : (o : Option Layout) (c : Bool) (why : Bool → Faults) (p : Place) (names : List NamedSignal) (all : List Step) (x : Layout) (f : Read → List Bit) →
    (selected o c why p names all x f).start ≡ p
selected_start None c why p names all x f = refl
selected_start (Some y) c why p names all x f = refl

constant_start : (b : Bool) (w : Word) (v : List Bit) (s : Bool) (all : List Step) → (constant_named b w v s all).start ≡ w.place
constant_start true w v s all = selected_start (chain_layout (plain (length v) s) all) true _ w.place [] all _ _
constant_start false w v s all = refl

pub named_start : (w : Word) (what : Option What) (all : List Step) → (named w what all).start ≡ w.place
named_start w None all = refl
named_start w (Some (number_is v s)) all = constant_start (nat_lt 0 (length v)) w v s all
named_start w (Some (type_is t)) all = refl
named_start w (Some (signal_is o n x)) all = selected_start (chain_layout x all) false _ w.place _ all x _
named_start w (Some genvar_is) all = refl

cast_start : (w : Word) (what : Option What) (m : Meaning) → (cast_to w what m).start ≡ w.place
cast_start w None m = refl
cast_start w (Some (number_is v s)) m = named_start w (Some (number_is v s)) []
cast_start w (Some (type_is t)) m = refl
cast_start w (Some (signal_is o n x)) m = refl
cast_start w (Some genvar_is) m = refl

two_start : (p : Place) (op : BinaryOp) (m n : Meaning) → (binary_meaning p op m n).start ≡ m.start
two_start p two.Power m n = refl
two_start p op m n = refl

pub start_literal : (at : Scope) (w : Word) → (mean at (e.Literal w)).start ≡ w.place
start_literal at w = ap (λ (m : Meaning). m.start) (mean_literal at w)

pub start_name : (at : Scope) (w : Word) (all : List Select) → (mean at (e.Name w all)).start ≡ w.place
start_name at w all = ap (λ (m : Meaning). m.start) (mean_name at w all) ∙ named_start w (find w.text at) _

pub start_paren : (at : Scope) (p : Place) (x : Expr) → (mean at (e.Paren p x)).start ≡ p
start_paren at p x = ap (λ (m : Meaning). m.start) (mean_paren at p x)

pub start_concat : (at : Scope) (p : Place) (all : List Expr) → (mean at (e.Concat p all)).start ≡ p
start_concat at p all = ap (λ (m : Meaning). m.start) (mean_concat at p all)

pub start_repeat : (at : Scope) (p : Place) (n : Expr) (all : List Expr) → (mean at (e.Repeat p n all)).start ≡ p
start_repeat at p n all = ap (λ (m : Meaning). m.start) (mean_repeat at p n all)

pub start_cast_literal : (at : Scope) (w : Word) (x : Expr) → (mean at (e.CastLiteral w x)).start ≡ w.place
start_cast_literal at w x = ap (λ (m : Meaning). m.start) (mean_cast_literal at w x)

pub start_cast_name : (at : Scope) (w : Word) (x : Expr) → (mean at (e.CastName w x)).start ≡ w.place
start_cast_name at w x = ap (λ (m : Meaning). m.start) (mean_cast_name at w x) ∙ cast_start w (find w.text (constant_scope at)) (mean at x)

pub start_cast_paren : (at : Scope) (p : Place) (n x : Expr) → (mean at (e.CastParen p n x)).start ≡ p
start_cast_paren at p n x = ap (λ (m : Meaning). m.start) (mean_cast_paren at p n x)

pub start_cast_sign : (at : Scope) (s : Sign) (p : Place) (x : Expr) → (mean at (e.CastSign s p x)).start ≡ p
start_cast_sign at s p x = ap (λ (m : Meaning). m.start) (mean_cast_sign at s p x)

pub start_system : (at : Scope) (f : SystemName) (p : Place) (x : Expr) → (mean at (e.System f p x)).start ≡ p
start_system at f p x = ap (λ (m : Meaning). m.start) (mean_system at f p x)

pub start_unary : (at : Scope) (op : UnaryOp) (p : Place) (x : Expr) → (mean at (e.Unary op p x)).start ≡ p
start_unary at op p x = ap (λ (m : Meaning). m.start) (mean_unary at op p x)

pub start_binary : (at : Scope) (x : Expr) (op : BinaryOp) (p : Place) (y : Expr) → (mean at (e.Binary x op p y)).start ≡ (mean at x).start
start_binary at x op p y = ap (λ (m : Meaning). m.start) (mean_binary at x op p y) ∙ two_start p op (mean at x) (mean at y)

pub start_choose : (at : Scope) (c x y : Expr) → (mean at (e.Choose c x y)).start ≡ (mean at c).start
start_choose at c x y = ap (λ (m : Meaning). m.start) (mean_choose at c x y)

pub ruleset starts = (start_literal, start_name, start_paren, start_concat, start_repeat, start_cast_literal, start_cast_name, start_cast_paren, start_cast_sign, start_system, start_unary, start_binary, start_choose)
