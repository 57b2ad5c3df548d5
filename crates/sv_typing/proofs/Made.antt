-- The meaning of trees as code makes them, with lists of parts.
use Rattle.std.proofs.Common.{◌≡◌, List, [], ◌∷◌, map, refl, ap}
use Rattle.sv_outside.specs.declared.refusal.Place.{Place}
use Rattle.sv_tree.specs.declared.word.Word.{Word}
use Rattle.sv_tree.specs.declared.exprs.Sign.{Sign}
use Rattle.sv_tree.specs.declared.exprs.SystemName.{SystemName}
use Rattle.sv_tree.specs.declared.exprs.Expr.{Expr}
use Rattle.sv_tree.specs.declared.exprs.Expr.TheVariants as e
use Rattle.sv_tree.specs.declared.exprs.Expr.TheBlock.{shape-the_row-Select-0, hidden-the_row-Select-0, shape-the_row-Expr-1, hidden-the_row-Expr-1, shape-the_row-Expr-2, hidden-the_row-Expr-2}
use Rattle.sv_tree.specs.declared.exprs.Select.{Select}
use Rattle.sv_tree.specs.declared.exprs.Select.TheVariants as s
use Rattle.sv_tree.specs.declared.exprs.UnaryOp.{UnaryOp}
use Rattle.sv_tree.specs.declared.exprs.BinaryOp.{BinaryOp}
use Rattle.sv_tree.specs.declared.exprs.RangeMark.{RangeMark}
use Rattle.sv_meaning.specs.Layouts.{Scope, constant_scope, find}
use Rattle.sv_meaning.specs.Meanings.{from, concat, repeated, chosen, named, sized_by, cast_to, to_sign, of_literal, to_member, to_index, to_range}
use Rattle.sv_meaning.specs.Values.{mean, means, step, steps, unary_meaning, binary_meaning, system_meaning, is_signed_word, operand_scope, left_scope}

pub mean_literal : (at : Scope) (w : Word) → mean at (e.Literal w) ≡ of_literal w
unfolding mean
mean_literal at w = refl

pub mean_paren : (at : Scope) (p : Place) (x : Expr) → mean at (e.Paren p x) ≡ from p (mean at x)
unfolding mean shape-the_row-Expr-1 hidden-the_row-Expr-1 denote.Hole.Carrier.hidden
mean_paren at p x = refl

pub mean_binary : (at : Scope) (x : Expr) (op : BinaryOp) (p : Place) (y : Expr) → mean at (e.Binary x op p y) ≡ binary_meaning p op (mean at x) (mean at y)
unfolding mean shape-the_row-Expr-1 hidden-the_row-Expr-1 denote.Hole.Carrier.hidden
mean_binary at x op p y = refl

pub mean_unary : (at : Scope) (op : UnaryOp) (p : Place) (x : Expr) → mean at (e.Unary op p x) ≡ from p (unary_meaning op (mean at x))
unfolding mean shape-the_row-Expr-1 hidden-the_row-Expr-1 denote.Hole.Carrier.hidden
mean_unary at op p x = refl

pub mean_choose : (at : Scope) (c x y : Expr) → mean at (e.Choose c x y) ≡ chosen (mean at c) (mean at x) (mean at y)
unfolding mean shape-the_row-Expr-1 hidden-the_row-Expr-1 denote.Hole.Carrier.hidden
mean_choose at c x y = refl

pub mean_system : (at : Scope) (f : SystemName) (p : Place) (x : Expr) → mean at (e.System f p x) ≡ from p (system_meaning f (mean (operand_scope f at) x))
unfolding mean shape-the_row-Expr-1 hidden-the_row-Expr-1 denote.Hole.Carrier.hidden
mean_system at f p x = refl

pub mean_cast_sign : (at : Scope) (s : Sign) (p : Place) (x : Expr) → mean at (e.CastSign s p x) ≡ from p (to_sign (is_signed_word s) (mean at x))
unfolding mean shape-the_row-Expr-1 hidden-the_row-Expr-1 denote.Hole.Carrier.hidden
mean_cast_sign at s p x = refl

pub mean_cast_paren : (at : Scope) (p : Place) (n x : Expr) → mean at (e.CastParen p n x) ≡ sized_by (from p (mean (constant_scope at) n)) (mean at x)
unfolding mean shape-the_row-Expr-1 hidden-the_row-Expr-1 denote.Hole.Carrier.hidden
mean_cast_paren at p n x = refl

pub mean_cast_literal : (at : Scope) (w : Word) (x : Expr) → mean at (e.CastLiteral w x) ≡ sized_by (of_literal w) (mean at x)
unfolding mean shape-the_row-Expr-1 hidden-the_row-Expr-1 denote.Hole.Carrier.hidden
mean_cast_literal at w x = refl

pub mean_cast_name : (at : Scope) (w : Word) (x : Expr) → mean at (e.CastName w x) ≡ cast_to w (find w.text (constant_scope at)) (mean at x)
unfolding mean shape-the_row-Expr-1 hidden-the_row-Expr-1 denote.Hole.Carrier.hidden
mean_cast_name at w x = refl

pub means_list : (at : Scope) (all : List Expr) → means at (hidden-the_row-Expr-2 all) ≡ map (mean at) all
unfolding mean shape-the_row-Expr-2 hidden-the_row-Expr-2 denote.Hole.Carrier.hidden
means_list at [] = refl
means_list at (x ∷ all) = ap (λ more. mean at x ∷ more) (means_list at all)

pub steps_list : (at : Scope) (all : List Select) → steps at (hidden-the_row-Select-0 all) ≡ map (step at) all
unfolding mean shape-the_row-Select-0 hidden-the_row-Select-0 denote.Hole.Carrier.hidden
steps_list at [] = refl
steps_list at (x ∷ all) = ap (λ more. step at x ∷ more) (steps_list at all)

pub mean_concat : (at : Scope) (p : Place) (all : List Expr) → mean at (e.Concat p all) ≡ concat p (map (mean at) all)
unfolding mean shape-the_row-Expr-2 hidden-the_row-Expr-2 denote.Hole.Carrier.hidden
mean_concat at p all = ap (concat p) (means_list at all)

pub mean_name : (at : Scope) (w : Word) (all : List Select) → mean at (e.Name w all) ≡ named w (find w.text at) (map (step at) all)
unfolding mean shape-the_row-Select-0 hidden-the_row-Select-0 denote.Hole.Carrier.hidden
mean_name at w all = ap (named w (find w.text at)) (steps_list at all)

pub mean_repeat : (at : Scope) (p : Place) (n : Expr) (all : List Expr) → mean at (e.Repeat p n all) ≡ repeated p (mean (constant_scope at) n) (map (mean at) all)
unfolding mean shape-the_row-Expr-1 hidden-the_row-Expr-1 shape-the_row-Expr-2 hidden-the_row-Expr-2 denote.Hole.Carrier.hidden
mean_repeat at p n all = ap (repeated p (mean (constant_scope at) n)) (means_list at all)

pub step_index : (at : Scope) (p : Place) (x : Expr) → step at (s.Index p x) ≡ to_index p (mean at x)
unfolding mean shape-the_row-Expr-1 hidden-the_row-Expr-1 denote.Hole.Carrier.hidden
step_index at p x = refl

pub step_member : (at : Scope) (p : Place) (w : Word) → step at (s.Member p w) ≡ to_member p w.text
unfolding mean
step_member at p w = refl

pub step_range : (at : Scope) (p : Place) (x : Expr) (m : RangeMark) (y : Expr) → step at (s.Range p x m y) ≡ to_range p (mean (left_scope m at) x) m (mean (constant_scope at) y)
unfolding mean shape-the_row-Expr-1 hidden-the_row-Expr-1 denote.Hole.Carrier.hidden
step_range at p x m y = refl
