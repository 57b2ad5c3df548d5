-- The meaning of each expression, by cases on its tree.
use Rattle.std.specs.Prelude.{Bool, true, false, List, [], ◌∷◌}
use mathlib.Core.Former.{Count}
use Rattle.fourvec.specs.declared.Bit.{Bit}
use Rattle.fourvec.specs.Bits.{not_of, and_of, or_of, xor_of, red_and_of, red_or_of, red_xor_of, truth_of, add_of, sub_of, mul_of, div_of, rem_of, sdiv_of, srem_of, neg_of, eq_of, lt_of, slt_of, shl_of, shr_of, sar_of}
use Rattle.sv_tree.specs.declared.exprs.Expr.{Expr, Literal, Name', Concat', Repeat', Row_of-Expr, end_of-Expr, more_of-Expr, Row_of-Select, end_of-Select, more_of-Select}
use Rattle.sv_tree.specs.declared.exprs.Select.{Select, Member}
use Rattle.sv_tree.specs.declared.exprs.RangeMark.{RangeMark}
use Rattle.sv_tree.specs.declared.exprs.RangeMark.TheVariants as range_mark
use Rattle.sv_tree.specs.declared.exprs.Sign.{Sign}
use Rattle.sv_tree.specs.declared.exprs.Sign.TheVariants as sign
use Rattle.sv_tree.specs.declared.exprs.SystemName.{SystemName}
use Rattle.sv_tree.specs.declared.exprs.SystemName.TheVariants as system_name
use Rattle.sv_tree.specs.declared.exprs.UnaryOp.{UnaryOp}
use Rattle.sv_tree.specs.declared.exprs.UnaryOp.TheVariants as one
use Rattle.sv_tree.specs.declared.exprs.BinaryOp.{BinaryOp}
use Rattle.sv_tree.specs.declared.exprs.BinaryOp.TheVariants as two
use Rattle.sv_meaning.specs.Patterns.{paren, cast_literal, cast_name, cast_paren, cast_sign, system, unary, binary, choose, index, range}
use Rattle.sv_outside.specs.declared.refusal.Place.{Place}
use Rattle.sv_meaning.specs.Layouts.{Scope, constant_scope, find}
use Rattle.sv_meaning.specs.Meanings.{Meaning, context_one, context_two, shift, comparison, reduction, logical, chosen, power, from, concat, repeated, to_sign, sized_by, cast_to, log_up, Step, to_member, to_index, to_range, named, of_literal}

abbrev pub is_signed_word : Sign → Bool
is_signed_word sign.Signed = true
is_signed_word sign.Unsigned = false

abbrev pub less : Bool → List Bit → List Bit → List Bit
less true a b = slt_of a b
less false a b = lt_of a b

abbrev pub quotient : Bool → List Bit → List Bit → List Bit
quotient true a b = sdiv_of a b
quotient false a b = div_of a b

abbrev pub remainder : Bool → List Bit → List Bit → List Bit
remainder true a b = srem_of a b
remainder false a b = rem_of a b

abbrev pub moved_down : Bool → List Bit → List Bit → List Bit
moved_down true a b = sar_of a b
moved_down false a b = shr_of a b

-- IEEE 1800-2017 sections 11.4.3, 11.4.7 to 11.4.9; unary `+` gives its operand (this project's rule)
abbrev pub unary_meaning : UnaryOp → Meaning → Meaning
unary_meaning one.Plus a = context_one (λ x. x) a
unary_meaning one.Minus a = context_one neg_of a
unary_meaning one.Not a = context_one not_of a
unary_meaning one.LogicNot a = reduction (λ x. not_of (truth_of x)) a
unary_meaning one.And a = reduction red_and_of a
unary_meaning one.Nand a = reduction (λ x. not_of (red_and_of x)) a
unary_meaning one.Or a = reduction red_or_of a
unary_meaning one.Nor a = reduction (λ x. not_of (red_or_of x)) a
unary_meaning one.Xor a = reduction red_xor_of a
unary_meaning one.TildeXor a = reduction (λ x. not_of (red_xor_of x)) a
unary_meaning one.XorTilde a = reduction (λ x. not_of (red_xor_of x)) a

-- sections 11.4.3 to 11.4.10
abbrev pub binary_meaning : Place → BinaryOp → Meaning → Meaning → Meaning
binary_meaning p two.Power a b = power p a b
binary_meaning p two.Mul a b = context_two (λ s. mul_of) a b
binary_meaning p two.Div a b = context_two quotient a b
binary_meaning p two.Rem a b = context_two remainder a b
binary_meaning p two.Add a b = context_two (λ s. add_of) a b
binary_meaning p two.Sub a b = context_two (λ s. sub_of) a b
binary_meaning p two.Shl a b = shift (λ s. shl_of) a b
binary_meaning p two.Shr a b = shift (λ s. shr_of) a b
binary_meaning p two.Sal a b = shift (λ s. shl_of) a b
binary_meaning p two.Sar a b = shift moved_down a b
binary_meaning p two.Lt a b = comparison less a b
binary_meaning p two.Le a b = comparison (λ s x y. not_of (less s y x)) a b
binary_meaning p two.Gt a b = comparison (λ s x y. less s y x) a b
binary_meaning p two.Ge a b = comparison (λ s x y. not_of (less s x y)) a b
binary_meaning p two.Eq a b = comparison (λ s. eq_of) a b
binary_meaning p two.Ne a b = comparison (λ s x y. not_of (eq_of x y)) a b
binary_meaning p two.And a b = context_two (λ s. and_of) a b
binary_meaning p two.Xor a b = context_two (λ s. xor_of) a b
binary_meaning p two.TildeXor a b = context_two (λ s x y. not_of (xor_of x y)) a b
binary_meaning p two.XorTilde a b = context_two (λ s x y. not_of (xor_of x y)) a b
binary_meaning p two.Or a b = context_two (λ s. or_of) a b
binary_meaning p two.LogicAnd a b = logical and_of a b
binary_meaning p two.LogicOr a b = logical or_of a b
binary_meaning p two.Implies a b = logical (λ x y. or_of (not_of x) y) a b
binary_meaning p two.Equivalent a b = logical (λ x y. not_of (xor_of x y)) a b

abbrev pub system_meaning : SystemName → Meaning → Meaning
system_meaning system_name.Signed a = to_sign true a
system_meaning system_name.Unsigned a = to_sign false a
system_meaning system_name.Clog2 a = log_up a

-- The operand of `$clog2` is a constant expression.
abbrev pub operand_scope : SystemName → Scope → Scope
operand_scope system_name.Clog2 at = constant_scope at
operand_scope f at = at

-- Both bounds of a range are constant expressions; where a width follows, that alone is one.
abbrev pub left_scope : RangeMark → Scope → Scope
left_scope range_mark.To at = constant_scope at
left_scope m at = at

-- A constant expression sees what is declared above it alone: counts, sizes and types of casts, bounds and widths of ranges, and
-- operands of `$clog2`. All else sees all nets and variables.
unfoldable mutual
  pub mean : Scope → Expr → Meaning
  mean at (Literal w) = of_literal w
  mean at (Name' w s all) = named w (find w.text at) (steps at all)
  mean at (paren p x) = from p (mean at x)
  mean at (Concat' p s all) = concat p (means at all)
  mean at (Repeat' p r (more_of-Expr n end_of-Expr) s all) = repeated p (mean (constant_scope at) n) (means at all)
  mean at (cast_literal w x) = sized_by (of_literal w) (mean at x)
  mean at (cast_name w x) = cast_to w (find w.text (constant_scope at)) (mean at x)
  mean at (cast_paren p n x) = sized_by (from p (mean (constant_scope at) n)) (mean at x)
  mean at (cast_sign s p x) = from p (to_sign (is_signed_word s) (mean at x))
  mean at (system f p x) = from p (system_meaning f (mean (operand_scope f at) x))
  mean at (unary op p x) = from p (unary_meaning op (mean at x))
  mean at (binary x op p y) = binary_meaning p op (mean at x) (mean at y)
  mean at (choose c x y) = chosen (mean at c) (mean at x) (mean at y)

  pub means : {m : Count} → Scope → Row_of-Expr m → List Meaning
  means at end_of-Expr = []
  means at (more_of-Expr x all) = mean at x ∷ means at all

  pub step : Scope → Select → Step
  step at (Member p w) = to_member p w.text
  step at (index p x) = to_index p (mean at x)
  step at (range p x m y) = to_range p (mean (left_scope m at) x) m (mean (constant_scope at) y)

  pub steps : {m : Count} → Scope → Row_of-Select m → List Step
  steps at end_of-Select = []
  steps at (more_of-Select x all) = step at x ∷ steps at all
