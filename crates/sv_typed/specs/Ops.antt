-- Operators by how their operands are sized, and what each gives of the bits of its operands (IEEE 1800-2017, table 11-21).
use Rattle.std.specs.Prelude.{Bool, List}
use Rattle.fourvec.specs.declared.Bit.{Bit}
use Rattle.fourvec.specs.Bits.{not_of, and_of, or_of, xor_of, red_and_of, red_or_of, red_xor_of, truth_of, add_of, sub_of, mul_of, neg_of, eq_of, shl_of, shr_of}
use Rattle.sv_outside.specs.declared.refusal.Place.{Place}
use Rattle.sv_tree.specs.declared.exprs.UnaryOp.{UnaryOp}
use Rattle.sv_tree.specs.declared.exprs.UnaryOp.TheVariants as u
use Rattle.sv_tree.specs.declared.exprs.BinaryOp.{BinaryOp}
use Rattle.sv_tree.specs.declared.exprs.BinaryOp.TheVariants as b
use Rattle.sv_meaning.specs.Meanings.{Meaning, context_one, context_two, shift, comparison, reduction, logical, power}
use Rattle.sv_meaning.specs.Values.{less, quotient, remainder, moved_down}
use Rattle.sv_typed.specs.declared.ops.Turn.{Turn}
use Rattle.sv_typed.specs.declared.ops.Turn.TheVariants as turn
use Rattle.sv_typed.specs.declared.ops.Reduction.{Reduction}
use Rattle.sv_typed.specs.declared.ops.Reduction.TheVariants as red
use Rattle.sv_typed.specs.declared.ops.One.{One}
use Rattle.sv_typed.specs.declared.ops.One.TheVariants.{Turned, Reduced}
use Rattle.sv_typed.specs.declared.ops.Arithmetic.{Arithmetic}
use Rattle.sv_typed.specs.declared.ops.Arithmetic.TheVariants as arith
use Rattle.sv_typed.specs.declared.ops.Shift.{Shift}
use Rattle.sv_typed.specs.declared.ops.Shift.TheVariants as move
use Rattle.sv_typed.specs.declared.ops.Comparison.{Comparison}
use Rattle.sv_typed.specs.declared.ops.Comparison.TheVariants as cmp
use Rattle.sv_typed.specs.declared.ops.Logic.{Logic}
use Rattle.sv_typed.specs.declared.ops.Logic.TheVariants as logic
use Rattle.sv_typed.specs.declared.ops.Two.{Two}
use Rattle.sv_typed.specs.declared.ops.Two.TheVariants as two
use Rattle.sv_typed.specs.declared.ops.Pair.{Pair}
use Rattle.sv_typed.specs.declared.ops.Pair.TheVariants.{Computed, Moved, Compared, Combined}

abbrev pub one_of : UnaryOp → One
one_of u.Plus = Turned turn.Plus
one_of u.Minus = Turned turn.Minus
one_of u.Not = Turned turn.Not
one_of u.LogicNot = Reduced red.LogicNot
one_of u.And = Reduced red.And
one_of u.Nand = Reduced red.Nand
one_of u.Or = Reduced red.Or
one_of u.Nor = Reduced red.Nor
one_of u.Xor = Reduced red.Xor
one_of u.TildeXor = Reduced red.Xnor
one_of u.XorTilde = Reduced red.Xnor

abbrev pub two_of : BinaryOp → Two
two_of b.Power = two.Power
two_of b.Mul = two.Pair (Computed arith.Mul)
two_of b.Div = two.Pair (Computed arith.Div)
two_of b.Rem = two.Pair (Computed arith.Rem)
two_of b.Add = two.Pair (Computed arith.Add)
two_of b.Sub = two.Pair (Computed arith.Sub)
two_of b.Shl = two.Pair (Moved move.Left)
two_of b.Shr = two.Pair (Moved move.Right)
two_of b.Sal = two.Pair (Moved move.Left)
two_of b.Sar = two.Pair (Moved move.SignedRight)
two_of b.Lt = two.Pair (Compared cmp.Lt)
two_of b.Le = two.Pair (Compared cmp.Le)
two_of b.Gt = two.Pair (Compared cmp.Gt)
two_of b.Ge = two.Pair (Compared cmp.Ge)
two_of b.Eq = two.Pair (Compared cmp.Eq)
two_of b.Ne = two.Pair (Compared cmp.Ne)
two_of b.And = two.Pair (Computed arith.And)
two_of b.Xor = two.Pair (Computed arith.Xor)
two_of b.TildeXor = two.Pair (Computed arith.Xnor)
two_of b.XorTilde = two.Pair (Computed arith.Xnor)
two_of b.Or = two.Pair (Computed arith.Or)
two_of b.LogicAnd = two.Pair (Combined logic.And)
two_of b.LogicOr = two.Pair (Combined logic.Or)
two_of b.Implies = two.Pair (Combined logic.Implies)
two_of b.Equivalent = two.Pair (Combined logic.Equivalent)

-- ---- bits

abbrev pub turned : Turn → List Bit → List Bit
turned turn.Plus a = a
turned turn.Minus a = neg_of a
turned turn.Not a = not_of a

abbrev pub reduced : Reduction → List Bit → List Bit
reduced red.LogicNot a = not_of (truth_of a)
reduced red.And a = red_and_of a
reduced red.Nand a = not_of (red_and_of a)
reduced red.Or a = red_or_of a
reduced red.Nor a = not_of (red_or_of a)
reduced red.Xor a = red_xor_of a
reduced red.Xnor a = not_of (red_xor_of a)

abbrev pub computed : Arithmetic → Bool → List Bit → List Bit → List Bit
computed arith.Mul s a b = mul_of a b
computed arith.Div s a b = quotient s a b
computed arith.Rem s a b = remainder s a b
computed arith.Add s a b = add_of a b
computed arith.Sub s a b = sub_of a b
computed arith.And s a b = and_of a b
computed arith.Xor s a b = xor_of a b
computed arith.Xnor s a b = not_of (xor_of a b)
computed arith.Or s a b = or_of a b

abbrev pub moved : Shift → Bool → List Bit → List Bit → List Bit
moved move.Left s a b = shl_of a b
moved move.Right s a b = shr_of a b
moved move.SignedRight s a b = moved_down s a b

abbrev pub compared : Comparison → Bool → List Bit → List Bit → List Bit
compared cmp.Lt s a b = less s a b
compared cmp.Le s a b = not_of (less s b a)
compared cmp.Gt s a b = less s b a
compared cmp.Ge s a b = not_of (less s a b)
compared cmp.Eq s a b = eq_of a b
compared cmp.Ne s a b = not_of (eq_of a b)

-- of the truth of both operands
abbrev pub combined_truths : Logic → List Bit → List Bit → List Bit
combined_truths logic.And a b = and_of a b
combined_truths logic.Or a b = or_of a b
combined_truths logic.Implies a b = or_of (not_of a) b
combined_truths logic.Equivalent a b = not_of (xor_of a b)

abbrev pub combined : Logic → List Bit → List Bit → List Bit
combined op a b = combined_truths op (truth_of a) (truth_of b)

-- ---- meanings

abbrev pub one_meaning : One → Meaning → Meaning
one_meaning (Turned op) a = context_one (turned op) a
one_meaning (Reduced op) a = reduction (reduced op) a

abbrev pub pair_meaning : Pair → Meaning → Meaning → Meaning
pair_meaning (Computed op) a b = context_two (computed op) a b
pair_meaning (Moved op) a b = shift (moved op) a b
pair_meaning (Compared op) a b = comparison (compared op) a b
pair_meaning (Combined op) a b = logical (combined_truths op) a b

abbrev pub two_meaning : Place → Two → Meaning → Meaning → Meaning
two_meaning p two.Power a b = power p a b
two_meaning p (two.Pair op) a b = pair_meaning op a b
