-- Operators by their groups mean what they mean.
use Rattle.std.proofs.Common.{◌≡◌, Bool, true, false, List, length, refl}
use Rattle.fourvec.specs.declared.Bit.{Bit}
use Rattle.fourvec.proofs.Widths.{length-lt_of, length-slt_of}
use Rattle.sv_outside.specs.declared.refusal.Place.{Place}
use Rattle.sv_tree.specs.declared.exprs.UnaryOp.{UnaryOp}
use Rattle.sv_tree.specs.declared.exprs.UnaryOp.TheVariants as u
use Rattle.sv_tree.specs.declared.exprs.BinaryOp.{BinaryOp}
use Rattle.sv_tree.specs.declared.exprs.BinaryOp.TheVariants as b
use Rattle.sv_meaning.specs.Meanings.{Meaning}
use Rattle.sv_meaning.specs.Values.{less, unary_meaning, binary_meaning}
use Rattle.sv_typed.specs.Ops.{one_of, two_of, one_meaning, two_meaning}

pub one_bit : (s : Bool) (x y : List Bit) → length (less s x y) ≡ 1
one_bit true x y = length-slt_of x y
one_bit false x y = length-lt_of x y

pub unary_is : (op : UnaryOp) (a : Meaning) → unary_meaning op a ≡ one_meaning (one_of op) a
unary_is u.Plus a = refl
unary_is u.Minus a = refl
unary_is u.Not a = refl
unary_is u.LogicNot a = refl
unary_is u.And a = refl
unary_is u.Nand a = refl
unary_is u.Or a = refl
unary_is u.Nor a = refl
unary_is u.Xor a = refl
unary_is u.TildeXor a = refl
unary_is u.XorTilde a = refl

pub binary_is : (p : Place) (op : BinaryOp) (x y : Meaning) → binary_meaning p op x y ≡ two_meaning p (two_of op) x y
binary_is p b.Power x y = refl
binary_is p b.Mul x y = refl
binary_is p b.Div x y = refl
binary_is p b.Rem x y = refl
binary_is p b.Add x y = refl
binary_is p b.Sub x y = refl
binary_is p b.Shl x y = refl
binary_is p b.Shr x y = refl
binary_is p b.Sal x y = refl
binary_is p b.Sar x y = refl
binary_is p b.Lt x y = refl
binary_is p b.Le x y = refl
binary_is p b.Gt x y = refl
binary_is p b.Ge x y = refl
binary_is p b.Eq x y = refl
binary_is p b.Ne x y = refl
binary_is p b.And x y = refl
binary_is p b.Xor x y = refl
binary_is p b.TildeXor x y = refl
binary_is p b.XorTilde x y = refl
binary_is p b.Or x y = refl
binary_is p b.LogicAnd x y = refl
binary_is p b.LogicOr x y = refl
binary_is p b.Implies x y = refl
binary_is p b.Equivalent x y = refl
