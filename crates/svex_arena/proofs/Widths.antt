-- The width of a node's value.
use Rattle.std.proofs.Common.{◌≡◌, ℕ, ◌<◌, List, length, refl, sym, ap, ◌∙◌}
use Rattle.fourvec.proofs.Widths.{length-unfloat_of, length-not_of, length-neg_of, length-red_and_of, length-red_or_of, length-red_xor_of, length-truth_of, length-and_of, length-or_of, length-xor_of, length-eq_of, length-lt_of, length-slt_of, length-add_of, length-sub_of, length-mul_of, length-div_of, length-rem_of, length-sdiv_of, length-srem_of, length-res_of, length-shl_of, length-shr_of, length-sar_of, length-concat_of, length-slice_of, length-zext_of, length-sext_of, length-cond_of, length-pick_of, length-dyn_slice_of, length-dyn_put_of}
use Rattle.svex_shape.specs.declared.shape.Un.{Un}
use Rattle.svex_shape.specs.declared.shape.Un.TheVariants.{Unfloat, Not, Neg, RedAnd, RedOr, RedXor, Truth}
use Rattle.svex_shape.specs.declared.shape.Bin.{Bin}
use Rattle.svex_shape.specs.declared.shape.Bin.TheVariants.{And, Or, Xor, Eq, Lt, Slt, Add, Sub, Mul, Div, Rem, Sdiv, Srem, Res, Shl, Shr, Sar, Concat}
use Rattle.svex_shape.specs.declared.shape.Shape.{Shape}
use Rattle.svex_shape.specs.declared.shape.Shape.TheVariants.{Const, Var, Unary, Binary, Cond, Pick, Slice, Zext, Sext, DynSlice, DynPut}
use Rattle.svex_shape.specs.Shapes.{OnChildren, shape_at, width_of, width_at, unary_width, binary_width, FitsWidths, FitsPair}
use Rattle.svex_shape.specs.Values.{Vector, Reading, HasWidths, value_of, value_at, unary_value, binary_value}
use Rattle.svex_arena.specs.Arenas.{IsArena}
use Rattle.svex_arena.proofs.Numbering.{every_node}
use Rattle.svex_arena.proofs.Steps.{value-step, width-step, width_reads, fits_same}

pub length-unary : (op : Un) (a : Vector) → length (unary_value op a) ≡ unary_width op (length a)
length-unary Unfloat a = length-unfloat_of a
length-unary Not a = length-not_of a
length-unary Neg a = length-neg_of a
length-unary RedAnd a = length-red_and_of a
length-unary RedOr a = length-red_or_of a
length-unary RedXor a = length-red_xor_of a
length-unary Truth a = length-truth_of a

pub length-binary : (op : Bin) (a b : Vector) → FitsPair op (length a) (length b) → length (binary_value op a b) ≡ binary_width op (length a) (length b)
length-binary And a b h = length-and_of a b h
length-binary Or a b h = length-or_of a b h
length-binary Xor a b h = length-xor_of a b h
length-binary Eq a b h = length-eq_of a b
length-binary Lt a b h = length-lt_of a b
length-binary Slt a b h = length-slt_of a b
length-binary Add a b h = length-add_of a b
length-binary Sub a b h = length-sub_of a b
length-binary Mul a b h = length-mul_of a b
length-binary Div a b h = length-div_of a b
length-binary Rem a b h = length-rem_of a b
length-binary Sdiv a b h = length-sdiv_of a b
length-binary Srem a b h = length-srem_of a b
length-binary Res a b h = length-res_of a b h
length-binary Shl a b h = length-shl_of a b
length-binary Shr a b h = length-shr_of a b
length-binary Sar a b h = length-sar_of a b
length-binary Concat a b h = length-concat_of a b

-- a shape's value has the shape's width
pub value_width : (r : Reading) (f : ℕ → Vector) (s : Shape) → HasWidths r → FitsWidths (λ k. length (f k)) s → length (value_of r f s) ≡ width_of (λ k. length (f k)) s
unfolding value_of width_of
value_width r f (Const v) w h = refl
value_width r f (Var name width) w h = w name width
value_width r f (Unary op a) w h = length-unary op (f a)
value_width r f (Binary op a b) w h = length-binary op (f a) (f b) h
value_width r f (Cond c a b) w h = length-cond_of (f c) (f a) (f b) h.1
value_width r f (Pick c a b) w h = length-pick_of (f c) (f a) (f b) h.1
value_width r f (Slice a lo width) w h = length-slice_of (f a) lo width h.1
value_width r f (Zext a width) w h = length-zext_of (f a) width h.0
value_width r f (Sext a width) w h = length-sext_of (f a) width h.0
value_width r f (DynSlice a at spot) w h = length-dyn_slice_of (f a) (f at) spot
value_width r f (DynPut a at spot put) w h = length-dyn_put_of (f a) (f at) spot (f put)

-- each node's value has the node's width
pub length-value_at : (r : Reading) (shapes : List Shape) (k : ℕ) → HasWidths r → IsArena shapes → k < length shapes → length (value_at r shapes k) ≡ width_at shapes k
length-value_at r shapes k w i h = every_node (λ j. length (value_at r shapes j) ≡ width_at shapes j) shapes i.children turn k h
  where
    turn : (j : ℕ) → j < length shapes → OnChildren (λ n. length (value_at r shapes n) ≡ width_at shapes n) (shape_at shapes j) → length (value_at r shapes j) ≡ width_at shapes j
    turn j l e =
        ap length (value-step r shapes j (i.children j l)) ∙ value_width r (value_at r shapes) (shape_at shapes j) w (fits_same (λ n. length (value_at r shapes n)) (width_at shapes) (shape_at shapes j) e (i.fits j l)) ∙ width_reads (λ n. length (value_at r shapes n)) (width_at shapes) (shape_at shapes j) e ∙ sym (width-step shapes j (i.children j l))

pub ruleset widths = (length-value_at)
