-- The laws of operators on one vector.
use Rattle.std.proofs.Common.{◌≡◌, ℕ, ◌<◌, true, List, [], ◌∷◌, length, refl, sym, ap, ◌∙◌, arith}
use Rattle.fourvec.specs.declared.Bit.TheVariants.{Zero, One, Unknown, Floating}
use Rattle.fourvec.specs.Bits.{each, over, unfloat_bit, unfloat_of, not_bit, not_of, truth_of, some_one, all_zero}
use Rattle.svex_shape.specs.declared.shape.Un.{Un}
use Rattle.svex_shape.specs.declared.shape.Un.TheVariants.{Unfloat, Not, Neg, RedAnd, RedOr, RedXor, Truth}
use Rattle.svex_shape.specs.declared.shape.Shape.{Shape}
use Rattle.svex_shape.specs.declared.shape.Shape.TheVariants.{Const, Unary}
use Rattle.svex_shape.specs.Shapes.{width_of, width_at, unary_width}
use Rattle.svex_shape.specs.Values.{Vector, value_of, value_at, unary_value, each_variable_of, each_variable}
use Rattle.svex_arena.specs.Arenas.{IsArena}
use Rattle.svex_arena.proofs.Steps.{value_follows, width_follows, variables_follow}
use Rattle.svex_arena.proofs.Widths.{length-value_at, length-unary}
use Rattle.svex_rewrite.specs.Meaning.{Becomes, leaves_one_bit, HasShape}
use Rattle.svex_rewrite.proofs.Vectors.{same_on_bit, each_twice}
use Rattle.svex_rewrite.proofs.Becoming.{becomes_as, becomes_const, const_value, const_width}

pub folds : (shapes : List Shape) (op : Un) (a : ℕ) (v y : Vector) → IsArena shapes → a < length shapes → HasShape shapes a (Const v) → y ≡ unary_value op v → Becomes shapes (Unary op a) (Const y)
unfolding value_of width_of
folds shapes op a v y i l e q =
    becomes_const shapes (Unary op a) y i (ap length q ∙ length-unary op v ∙ ap (unary_width op) (sym (const_width shapes a v i l e))) (λ r h. q ∙ ap (unary_value op) (sym (const_value r shapes a v i l e)))

-- ---- two negations

not_not : (a : Vector) → unfloat_of a ≡ not_of (not_of a)
not_not a = sym (each_twice not_bit not_bit unfloat_bit (same_on_bit (λ x. not_bit (not_bit x)) unfloat_bit refl) a)

pub not_of_not : (shapes : List Shape) (a x : ℕ) (t : Shape) → IsArena shapes → a < length shapes → HasShape shapes a (Unary Not x) → Becomes shapes (Unary Unfloat x) t → Becomes shapes (Unary Not a) t
unfolding value_of width_of each_variable_of
not_of_not shapes a x t i l e b =
    becomes_as shapes (Unary Not a) (Unary Unfloat x) t b (sym (width_follows shapes a i l ∙ ap (width_of (width_at shapes)) e.is))
    (λ r h. not_not (value_at r shapes x) ∙ ap not_of (sym (value_follows r shapes a i l ∙ ap (value_of r (value_at r shapes)) e.is)))
    (λ p m. sym (variables_follow p shapes a i l ∙ ap (each_variable_of p (each_variable p shapes)) e.is) ∙ m)

-- ---- one bit

one_bit : (op : Un) → leaves_one_bit op ≡ true → (a : Vector) → length a ≡ 1 → unfloat_of a ≡ unary_value op a
unfolding each over truth_of some_one all_zero
one_bit op h [] e = cc
one_bit op h (x ∷ y ∷ more) e = absurd (omega arith)
one_bit Unfloat h (x ∷ []) e = refl
one_bit Not h (x ∷ []) e = cc
one_bit Neg h (x ∷ []) e = cc
one_bit RedAnd h (Zero ∷ []) e = refl
one_bit RedAnd h (One ∷ []) e = refl
one_bit RedAnd h (Unknown ∷ []) e = refl
one_bit RedAnd h (Floating ∷ []) e = refl
one_bit RedOr h (Zero ∷ []) e = refl
one_bit RedOr h (One ∷ []) e = refl
one_bit RedOr h (Unknown ∷ []) e = refl
one_bit RedOr h (Floating ∷ []) e = refl
one_bit RedXor h (Zero ∷ []) e = refl
one_bit RedXor h (One ∷ []) e = refl
one_bit RedXor h (Unknown ∷ []) e = refl
one_bit RedXor h (Floating ∷ []) e = refl
one_bit Truth h (Zero ∷ []) e = refl
one_bit Truth h (One ∷ []) e = refl
one_bit Truth h (Unknown ∷ []) e = refl
one_bit Truth h (Floating ∷ []) e = refl

one_wide : (op : Un) → leaves_one_bit op ≡ true → unary_width op 1 ≡ 1
one_wide Unfloat h = refl
one_wide Not h = cc
one_wide Neg h = cc
one_wide RedAnd h = refl
one_wide RedOr h = refl
one_wide RedXor h = refl
one_wide Truth h = refl

pub reduced : (shapes : List Shape) (op : Un) (a : ℕ) (t : Shape) → IsArena shapes → a < length shapes → width_at shapes a ≡ 1 → leaves_one_bit op ≡ true → Becomes shapes (Unary Unfloat a) t → Becomes shapes (Unary op a) t
unfolding value_of width_of each_variable_of
reduced shapes op a t i l w h b =
    becomes_as shapes (Unary op a) (Unary Unfloat a) t b (w ∙ sym (ap (unary_width op) w ∙ one_wide op h))
    (λ r f. one_bit op h (value_at r shapes a) (length-value_at r shapes a f i l ∙ w))
    (λ p m. m)
