-- The laws of values, lifted over the numbers of nodes.
use Rattle.std.proofs.Common.{◌≡◌, ℕ, ◌<◌, Bool, true, false, cond, eqb, List, length, refl, sym, ap, ◌∙◌, subst, arith, IsTrue}
use Rattle.std.proofs.lemmas.List.{length-replicate}
use Rattle.fourvec.specs.declared.Bit.TheVariants.{Unknown}
use Rattle.fourvec.specs.Laws.{Below}
use Rattle.fourvec.proofs.Tables.{left_of, right_of}
use Rattle.fourvec.proofs.Order.{below-refl, length-below, both}
use Rattle.fourvec.specs.Bits.{all_x}
use Rattle.svex_shape.proofs.Readings.{read_has_widths}
use Rattle.fourvec.proofs.Monotone.{dyn_put_monotone, dyn_slice_monotone, unfloat_monotone, not_monotone, and_monotone, or_monotone, xor_monotone, res_monotone, red_and_monotone, red_or_monotone, red_xor_monotone, truth_monotone, neg_monotone, add_monotone, sub_monotone, mul_monotone, div_monotone, rem_monotone, lt_monotone, slt_monotone, shl_monotone, shr_monotone, sar_monotone, concat_monotone, eq_monotone, cond_monotone, pick_monotone, slice_monotone, zext_monotone, sext_monotone, sdiv_monotone, srem_monotone}
use Rattle.svex_shape.specs.declared.shape.VarName.{VarName}
use Rattle.svex_shape.specs.declared.shape.Un.{Un}
use Rattle.svex_shape.specs.declared.shape.Un.TheVariants.{Unfloat, Not, Neg, RedAnd, RedOr, RedXor, Truth}
use Rattle.svex_shape.specs.declared.shape.Bin.{Bin}
use Rattle.svex_shape.specs.declared.shape.Bin.TheVariants.{And, Or, Xor, Eq, Lt, Slt, Add, Sub, Mul, Div, Rem, Sdiv, Srem, Res, Shl, Shr, Sar, Concat}
use Rattle.svex_shape.specs.declared.shape.Shape.{Shape}
use Rattle.svex_shape.specs.declared.shape.Shape.TheVariants.{Const, Var, Unary, Binary, Cond, Pick, Slice, Zext, Sext, DynSlice, DynPut}
use Rattle.svex_shape.specs.Shapes.{OnChildren, shape_at, width_at, FitsWidths, FitsPair}
use Rattle.svex_shape.specs.Values.{Vector, Reading, HasWidths, HasWidthsWhere, AgreesWhere, IsBelowWhere, Rows, RowsBelow, fitted, read, has_variable, held, value_in_rows, value_of, value_at, unary_value, binary_value, each_variable_of, each_variable}
use Rattle.svex_arena.specs.Arenas.{IsArena}
use Rattle.svex_arena.proofs.Numbering.{every_node, map_children, join_children}
use Rattle.svex_arena.proofs.Steps.{value-step, variables-step, value_reads, fits_same}
use Rattle.svex_arena.proofs.Widths.{length-value_at}

unary_rises : (op : Un) (a c : Vector) → Below a c → Below (unary_value op a) (unary_value op c)
unary_rises Unfloat a c h = unfloat_monotone a c h
unary_rises Not a c h = not_monotone a c h
unary_rises Neg a c h = neg_monotone a c h
unary_rises RedAnd a c h = red_and_monotone a c h
unary_rises RedOr a c h = red_or_monotone a c h
unary_rises RedXor a c h = red_xor_monotone a c h
unary_rises Truth a c h = truth_monotone a c h

binary_rises : (op : Bin) (a b c d : Vector) → FitsPair op (length a) (length b) → Below a c → Below b d → Below (binary_value op a b) (binary_value op c d)
binary_rises And a b c d w h g = and_monotone a b c d h g
binary_rises Or a b c d w h g = or_monotone a b c d h g
binary_rises Xor a b c d w h g = xor_monotone a b c d h g
binary_rises Eq a b c d w h g = eq_monotone a b c d h g
binary_rises Lt a b c d w h g = lt_monotone a b c d h g
binary_rises Slt a b c d w h g = slt_monotone a b c d h g
binary_rises Add a b c d w h g = add_monotone a b c d h g
binary_rises Sub a b c d w h g = sub_monotone a b c d h g
binary_rises Mul a b c d w h g = mul_monotone a b c d h g
binary_rises Div a b c d w h g = div_monotone a b c d h g
binary_rises Rem a b c d w h g = rem_monotone a b c d h g
binary_rises Sdiv a b c d w h g = sdiv_monotone a b c d h g
binary_rises Srem a b c d w h g = srem_monotone a b c d h g
binary_rises Res a b c d w h g = res_monotone a b c d h g
binary_rises Shl a b c d w h g = shl_monotone a b c d h g
binary_rises Shr a b c d w h g = shr_monotone a b c d h g
binary_rises Sar a b c d w h g = sar_monotone a b c d h g
binary_rises Concat a b c d w h g = concat_monotone a b c d h g

abbrev ReadsBelow : Reading → Reading → Type 0
ReadsBelow r s = (name : VarName) (width : ℕ) → Below (r name width) (s name width)

shape_rises : (r s : Reading) (f g : ℕ → Vector) (shape : Shape) → ReadsBelow r s → FitsWidths (λ k. length (f k)) shape → OnChildren (λ k. Below (f k) (g k)) shape → Below (value_of r f shape) (value_of s g shape)
unfolding value_of
shape_rises r s f g (Const v) e w h = below-refl v
shape_rises r s f g (Var name width) e w h = e name width
shape_rises r s f g (Unary op a) e w h = unary_rises op (f a) (g a) h
shape_rises r s f g (Binary op a b) e w h = binary_rises op (f a) (f b) (g a) (g b) w h.0 h.1
shape_rises r s f g (Cond c a b) e w h = cond_monotone (f c) (f a) (f b) (g c) (g a) (g b) w.1 h.0 h.1 h.2
shape_rises r s f g (Pick c a b) e w h = pick_monotone (f c) (f a) (f b) (g c) (g a) (g b) w.1 h.0 h.1 h.2
shape_rises r s f g (Slice a lo width) e w h = slice_monotone lo width (f a) (g a) h
shape_rises r s f g (Zext a width) e w h = zext_monotone width (f a) (g a) h
shape_rises r s f g (Sext a width) e w h = sext_monotone width (f a) (g a) h
shape_rises r s f g (DynSlice a at spot) e w h = dyn_slice_monotone spot (f a) (f at) (g a) (g at) h.0 h.1
shape_rises r s f g (DynPut a at spot put) e w h = dyn_put_monotone spot (f a) (f at) (f put) (g a) (g at) (g put) h.0 h.1 h.2

values_rise_everywhere : (r s : Reading) (shapes : List Shape) (k : ℕ) → IsArena shapes → HasWidths r → ReadsBelow r s → k < length shapes → Below (value_at r shapes k) (value_at s shapes k)
values_rise_everywhere r s shapes k i w e h = every_node (λ j. Below (value_at r shapes j) (value_at s shapes j)) shapes i.children turn k h
  where
    turn : (j : ℕ) → j < length shapes → OnChildren (λ n. Below (value_at r shapes n) (value_at s shapes n)) (shape_at shapes j) → Below (value_at r shapes j) (value_at s shapes j)
    turn j l b =
        subst (λ x. Below x (value_at s shapes j)) (sym (value-step r shapes j (i.children j l)))
        (subst (λ y. Below (value_of r (value_at r shapes) (shape_at shapes j)) y) (sym (value-step s shapes j (i.children j l)))
        (shape_rises r s (value_at r shapes) (value_at s shapes) (shape_at shapes j) e (fits_same (λ n. length (value_at r shapes n)) (width_at shapes) (shape_at shapes j) (map_children (λ n. n < j) (λ n. length (value_at r shapes n) ≡ width_at shapes n) (λ n lt. length-value_at r shapes n w i (omega arith)) (shape_at shapes j) (i.children j l)) (i.fits j l)) b))

fitted_rises : (w : ℕ) (v u : Vector) → Below v u → Below (fitted w v) (fitted w u)
unfolding fitted
fitted_rises w v u h =
    subst (λ n. Below (cond (eqb (length v) w) v (all_x w)) (cond (eqb n w) u (all_x w))) (length-below v u h) (either (eqb (length v) w))
  where
    either : (b : Bool) → Below (cond b v (all_x w)) (cond b u (all_x w))
    either true = h
    either false = below-refl (all_x w)

pub rows_rise : (e f : Rows) (shapes : List Shape) (k : ℕ) → IsArena shapes → RowsBelow e f → k < length shapes → Below (value_at (read e) shapes k) (value_at (read f) shapes k)
rows_rise e f shapes k i h l = values_rise_everywhere (read e) (read f) shapes k i (read_has_widths e) (λ name width. fitted_rises width (value_in_rows e name) (value_in_rows f name) (h.rows name)) l

-- ---- only the variables that a node mentions

pub variables_children : (p : VarName → ℕ → Bool) (f : ℕ → Bool) (s : Shape) → each_variable_of p f s ≡ true → OnChildren (λ k. f k ≡ true) s
unfolding each_variable_of
variables_children p f (Const v) h = tt
variables_children p f (Var name width) h = tt
variables_children p f (Unary op a) h = h
variables_children p f (Binary op a b) h = (left_of _ _ h, right_of _ _ h)
variables_children p f (Cond c a b) h = (left_of _ _ h, left_of _ _ (right_of _ _ h), right_of _ _ (right_of _ _ h))
variables_children p f (Pick c a b) h = (left_of _ _ h, left_of _ _ (right_of _ _ h), right_of _ _ (right_of _ _ h))
variables_children p f (Slice a lo width) h = h
variables_children p f (Zext a width) h = h
variables_children p f (Sext a width) h = h
variables_children p f (DynSlice a at spot) h = (left_of _ _ h, right_of _ _ h)
variables_children p f (DynPut a at spot put) h = (left_of _ _ h, left_of _ _ (right_of _ _ h), right_of _ _ (right_of _ _ h))

reads_alike : (p : VarName → ℕ → Bool) (r s : Reading) (f : ℕ → Bool) (g : ℕ → Vector) (shape : Shape) → ((name : VarName) (width : ℕ) → p name width ≡ true → r name width ≡ s name width) → each_variable_of p f shape ≡ true → value_of r g shape ≡ value_of s g shape
unfolding each_variable_of value_of
reads_alike p r s f g (Const v) e h = refl
reads_alike p r s f g (Var name width) e h = e name width h
reads_alike p r s f g (Unary op a) e h = refl
reads_alike p r s f g (Binary op a b) e h = refl
reads_alike p r s f g (Cond c a b) e h = refl
reads_alike p r s f g (Pick c a b) e h = refl
reads_alike p r s f g (Slice a lo width) e h = refl
reads_alike p r s f g (Zext a width) e h = refl
reads_alike p r s f g (Sext a width) e h = refl
reads_alike p r s f g (DynSlice a at spot) e h = refl
reads_alike p r s f g (DynPut a at spot put) e h = refl

-- a node's value depends only on the variables that it mentions
pub values_alike : (p : VarName → ℕ → Bool) (r s : Reading) (shapes : List Shape) (k : ℕ) → IsArena shapes → AgreesWhere p r s → k < length shapes → IsTrue (each_variable p shapes k) → value_at r shapes k ≡ value_at s shapes k
values_alike p r s shapes k i e h t = every_node (λ j. each_variable p shapes j ≡ true → value_at r shapes j ≡ value_at s shapes j) shapes i.children turn k h t
  where
    turn : (j : ℕ) → j < length shapes → OnChildren (λ n. each_variable p shapes n ≡ true → value_at r shapes n ≡ value_at s shapes n) (shape_at shapes j) → each_variable p shapes j ≡ true → value_at r shapes j ≡ value_at s shapes j
    turn j l b t' =
        let here : each_variable_of p (each_variable p shapes) (shape_at shapes j) ≡ true = sym (variables-step p shapes j (i.children j l)) ∙ t' in
        value-step r shapes j (i.children j l) ∙ value_reads r (value_at r shapes) (value_at s shapes) (shape_at shapes j) (both_children (each_variable p shapes) (shape_at shapes j) (variables_children p (each_variable p shapes) (shape_at shapes j) here) b) ∙ reads_alike p r s (each_variable p shapes) (value_at s shapes) (shape_at shapes j) e here ∙ sym (value-step s shapes j (i.children j l))
      where
        both_children : (f : ℕ → Bool) (x : Shape) → OnChildren (λ n. f n ≡ true) x → OnChildren (λ n. f n ≡ true → value_at r shapes n ≡ value_at s shapes n) x → OnChildren (λ n. value_at r shapes n ≡ value_at s shapes n) x
        both_children f x h g = map_children (λ n. (f n ≡ true) × (f n ≡ true → value_at r shapes n ≡ value_at s shapes n)) (λ n. value_at r shapes n ≡ value_at s shapes n) (λ n w. w.1 w.0) x (join_children (λ n. f n ≡ true) (λ n. f n ≡ true → value_at r shapes n ≡ value_at s shapes n) x h g)

-- ---- laws where a test holds

-- a reading where a test holds, and X elsewhere
narrowed : (VarName → ℕ → Bool) → Reading → Reading
narrowed p r name width = cond (p name width) (r name width) (all_x width)

narrowed_same : (p : VarName → ℕ → Bool) (r : Reading) → AgreesWhere p r (narrowed p r)
unfolding narrowed
narrowed_same p r name width h = ap (λ b. cond b (r name width) (all_x width)) (sym h)

narrowed_widths : (p : VarName → ℕ → Bool) (r : Reading) → HasWidthsWhere p r → HasWidths (narrowed p r)
unfolding narrowed
narrowed_widths p r h name width = either (p name width) refl
  where
    either : (b : Bool) → p name width ≡ b → length (cond b (r name width) (all_x width)) ≡ width
    either true e = h name width e
    either false e = length-replicate width Unknown

narrowed_below : (p : VarName → ℕ → Bool) (r s : Reading) → IsBelowWhere p r s → ReadsBelow (narrowed p r) (narrowed p s)
unfolding narrowed
narrowed_below p r s h name width = either (p name width) refl
  where
    either : (b : Bool) → p name width ≡ b → Below (cond b (r name width) (all_x width)) (cond b (s name width) (all_x width))
    either true e = h name width e
    either false e = below-refl (all_x width)

-- a node's value has the node's width
pub values_have_widths : (p : VarName → ℕ → Bool) (r : Reading) (shapes : List Shape) (k : ℕ) → IsArena shapes → HasWidthsWhere p r → k < length shapes → IsTrue (each_variable p shapes k) → length (value_at r shapes k) ≡ width_at shapes k
values_have_widths p r shapes k i w h t =
    ap length (values_alike p r (narrowed p r) shapes k i (narrowed_same p r) h t) ∙ length-value_at (narrowed p r) shapes k (narrowed_widths p r w) i h

-- a node's value rises with what the variables have
pub values_rise : (p : VarName → ℕ → Bool) (r s : Reading) (shapes : List Shape) (k : ℕ) → IsArena shapes → HasWidthsWhere p r → IsBelowWhere p r s → k < length shapes → IsTrue (each_variable p shapes k) → Below (value_at r shapes k) (value_at s shapes k)
values_rise p r s shapes k i w e h t =
    subst (λ x. Below x (value_at s shapes k)) (sym (values_alike p r (narrowed p r) shapes k i (narrowed_same p r) h t))
    (subst (λ y. Below (value_at (narrowed p r) shapes k) y) (sym (values_alike p s (narrowed p s) shapes k i (narrowed_same p s) h t))
    (values_rise_everywhere (narrowed p r) (narrowed p s) shapes k i (narrowed_widths p r w) (narrowed_below p r s e) h))

fitted_same : (w : ℕ) (v : Vector) → eqb (length v) w ≡ true → fitted w v ≡ v
unfolding fitted
fitted_same w v e = ap (λ b. cond b v (all_x w)) e

-- where an environment has each variable that a node mentions, none is read as X for want of it
pub values_held : (rows : Rows) (shapes : List Shape) (k : ℕ) → IsArena shapes → k < length shapes → IsTrue (each_variable (has_variable rows) shapes k) → value_at (read rows) shapes k ≡ value_at (held rows) shapes k
values_held rows shapes k i h t =
    values_alike (has_variable rows) (read rows) (held rows) shapes k i (λ name width e. fitted_same width (value_in_rows rows name) e) h t

-- the tests of a shape from those of its children
pub variables_from_children : (p : VarName → ℕ → Bool) (f g : ℕ → Bool) (s : Shape) → OnChildren (λ k. f k ≡ true → g k ≡ true) s → each_variable_of p f s ≡ true → each_variable_of p g s ≡ true
unfolding each_variable_of
variables_from_children p f g (Const v) h t = t
variables_from_children p f g (Var name width) h t = t
variables_from_children p f g (Unary op a) h t = h t
variables_from_children p f g (Binary op a b) h t = both _ _ (h.0 (left_of _ _ t)) (h.1 (right_of _ _ t))
variables_from_children p f g (Cond c a b) h t = both _ _ (h.0 (left_of _ _ t)) (both _ _ (h.1 (left_of _ _ (right_of _ _ t))) (h.2 (right_of _ _ (right_of _ _ t))))
variables_from_children p f g (Pick c a b) h t = both _ _ (h.0 (left_of _ _ t)) (both _ _ (h.1 (left_of _ _ (right_of _ _ t))) (h.2 (right_of _ _ (right_of _ _ t))))
variables_from_children p f g (Slice a lo width) h t = h t
variables_from_children p f g (Zext a width) h t = h t
variables_from_children p f g (Sext a width) h t = h t
variables_from_children p f g (DynSlice a at spot) h t = both _ _ (h.0 (left_of _ _ t)) (h.1 (right_of _ _ t))
variables_from_children p f g (DynPut a at spot put) h t = both _ _ (h.0 (left_of _ _ t)) (both _ _ (h.1 (left_of _ _ (right_of _ _ t))) (h.2 (right_of _ _ (right_of _ _ t))))

weaker_of : (p q : VarName → ℕ → Bool) → ((name : VarName) (width : ℕ) → IsTrue (p name width) → IsTrue (q name width)) → (f : ℕ → Bool) (s : Shape) → each_variable_of p f s ≡ true → each_variable_of q f s ≡ true
unfolding each_variable_of
weaker_of p q e f (Const v) x = x
weaker_of p q e f (Var name width) x = e name width x
weaker_of p q e f (Unary op a) x = x
weaker_of p q e f (Binary op a b) x = x
weaker_of p q e f (Cond c a b) x = x
weaker_of p q e f (Pick c a b) x = x
weaker_of p q e f (Slice a lo width) x = x
weaker_of p q e f (Zext a width) x = x
weaker_of p q e f (Sext a width) x = x
weaker_of p q e f (DynSlice a at spot) x = x
weaker_of p q e f (DynPut a at spot put) x = x

-- a test holds of each variable of a node where one that implies it does
pub variables_weaker : (p q : VarName → ℕ → Bool) (shapes : List Shape) (k : ℕ) → IsArena shapes → ((name : VarName) (width : ℕ) → IsTrue (p name width) → IsTrue (q name width)) → k < length shapes → IsTrue (each_variable p shapes k) → IsTrue (each_variable q shapes k)
variables_weaker p q shapes k i e h t = every_node (λ j. each_variable p shapes j ≡ true → each_variable q shapes j ≡ true) shapes i.children turn k h t
  where
    turn : (j : ℕ) → j < length shapes → OnChildren (λ n. each_variable p shapes n ≡ true → each_variable q shapes n ≡ true) (shape_at shapes j) → each_variable p shapes j ≡ true → each_variable q shapes j ≡ true
    turn j l b x =
        variables-step q shapes j (i.children j l) ∙ variables_from_children q (each_variable p shapes) (each_variable q shapes) (shape_at shapes j) b (weaker_of p q e (each_variable p shapes) (shape_at shapes j) (sym (variables-step p shapes j (i.children j l)) ∙ x))
