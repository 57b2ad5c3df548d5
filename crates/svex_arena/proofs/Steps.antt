-- Values, widths and tests read the children of a shape, and no other node.
use Rattle.std.proofs.Common.{◌≡◌, ℕ, ◌+◌, ◌<◌, ◌≤◌, arith, Bool, true, List, [], length, refl, sym, subst}
use Rattle.svex_shape.specs.declared.shape.VarName.{VarName}
use Rattle.svex_shape.specs.declared.shape.Shape.{Shape}
use Rattle.svex_shape.specs.declared.shape.Shape.TheVariants.{Const, Var, Unary, Binary, Cond, Pick, Slice, Zext, Sext, DynSlice, DynPut}
use Rattle.svex_shape.specs.Shapes.{OnChildren, ChildrenBelow, shape_at, width_of, width_at, FitsWidths, FitsPair}
use Rattle.svex_shape.specs.Values.{Reading, value_of, value_at, each_variable_of, each_variable}
use Rattle.svex_arena.specs.Arenas.{IsArena, Extends}
use Rattle.svex_arena.proofs.Numbering.{ReadsChildren, node_step, node_same}

pub value_reads : (r : Reading) → ReadsChildren (value_of r)
unfolding value_of
value_reads r f g (Const v) h = refl
value_reads r f g (Var name width) h = refl
value_reads r f g (Unary op a) h = cc
value_reads r f g (Binary op a b) h = cc
value_reads r f g (Cond c a b) h = cc
value_reads r f g (Pick c a b) h = cc
value_reads r f g (Slice a lo width) h = cc
value_reads r f g (Zext a width) h = cc
value_reads r f g (Sext a width) h = cc
value_reads r f g (DynSlice a at spot) h = cc
value_reads r f g (DynPut a at spot put) h = cc

pub width_reads : ReadsChildren width_of
unfolding width_of
width_reads f g (Const v) h = refl
width_reads f g (Var name width) h = refl
width_reads f g (Unary op a) h = cc
width_reads f g (Binary op a b) h = cc
width_reads f g (Cond c a b) h = cc
width_reads f g (Pick c a b) h = cc
width_reads f g (Slice a lo width) h = cc
width_reads f g (Zext a width) h = cc
width_reads f g (Sext a width) h = cc
width_reads f g (DynSlice a at spot) h = cc
width_reads f g (DynPut a at spot put) h = cc

pub variables_read : (p : VarName → ℕ → Bool) → ReadsChildren (each_variable_of p)
unfolding each_variable_of
variables_read p f g (Const v) h = refl
variables_read p f g (Var name width) h = refl
variables_read p f g (Unary op a) h = cc
variables_read p f g (Binary op a b) h = cc
variables_read p f g (Cond c a b) h = cc
variables_read p f g (Pick c a b) h = cc
variables_read p f g (Slice a lo width) h = cc
variables_read p f g (Zext a width) h = cc
variables_read p f g (Sext a width) h = cc
variables_read p f g (DynSlice a at spot) h = cc
variables_read p f g (DynPut a at spot put) h = cc

pub value-step : (r : Reading) (shapes : List Shape) (k : ℕ) → ChildrenBelow k (shape_at shapes k) → value_at r shapes k ≡ value_of r (value_at r shapes) (shape_at shapes k)
value-step r shapes k h = node_step (value_of r) [] (value_reads r) shapes k h

pub width-step : (shapes : List Shape) (k : ℕ) → ChildrenBelow k (shape_at shapes k) → width_at shapes k ≡ width_of (width_at shapes) (shape_at shapes k)
width-step shapes k h = node_step width_of 0 width_reads shapes k h

pub variables-step : (p : VarName → ℕ → Bool) (shapes : List Shape) (k : ℕ) → ChildrenBelow k (shape_at shapes k) → each_variable p shapes k ≡ each_variable_of p (each_variable p shapes) (shape_at shapes k)
variables-step p shapes k h = node_step (each_variable_of p) true (variables_read p) shapes k h

pub value-extends : (r : Reading) (old new : List Shape) (k : ℕ) → Extends old new → k < length old → value_at r new k ≡ value_at r old k
value-extends r old new k e h = node_same (value_of r) [] (value_reads r) old new k (λ j lt. e.same j (omega arith))

pub width-extends : (old new : List Shape) (k : ℕ) → Extends old new → k < length old → width_at new k ≡ width_at old k
width-extends old new k e h = node_same width_of 0 width_reads old new k (λ j lt. e.same j (omega arith))

pub variables-extends : (p : VarName → ℕ → Bool) (old new : List Shape) (k : ℕ) → Extends old new → k < length old → each_variable p new k ≡ each_variable p old k
variables-extends p old new k e h = node_same (each_variable_of p) true (variables_read p) old new k (λ j lt. e.same j (omega arith))

pub ruleset kept_steps = (value-extends, width-extends, variables-extends)

-- what a node gives in an arena is what its shape gives
pub width_follows : (shapes : List Shape) (k : ℕ) → IsArena shapes → k < length shapes → width_at shapes k ≡ width_of (width_at shapes) (shape_at shapes k)
width_follows shapes k i l = width-step shapes k (i.children k l)

pub value_follows : (r : Reading) (shapes : List Shape) (k : ℕ) → IsArena shapes → k < length shapes → value_at r shapes k ≡ value_of r (value_at r shapes) (shape_at shapes k)
value_follows r shapes k i l = value-step r shapes k (i.children k l)

pub variables_follow : (p : VarName → ℕ → Bool) (shapes : List Shape) (k : ℕ) → IsArena shapes → k < length shapes → each_variable p shapes k ≡ each_variable_of p (each_variable p shapes) (shape_at shapes k)
variables_follow p shapes k i l = variables-step p shapes k (i.children k l)

pub ruleset steps = (width_follows, value_follows, variables_follow)

-- widths fit where the same widths fit
pub fits_same : (f g : ℕ → ℕ) (s : Shape) → OnChildren (λ k. f k ≡ g k) s → FitsWidths g s → FitsWidths f s
fits_same f g (Const v) e h = tt
fits_same f g (Var name width) e h = h
fits_same f g (Unary op a) e h = tt
fits_same f g (Binary op a b) e h = subst (λ x. FitsPair op x (f b)) (sym e.0) (subst (λ y. FitsPair op (g a) y) (sym e.1) h)
fits_same f g (Cond c a b) e h = (cc, cc)
fits_same f g (Pick c a b) e h = (cc, cc)
fits_same f g (Slice a lo width) e h = (h.0, subst (λ x. lo + width ≤ x) (sym e) h.1)
fits_same f g (Zext a width) e h = (subst (λ x. x ≤ width) (sym e) h.0, h.1)
fits_same f g (Sext a width) e h = (subst (λ x. x ≤ width) (sym e) h.0, h.1)
fits_same f g (DynSlice a at spot) e h = h
fits_same f g (DynPut a at spot put) e h = cc
