-- What a node reaches decides its value.
use Rattle.std.proofs.Common.{◌≡◌, ℕ, zero, suc, ◌<◌, Bool, true, List, [], ◌∷◌, length, refl, sym, ◌∙◌, subst, inl, inr, arith}
use Rattle.std.specs.Prelude.{slice_index, IsTrue}
use Rattle.svex_shape.specs.declared.shape.VarName.{VarName}
use Rattle.svex_shape.specs.declared.shape.Shape.{Shape}
use Rattle.svex_shape.specs.declared.shape.Shape.TheVariants.{Const, Var, Unary, Binary, Cond, Pick, Slice, Zext, Sext, DynSlice, DynPut}
use Rattle.svex_shape.specs.Shapes.{OnChildren, IsChild, shape_at}
use Rattle.svex_shape.specs.Values.{Reading, value_at, value_of, each_variable}
use Rattle.svex_arena.specs.Arenas.{IsArena}
use Rattle.svex_arena.specs.Marks.{IsReached, as_root, as_child}
use Rattle.svex_arena.proofs.Numbering.{every_node, map_children, join_children}
use Rattle.svex_arena.proofs.Steps.{value_follows, variables_follow, value_reads}
use Rattle.svex_arena.proofs.Lifted.{variables_children}
use Rattle.node_replace.proofs.Walking.{on_child}

own-children : (s : Shape) → OnChildren (λ j. IsChild j s) s
own-children (Const v) = tt
own-children (Var name w) = tt
own-children (Unary op a) = refl
own-children (Binary op a b) = (inl refl, inr refl)
own-children (Cond c a b) = (inl refl, inr (inl refl), inr (inr refl))
own-children (Pick c a b) = (inl refl, inr (inl refl), inr (inr refl))
own-children (Slice a lo w) = refl
own-children (Zext a w) = refl
own-children (Sext a w) = refl
own-children (DynSlice a at spot) = (inl refl, inr refl)
own-children (DynPut a at spot put) = (inl refl, inr (inl refl), inr (inr refl))

itself : (shapes : List Shape) (k : ℕ) → IsReached shapes (k ∷ []) k
itself shapes k = as_root 0 k (omega arith) refl

only-one : (k i at : ℕ) → i < 1 → slice_index (k ∷ []) i ≡ at → k ≡ at
only-one k zero at lt e = e
only-one k (suc i) at lt e = absurd (omega (arith, lt))

reached-child : (shapes : List Shape) (j k at : ℕ) → IsChild j (shape_at shapes k) → IsReached shapes (j ∷ []) at → IsReached shapes (k ∷ []) at
reached-child shapes j k at c (as_root i n lt e) = subst (IsReached shapes (k ∷ [])) (only-one j i at lt e) (as_child k j (itself shapes k) c)
reached-child shapes j k at c (as_child p n r d) = as_child p at (reached-child shapes j k p c r) d

-- a test of each variable holds of the nodes that are reached
pub mentions-reached : (p : VarName → ℕ → Bool) (shapes : List Shape) (k at : ℕ) → IsArena shapes → k < length shapes → IsTrue (each_variable p shapes k) → IsReached shapes (k ∷ []) at
    → (at < length shapes) × IsTrue (each_variable p shapes at)
mentions-reached p shapes k at a lt t (as_root i n l e) = subst (λ x. (x < length shapes) × IsTrue (each_variable p shapes x)) (only-one k i at l e) (lt, t)
mentions-reached p shapes k at a lt t (as_child j n r d) =
    let h = mentions-reached p shapes k j a lt t r in
    let below : at < j = on_child (λ x. x < j) (shape_at shapes j) at (a.children j h.0) d in
    (omega (arith, below, h.0), on_child (λ x. each_variable p shapes x ≡ true) (shape_at shapes j) at (variables_children p (each_variable p shapes) (shape_at shapes j) (sym (variables_follow p shapes j a h.0) ∙ h.1)) d)

-- two readings that agree on the variables that are reached
abbrev AgreeFrom : Reading → Reading → List Shape → ℕ → Type 0
AgreeFrom r s shapes k = (at : ℕ) (name : VarName) (w : ℕ) → IsReached shapes (k ∷ []) at → shape_at shapes at ≡ Var name w → r name w ≡ s name w

value-shape : (r s : Reading) (shapes : List Shape) (j : ℕ) (sh : Shape) → AgreeFrom r s shapes j → shape_at shapes j ≡ sh → OnChildren (λ i. value_at r shapes i ≡ value_at s shapes i) sh
    → value_of r (value_at r shapes) sh ≡ value_of s (value_at s shapes) sh
unfolding value_of
value-shape r s shapes j (Const v) same is h = refl
value-shape r s shapes j (Var name w) same is h = same j name w (itself shapes j) is
value-shape r s shapes j (Unary op b) same is h = value_reads r (value_at r shapes) (value_at s shapes) (Unary op b) h
value-shape r s shapes j (Binary op b c) same is h = value_reads r (value_at r shapes) (value_at s shapes) (Binary op b c) h
value-shape r s shapes j (Cond b c d) same is h = value_reads r (value_at r shapes) (value_at s shapes) (Cond b c d) h
value-shape r s shapes j (Pick b c d) same is h = value_reads r (value_at r shapes) (value_at s shapes) (Pick b c d) h
value-shape r s shapes j (Slice b lo w) same is h = value_reads r (value_at r shapes) (value_at s shapes) (Slice b lo w) h
value-shape r s shapes j (Zext b w) same is h = value_reads r (value_at r shapes) (value_at s shapes) (Zext b w) h
value-shape r s shapes j (Sext b w) same is h = value_reads r (value_at r shapes) (value_at s shapes) (Sext b w) h
value-shape r s shapes j (DynSlice b c spot) same is h = value_reads r (value_at r shapes) (value_at s shapes) (DynSlice b c spot) h
value-shape r s shapes j (DynPut b c spot d) same is h = value_reads r (value_at r shapes) (value_at s shapes) (DynPut b c spot d) h

pub values-reached : (r s : Reading) (shapes : List Shape) (k : ℕ) → IsArena shapes → k < length shapes → AgreeFrom r s shapes k → value_at r shapes k ≡ value_at s shapes k
values-reached r s shapes k a lt = every_node (λ j. AgreeFrom r s shapes j → value_at r shapes j ≡ value_at s shapes j) shapes a.children turn k lt
  where
    turn : (j : ℕ) → j < length shapes → OnChildren (λ i. AgreeFrom r s shapes i → value_at r shapes i ≡ value_at s shapes i) (shape_at shapes j) → AgreeFrom r s shapes j → value_at r shapes j ≡ value_at s shapes j
    turn j l h same =
        let sh = shape_at shapes j in
        let P : ℕ → Type 0 = λ i. AgreeFrom r s shapes i → value_at r shapes i ≡ value_at s shapes i in
        value_follows r shapes j a l
        ∙ value-shape r s shapes j sh same refl
        (map_children (λ i. P i × IsChild i sh) (λ i. value_at r shapes i ≡ value_at s shapes i)
        (λ i x. x.0 (λ at name w on is. same at name w (reached-child shapes i j at x.1 on) is)) sh (join_children P (λ i. IsChild i sh) sh h (own-children sh)))
        ∙ sym (value_follows s shapes j a l)
