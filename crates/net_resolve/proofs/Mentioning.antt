-- What nodes mention, by their children.
use Rattle.std.proofs.Common.{◌≡◌, ◌⊎◌, ◌↔◌, ℕ, zero, suc, ◌<◌, List, [], ◌∷◌, length, refl, sym, ap, ◌∙◌, subst, inl, inr, arith}
use Rattle.std.specs.Prelude.{slice_index}
use Rattle.svex_shape.specs.declared.shape.VarName.TheVariants.{Now}
use Rattle.svex_shape.specs.declared.shape.Shape.{Shape}
use Rattle.svex_shape.specs.declared.shape.Shape.TheVariants.{Const, Var, Unary, Binary, Cond, Pick, Slice, Zext, Sext, DynSlice, DynPut}
use Rattle.svex_shape.specs.Shapes.{OnChildren, IsChild, shape_at}
use Rattle.svex_arena.specs.Arenas.{IsArena, Extends}
use Rattle.svex_arena.specs.Marks.{IsReached, as_root, as_child}
use Rattle.net_equations.specs.Groups.{Mentions}

child_of : (P : ℕ → Type 0) (k : ℕ) (s : Shape) → OnChildren P s → IsChild k s → P k
child_of P k (Const v) h c = absurd c
child_of P k (Var name width) h c = absurd c
child_of P k (Unary op a) h c = subst P (sym c) h
child_of P k (Binary op a b) h (inl e) = subst P (sym e) h.0
child_of P k (Binary op a b) h (inr e) = subst P (sym e) h.1
child_of P k (Cond c a b) h (inl e) = subst P (sym e) h.0
child_of P k (Cond c a b) h (inr (inl e)) = subst P (sym e) h.1
child_of P k (Cond c a b) h (inr (inr e)) = subst P (sym e) h.2
child_of P k (Pick c a b) h (inl e) = subst P (sym e) h.0
child_of P k (Pick c a b) h (inr (inl e)) = subst P (sym e) h.1
child_of P k (Pick c a b) h (inr (inr e)) = subst P (sym e) h.2
child_of P k (Slice a lo width) h c = subst P (sym c) h
child_of P k (Zext a width) h c = subst P (sym c) h
child_of P k (Sext a width) h c = subst P (sym c) h
child_of P k (DynSlice a at spot) h (inl e) = subst P (sym e) h.0
child_of P k (DynSlice a at spot) h (inr e) = subst P (sym e) h.1
child_of P k (DynPut a at spot put) h (inl e) = subst P (sym e) h.0
child_of P k (DynPut a at spot put) h (inr (inl e)) = subst P (sym e) h.1
child_of P k (DynPut a at spot put) h (inr (inr e)) = subst P (sym e) h.2

-- the only root
root-is : (node i : ℕ) → i < length (node ∷ []) → slice_index (node ∷ []) i ≡ node
root-is node zero lt = refl
root-is node (suc i) lt = absurd (omega (arith, lt))

-- a child reaches a node
abbrev ChildReaches : List Shape → ℕ → ℕ → Type 0
ChildReaches shapes node at = (c : ℕ) × (IsChild c (shape_at shapes node) × IsReached shapes (c ∷ []) at)

reached-parts : (shapes : List Shape) (node at : ℕ) → IsReached shapes (node ∷ []) at → (at ≡ node) ⊎ ChildReaches shapes node at
reached-parts shapes node at (as_root i _ lt e) = inl (sym e ∙ root-is node i lt)
reached-parts shapes node at (as_child j _ r c) = next (reached-parts shapes node j r)
  where
    next : (j ≡ node) ⊎ ChildReaches shapes node j → (at ≡ node) ⊎ ChildReaches shapes node at
    next (inl e) = inr (at, (subst (λ m. IsChild at (shape_at shapes m)) e c, as_root 0 at (omega arith) refl))
    next (inr x) = inr (x.0, (x.1.0, as_child j at x.1.1 c))

-- what a node mentions is its own variable, or a child mentions it
pub mentions-child : (shapes : List Shape) (node wire : ℕ) (s : Shape) (Q : Type 0) → shape_at shapes node ≡ s → ((width : ℕ) → s ≡ Var (Now wire) width → Q)
    → OnChildren (λ c. Mentions shapes c wire → Q) s → Mentions shapes node wire → Q
mentions-child shapes node wire s Q is own h m = elim (reached-parts shapes node m.at m.reached) [
  | inl e ↦ own m.width (sym is ∙ ap (λ k. shape_at shapes k) (sym e) ∙ m.is)
  | inr x ↦
      child_of (λ c. Mentions shapes c wire → Q) x.0 s h (subst (λ t. IsChild x.0 t) is x.1.0)
      (record { at = m.at; width = m.width; reached = x.1.1; is = m.is })
]

-- what a child mentions, the node mentions
pub mentions-parent : (shapes : List Shape) (node child wire : ℕ) (s : Shape) → shape_at shapes node ≡ s → IsChild child s → Mentions shapes child wire → Mentions shapes node wire
mentions-parent shapes node child wire s is c m = record { at = m.at; width = m.width; reached = up m.at m.reached; is = m.is }
  where
    up : (at : ℕ) → IsReached shapes (child ∷ []) at → IsReached shapes (node ∷ []) at
    up at (as_root i _ lt e) =
        subst (IsReached shapes (node ∷ [])) (sym (root-is child i lt) ∙ e)
        (as_child node child (as_root 0 node (omega arith) refl) (subst (IsChild child) (sym is) c))
    up at (as_child j _ r k) = as_child j at (up j r) k

-- nodes of an older arena mention what they did there
pub mentions-older : (old new : List Shape) (node wire : ℕ) → IsArena old → Extends old new → node < length old → Mentions new node wire → Mentions old node wire
mentions-older old new node wire a e there m =
    let r = down m.at m.reached in
    record { at = m.at; width = m.width; reached = r.0; is = sym (e.same m.at r.1) ∙ m.is }
  where
    down : (at : ℕ) → IsReached new (node ∷ []) at → IsReached old (node ∷ []) at × (at < length old)
    down at (as_root i _ lt is) = (as_root i at lt is, subst (λ k. k < length old) (sym (root-is node i lt) ∙ is) there)
    down at (as_child j _ r c) =
        let up = down j r in
        let child : IsChild at (shape_at old j) = subst (λ s. IsChild at s) (e.same j up.1) c in
        let below : at < j = child_of (λ k. k < j) at (shape_at old j) (a.children j up.1) child in
        let inside = up.1 in
        (as_child j at up.0 child, omega (arith, below, inside))

pub mentions-newer : (old new : List Shape) (node wire : ℕ) → IsArena old → Extends old new → node < length old → Mentions old node wire → Mentions new node wire
mentions-newer old new node wire a e there m =
    let r = up m.at m.reached in
    record { at = m.at; width = m.width; reached = r.0; is = e.same m.at r.1 ∙ m.is }
  where
    up : (at : ℕ) → IsReached old (node ∷ []) at → IsReached new (node ∷ []) at × (at < length old)
    up at (as_root i _ lt is) = (as_root i at lt is, subst (λ k. k < length old) (sym (root-is node i lt) ∙ is) there)
    up at (as_child j _ r c) =
        let before = up j r in
        let below : at < j = child_of (λ k. k < j) at (shape_at old j) (a.children j before.1) c in
        let inside = before.1 in
        (as_child j at before.0 (subst (IsChild at) (sym (e.same j before.1)) c), omega (arith, below, inside))

pub mentions-same : (old new : List Shape) (node wire : ℕ) → IsArena old → Extends old new → node < length old → Mentions new node wire ↔ Mentions old node wire
mentions-same old new node wire a e there = (mentions-older old new node wire a e there, mentions-newer old new node wire a e there)
