-- Nodes with other numbers: what they give by a fold over shapes is the same.
use Rattle.std.proofs.Common.{◌≡◌, ℕ, ◌<◌, Bool, true, List, [], length, refl, sym, ap, ◌∙◌}
use Rattle.svex_shape.specs.declared.shape.VarName.{VarName}
use Rattle.svex_shape.specs.declared.shape.Shape.{Shape}
use Rattle.svex_shape.specs.declared.shape.Shape.TheVariants.{Const, Var, Unary, Binary, Cond, Pick, Slice, Zext, Sext, DynSlice, DynPut}
use Rattle.svex_shape.specs.Shapes.{OnChildren, ChildrenBelow, FitsWidths, shape_at, at_node, width_of, width_at}
use Rattle.svex_shape.specs.Values.{each_variable_of, each_variable}
use Rattle.svex_arena.specs.Substs.{renamed}
use Rattle.svex_arena.proofs.Numbering.{ReadsChildren, node_step, every_node}
use Rattle.svex_arena.proofs.Steps.{width_reads, variables_read}
use Rattle.svex_arena.proofs.Folds.{variables_renamed}
use Rattle.svex_arena.proofs.Substituting.{width_renamed}
use Rattle.flat_text.specs.FlatTexts.{Expr, const, expr_of, expr_at}

-- ---- expressions

pub expr_reads : ReadsChildren expr_of
unfolding expr_of
expr_reads f g (Const v) h = refl
expr_reads f g (Var name w) h = refl
expr_reads f g (Unary op a) h = cc
expr_reads f g (Binary op a b) h = cc
expr_reads f g (Cond c a b) h = cc
expr_reads f g (Pick c a b) h = cc
expr_reads f g (Slice a lo w) h = cc
expr_reads f g (Zext a w) h = cc
expr_reads f g (Sext a w) h = cc
expr_reads f g (DynSlice a at spot) h = cc
expr_reads f g (DynPut a at spot put) h = cc

pub expr_renamed : (g : ℕ → Expr) (f : ℕ → ℕ) (s : Shape) → expr_of g (renamed f s) ≡ expr_of (λ j. g (f j)) s
unfolding expr_of
expr_renamed g f (Const v) = refl
expr_renamed g f (Var name w) = refl
expr_renamed g f (Unary op a) = refl
expr_renamed g f (Binary op a b) = refl
expr_renamed g f (Cond c a b) = refl
expr_renamed g f (Pick c a b) = refl
expr_renamed g f (Slice a lo w) = refl
expr_renamed g f (Zext a w) = refl
expr_renamed g f (Sext a w) = refl
expr_renamed g f (DynSlice a at spot) = refl
expr_renamed g f (DynPut a at spot put) = refl

pub expr-step : (shapes : List Shape) (k : ℕ) → ChildrenBelow k (shape_at shapes k) → expr_at shapes k ≡ expr_of (expr_at shapes) (shape_at shapes k)
expr-step shapes k h = node_step expr_of (const []) expr_reads shapes k h

-- ---- shapes over other children

pub renamed_same : (f g : ℕ → ℕ) (s : Shape) → OnChildren (λ c. f c ≡ g c) s → renamed f s ≡ renamed g s
renamed_same f g (Const v) h = refl
renamed_same f g (Var name w) h = refl
renamed_same f g (Unary op a) h = cc
renamed_same f g (Binary op a b) h = cc
renamed_same f g (Cond c a b) h = cc
renamed_same f g (Pick c a b) h = cc
renamed_same f g (Slice a lo w) h = cc
renamed_same f g (Zext a w) h = cc
renamed_same f g (Sext a w) h = cc
renamed_same f g (DynSlice a at spot) h = cc
renamed_same f g (DynPut a at spot put) h = cc

pub renamed_back : (f g : ℕ → ℕ) (s : Shape) → OnChildren (λ c. f (g c) ≡ c) s → renamed f (renamed g s) ≡ s
renamed_back f g (Const v) h = refl
renamed_back f g (Var name w) h = refl
renamed_back f g (Unary op a) h = cc
renamed_back f g (Binary op a b) h = cc
renamed_back f g (Cond c a b) h = cc
renamed_back f g (Pick c a b) h = cc
renamed_back f g (Slice a lo w) h = cc
renamed_back f g (Zext a w) h = cc
renamed_back f g (Sext a w) h = cc
renamed_back f g (DynSlice a at spot) h = cc
renamed_back f g (DynPut a at spot put) h = cc

pub renamed_children : (P : ℕ → Type 0) (g : ℕ → ℕ) (s : Shape) → OnChildren (λ c. P (g c)) s → OnChildren P (renamed g s)
renamed_children P g (Const v) h = h
renamed_children P g (Var name w) h = h
renamed_children P g (Unary op a) h = h
renamed_children P g (Binary op a b) h = h
renamed_children P g (Cond c a b) h = h
renamed_children P g (Pick c a b) h = h
renamed_children P g (Slice a lo w) h = h
renamed_children P g (Zext a w) h = h
renamed_children P g (Sext a w) h = h
renamed_children P g (DynSlice a at spot) h = h
renamed_children P g (DynPut a at spot put) h = h

pub renamed_fits : (w : ℕ → ℕ) (g : ℕ → ℕ) (s : Shape) → FitsWidths (λ j. w (g j)) s → FitsWidths w (renamed g s)
renamed_fits m g (Const v) h = h
renamed_fits m g (Var name w) h = h
renamed_fits m g (Unary op a) h = h
renamed_fits m g (Binary op a b) h = h
renamed_fits m g (Cond c a b) h = h
renamed_fits m g (Pick c a b) h = h
renamed_fits m g (Slice a lo w) h = h
renamed_fits m g (Zext a w) h = h
renamed_fits m g (Sext a w) h = h
renamed_fits m g (DynSlice a at spot) h = h
renamed_fits m g (DynPut a at spot put) h = h

-- ---- nodes that have other numbers

-- each node of the first stands in the second, by another number, over the others' numbers
pub record IsPart (old new : List Shape) (number : ℕ → ℕ) : Type 0 where
  pub within : (k : ℕ) → k < length old → number k < length new
  pub same : (k : ℕ) → k < length old → shape_at new (number k) ≡ renamed number (shape_at old k)

pub fold_part : {A : Type 0} (step : (ℕ → A) → Shape → A) (none : A) → ReadsChildren step → ((g : ℕ → A) (f : ℕ → ℕ) (s : Shape) → step g (renamed f s) ≡ step (λ j. g (f j)) s) → (old new : List Shape) (number : ℕ → ℕ)
    → ((k : ℕ) → k < length old → ChildrenBelow k (shape_at old k)) → ((k : ℕ) → k < length new → ChildrenBelow k (shape_at new k)) → IsPart old new number → (k : ℕ) → k < length old → at_node step none old k ≡ at_node step none new (number k)
fold_part step none reads renames old new number children later part k l = every_node (λ j. at_node step none old j ≡ at_node step none new (number j)) old children turn k l
  where
    turn : (j : ℕ) → j < length old → OnChildren (λ i. at_node step none old i ≡ at_node step none new (number i)) (shape_at old j) → at_node step none old j ≡ at_node step none new (number j)
    turn j h b =
        node_step step none reads old j (children j h) ∙ reads (at_node step none old) (λ i. at_node step none new (number i)) (shape_at old j) b
        ∙ sym (renames (at_node step none new) number (shape_at old j)) ∙ ap (step (at_node step none new)) (sym (part.same j h))
        ∙ sym (node_step step none reads new (number j) (later (number j) (part.within j h)))

pub width_part : (old new : List Shape) (number : ℕ → ℕ) → ((k : ℕ) → k < length old → ChildrenBelow k (shape_at old k)) → ((k : ℕ) → k < length new → ChildrenBelow k (shape_at new k)) → IsPart old new number → (k : ℕ) → k < length old → width_at old k ≡ width_at new (number k)
width_part old new number children later part k l = fold_part width_of 0 width_reads width_renamed old new number children later part k l

pub variables_part : (p : VarName → ℕ → Bool) (old new : List Shape) (number : ℕ → ℕ) → ((k : ℕ) → k < length old → ChildrenBelow k (shape_at old k)) → ((k : ℕ) → k < length new → ChildrenBelow k (shape_at new k)) → IsPart old new number → (k : ℕ) → k < length old → each_variable p old k ≡ each_variable p new (number k)
variables_part p old new number children later part k l = fold_part (each_variable_of p) true (variables_read p) (variables_renamed p) old new number children later part k l

pub expr_part : (old new : List Shape) (number : ℕ → ℕ) → ((k : ℕ) → k < length old → ChildrenBelow k (shape_at old k)) → ((k : ℕ) → k < length new → ChildrenBelow k (shape_at new k)) → IsPart old new number → (k : ℕ) → k < length old → expr_at old k ≡ expr_at new (number k)
expr_part old new number children later part k l = fold_part expr_of (const []) expr_reads expr_renamed old new number children later part k l
