-- What nodes give by folds over their shapes that read variables: values, and tests of variables.
use Rattle.std.proofs.Common.{◌≡◌, ℕ, ◌<◌, Bool, true, false, List, length, refl, sym, ◌∙◌}
use Rattle.svex_shape.specs.declared.shape.VarName.{VarName}
use Rattle.svex_shape.specs.declared.shape.Shape.{Shape}
use Rattle.svex_shape.specs.declared.shape.Shape.TheVariants.{Const, Var, Unary, Binary, Cond, Pick, Slice, Zext, Sext, DynSlice, DynPut}
use Rattle.svex_shape.specs.Shapes.{OnChildren, ChildrenBelow, shape_at, at_node}
use Rattle.svex_shape.specs.Values.{Vector, Reading, value_of, each_variable_of}
use Rattle.svex_arena.specs.Substs.{renamed}
use Rattle.svex_arena.proofs.Numbering.{ReadsChildren, node_step, every_node}
use Rattle.svex_arena.proofs.Steps.{value_reads, variables_read}

abbrev pub is_variable : Shape → Bool
is_variable (Var name width) = true
is_variable s = false

-- a step reads the children's numbers, and what a variable gives at variables alone
pub record IsFold (A : Type 0) (step : (VarName → ℕ → A) → (ℕ → A) → Shape → A) : Type 0 where
  pub reads : (v : VarName → ℕ → A) → ReadsChildren (step v)
  pub renames : (v : VarName → ℕ → A) (g : ℕ → A) (f : ℕ → ℕ) (s : Shape) → step v g (renamed f s) ≡ step v (λ j. g (f j)) s
  pub at_variable : (v : VarName → ℕ → A) (g : ℕ → A) (name : VarName) (width : ℕ) → step v g (Var name width) ≡ v name width
  pub elsewhere : (v u : VarName → ℕ → A) (g : ℕ → A) (s : Shape) → is_variable s ≡ false → step v g s ≡ step u g s

-- variables that give the same
agree : (A : Type 0) (step : (VarName → ℕ → A) → (ℕ → A) → Shape → A) → IsFold A step → (v u : VarName → ℕ → A) → ((name : VarName) (width : ℕ) → v name width ≡ u name width) → (g : ℕ → A) (s : Shape) → step v g s ≡ step u g s
agree A step fold v u e g (Const x) = fold.elsewhere v u g (Const x) refl
agree A step fold v u e g (Var name width) = fold.at_variable v g name width ∙ e name width ∙ sym (fold.at_variable u g name width)
agree A step fold v u e g (Unary op a) = fold.elsewhere v u g (Unary op a) refl
agree A step fold v u e g (Binary op a b) = fold.elsewhere v u g (Binary op a b) refl
agree A step fold v u e g (Cond c a b) = fold.elsewhere v u g (Cond c a b) refl
agree A step fold v u e g (Pick c a b) = fold.elsewhere v u g (Pick c a b) refl
agree A step fold v u e g (Slice a lo width) = fold.elsewhere v u g (Slice a lo width) refl
agree A step fold v u e g (Zext a width) = fold.elsewhere v u g (Zext a width) refl
agree A step fold v u e g (Sext a width) = fold.elsewhere v u g (Sext a width) refl
agree A step fold v u e g (DynSlice a at spot) = fold.elsewhere v u g (DynSlice a at spot) refl
agree A step fold v u e g (DynPut a at spot put) = fold.elsewhere v u g (DynPut a at spot put) refl

pub fold_same : (A : Type 0) (step : (VarName → ℕ → A) → (ℕ → A) → Shape → A) (none : A) → IsFold A step → (v u : VarName → ℕ → A) (shapes : List Shape) (k : ℕ) → ((j : ℕ) → j < length shapes → ChildrenBelow j (shape_at shapes j)) → ((name : VarName) (width : ℕ) → v name width ≡ u name width) → k < length shapes → at_node (step v) none shapes k ≡ at_node (step u) none shapes k
fold_same A step none fold v u shapes k children e h = every_node (λ j. at_node (step v) none shapes j ≡ at_node (step u) none shapes j) shapes children turn k h
  where
    turn : (j : ℕ) → j < length shapes → OnChildren (λ n. at_node (step v) none shapes n ≡ at_node (step u) none shapes n) (shape_at shapes j) → at_node (step v) none shapes j ≡ at_node (step u) none shapes j
    turn j l b =
        node_step (step v) none (fold.reads v) shapes j (children j l) ∙ fold.reads v (at_node (step v) none shapes) (at_node (step u) none shapes) (shape_at shapes j) b ∙ agree A step fold v u e (at_node (step u) none shapes) (shape_at shapes j) ∙ sym (node_step (step u) none (fold.reads u) shapes j (children j l))

-- ---- values, and tests of variables

pub value_renamed : (r : Reading) (g : ℕ → Vector) (f : ℕ → ℕ) (s : Shape) → value_of r g (renamed f s) ≡ value_of r (λ j. g (f j)) s
unfolding value_of
value_renamed r g f (Const v) = refl
value_renamed r g f (Var name width) = refl
value_renamed r g f (Unary op a) = refl
value_renamed r g f (Binary op a b) = refl
value_renamed r g f (Cond c a b) = refl
value_renamed r g f (Pick c a b) = refl
value_renamed r g f (Slice a lo width) = refl
value_renamed r g f (Zext a width) = refl
value_renamed r g f (Sext a width) = refl
value_renamed r g f (DynSlice a at spot) = refl
value_renamed r g f (DynPut a at spot put) = refl

value_at_variable : (r : Reading) (g : ℕ → Vector) (name : VarName) (width : ℕ) → value_of r g (Var name width) ≡ r name width
unfolding value_of
value_at_variable r g name width = refl

value_elsewhere : (r s : Reading) (g : ℕ → Vector) (shape : Shape) → is_variable shape ≡ false → value_of r g shape ≡ value_of s g shape
unfolding value_of
value_elsewhere r s g (Const v) h = refl
value_elsewhere r s g (Var name width) h = cc
value_elsewhere r s g (Unary op a) h = refl
value_elsewhere r s g (Binary op a b) h = refl
value_elsewhere r s g (Cond c a b) h = refl
value_elsewhere r s g (Pick c a b) h = refl
value_elsewhere r s g (Slice a lo width) h = refl
value_elsewhere r s g (Zext a width) h = refl
value_elsewhere r s g (Sext a width) h = refl
value_elsewhere r s g (DynSlice a at spot) h = refl
value_elsewhere r s g (DynPut a at spot put) h = refl

pub value_folds : IsFold Vector value_of
value_folds = record {
  reads = value_reads;
  renames = value_renamed;
  at_variable = value_at_variable;
  elsewhere = value_elsewhere;
}

pub variables_renamed : (p : VarName → ℕ → Bool) (g : ℕ → Bool) (f : ℕ → ℕ) (s : Shape) → each_variable_of p g (renamed f s) ≡ each_variable_of p (λ j. g (f j)) s
unfolding each_variable_of
variables_renamed p g f (Const v) = refl
variables_renamed p g f (Var name width) = refl
variables_renamed p g f (Unary op a) = refl
variables_renamed p g f (Binary op a b) = refl
variables_renamed p g f (Cond c a b) = refl
variables_renamed p g f (Pick c a b) = refl
variables_renamed p g f (Slice a lo width) = refl
variables_renamed p g f (Zext a width) = refl
variables_renamed p g f (Sext a width) = refl
variables_renamed p g f (DynSlice a at spot) = refl
variables_renamed p g f (DynPut a at spot put) = refl

variables_at_variable : (p : VarName → ℕ → Bool) (g : ℕ → Bool) (name : VarName) (width : ℕ) → each_variable_of p g (Var name width) ≡ p name width
unfolding each_variable_of
variables_at_variable p g name width = refl

variables_elsewhere : (p q : VarName → ℕ → Bool) (g : ℕ → Bool) (shape : Shape) → is_variable shape ≡ false → each_variable_of p g shape ≡ each_variable_of q g shape
unfolding each_variable_of
variables_elsewhere p q g (Const v) h = refl
variables_elsewhere p q g (Var name width) h = cc
variables_elsewhere p q g (Unary op a) h = refl
variables_elsewhere p q g (Binary op a b) h = refl
variables_elsewhere p q g (Cond c a b) h = refl
variables_elsewhere p q g (Pick c a b) h = refl
variables_elsewhere p q g (Slice a lo width) h = refl
variables_elsewhere p q g (Zext a width) h = refl
variables_elsewhere p q g (Sext a width) h = refl
variables_elsewhere p q g (DynSlice a at spot) h = refl
variables_elsewhere p q g (DynPut a at spot put) h = refl

pub variables_fold : IsFold Bool each_variable_of
variables_fold = record {
  reads = variables_read;
  renames = variables_renamed;
  at_variable = variables_at_variable;
  elsewhere = variables_elsewhere;
}
