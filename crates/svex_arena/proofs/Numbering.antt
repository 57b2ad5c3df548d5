-- Induction over the numbers of nodes.
use Rattle.std.proofs.Common.{◌≡◌, ℕ, zero, suc, ◌<◌, cond, eqb, List, length, refl, ap, ◌∙◌, subst, inl, inr, arith}
use Rattle.std.proofs.lemmas.Bool.{cases_eq, eq-eqb, ne_eqb}
use Rattle.svex_shape.specs.declared.shape.Shape.{Shape}
use Rattle.svex_shape.specs.declared.shape.Shape.TheVariants.{Const, Var, Unary, Binary, Cond, Pick, Slice, Zext, Sext, DynSlice, DynPut}
use Rattle.svex_shape.specs.Shapes.{OnChildren, ChildrenBelow, shape_at, upto, at_node}

-- ---- facts on children

pub map_children : (P Q : ℕ → Type 0) → ((k : ℕ) → P k → Q k) → (s : Shape) → OnChildren P s → OnChildren Q s
map_children P Q f (Const v) h = tt
map_children P Q f (Var name width) h = tt
map_children P Q f (Unary op a) h = f a h
map_children P Q f (Binary op a b) h = (f a h.0, f b h.1)
map_children P Q f (Cond c a b) h = (f c h.0, f a h.1, f b h.2)
map_children P Q f (Pick c a b) h = (f c h.0, f a h.1, f b h.2)
map_children P Q f (Slice a lo width) h = f a h
map_children P Q f (Zext a width) h = f a h
map_children P Q f (Sext a width) h = f a h
map_children P Q f (DynSlice a at spot) h = (f a h.0, f at h.1)
map_children P Q f (DynPut a at spot put) h = (f a h.0, f at h.1, f put h.2)

pub join_children : (P Q : ℕ → Type 0) (s : Shape) → OnChildren P s → OnChildren Q s → OnChildren (λ k. P k × Q k) s
join_children P Q (Const v) h g = tt
join_children P Q (Var name width) h g = tt
join_children P Q (Unary op a) h g = (h, g)
join_children P Q (Binary op a b) h g = ((h.0, g.0), (h.1, g.1))
join_children P Q (Cond c a b) h g = ((h.0, g.0), (h.1, g.1), (h.2, g.2))
join_children P Q (Pick c a b) h g = ((h.0, g.0), (h.1, g.1), (h.2, g.2))
join_children P Q (Slice a lo width) h g = (h, g)
join_children P Q (Zext a width) h g = (h, g)
join_children P Q (Sext a width) h g = (h, g)
join_children P Q (DynSlice a at spot) h g = ((h.0, g.0), (h.1, g.1))
join_children P Q (DynPut a at spot put) h g = ((h.0, g.0), (h.1, g.1), (h.2, g.2))

pub all_children : (P : ℕ → Type 0) → ((k : ℕ) → P k) → (s : Shape) → OnChildren P s
all_children P f (Const v) = tt
all_children P f (Var name width) = tt
all_children P f (Unary op a) = f a
all_children P f (Binary op a b) = (f a, f b)
all_children P f (Cond c a b) = (f c, f a, f b)
all_children P f (Pick c a b) = (f c, f a, f b)
all_children P f (Slice a lo width) = f a
all_children P f (Zext a width) = f a
all_children P f (Sext a width) = f a
all_children P f (DynSlice a at spot) = (f a, f at)
all_children P f (DynPut a at spot put) = (f a, f at, f put)

-- what holds of a node where it holds of its children holds of every node
pub every_node : (P : ℕ → Type 0) (shapes : List Shape) → ((k : ℕ) → k < length shapes → ChildrenBelow k (shape_at shapes k)) → ((k : ℕ) → k < length shapes → OnChildren P (shape_at shapes k) → P k) → (k : ℕ) → k < length shapes → P k
every_node P shapes children turn k l = below (suc k) k (omega arith) l
  where
    below : (n j : ℕ) → j < n → j < length shapes → P j
    below zero j h l' = absurd (omega arith)
    below (suc n) j h l' =
        turn j l' (map_children (λ i. i < j) P (λ i lt. below n i (omega arith) (omega arith)) (shape_at shapes j) (children j l'))

-- ---- what a node gives

-- a step reads what the children give, and no other node
abbrev pub ReadsChildren : {A : Type 0} → ((ℕ → A) → Shape → A) → Type 0
ReadsChildren {A} step = (f g : ℕ → A) (s : Shape) → OnChildren (λ k. f k ≡ g k) s → step f s ≡ step g s

pub upto_at : {A : Type 0} (step : (ℕ → A) → Shape → A) (none : A) (shapes : List Shape) (n k : ℕ) → k < n → upto step none shapes n k ≡ at_node step none shapes k
unfolding upto
upto_at step none shapes zero k h = absurd (omega arith)
upto_at step none shapes (suc n) k h =
    elim (cases_eq k n) [
      | inl e ↦ subst (λ m. upto step none shapes (suc m) k ≡ at_node step none shapes k) e refl
      | inr ne ↦ ap (λ b. cond b (step (upto step none shapes n) (shape_at shapes n)) (upto step none shapes n k)) (ne_eqb k n ne) ∙ upto_at step none shapes n k (omega arith)
    ]

pub node_step : {A : Type 0} (step : (ℕ → A) → Shape → A) (none : A) → ReadsChildren step → (shapes : List Shape) (k : ℕ) → ChildrenBelow k (shape_at shapes k) → at_node step none shapes k ≡ step (at_node step none shapes) (shape_at shapes k)
unfolding upto
node_step step none reads shapes k h =
    ap (λ b. cond b (step (upto step none shapes k) (shape_at shapes k)) (upto step none shapes k k)) (eq-eqb k k refl) ∙ reads (upto step none shapes k) (at_node step none shapes) (shape_at shapes k) (map_children (λ j. j < k) (λ j. upto step none shapes k j ≡ at_node step none shapes j) (λ j lt. upto_at step none shapes k j lt) (shape_at shapes k) h)

-- an arena that keeps the first nodes keeps what they give
upto_same : {A : Type 0} (step : (ℕ → A) → Shape → A) (none : A) → ReadsChildren step → (old new : List Shape) (n : ℕ) → ((j : ℕ) → j < n → shape_at new j ≡ shape_at old j) → (k : ℕ) → upto step none new n k ≡ upto step none old n k
unfolding upto
upto_same step none reads old new zero same k = refl
upto_same step none reads old new (suc n) same k =
    let rest : (j : ℕ) → upto step none new n j ≡ upto step none old n j = upto_same step none reads old new n (λ j lt. same j (omega arith)) in
    let last : step (upto step none new n) (shape_at new n) ≡ step (upto step none old n) (shape_at old n) =
    ap (step (upto step none new n)) (same n (omega arith)) ∙ reads (upto step none new n) (upto step none old n) (shape_at old n) (all_children (λ j. upto step none new n j ≡ upto step none old n j) rest (shape_at old n)) in
    ap (λ x. cond (eqb k n) x (upto step none new n k)) last ∙ ap (cond (eqb k n) (step (upto step none old n) (shape_at old n))) (rest k)

pub node_same : {A : Type 0} (step : (ℕ → A) → Shape → A) (none : A) → ReadsChildren step → (old new : List Shape) (k : ℕ) → ((j : ℕ) → j < suc k → shape_at new j ≡ shape_at old j) → at_node step none new k ≡ at_node step none old k
node_same step none reads old new k same = upto_same step none reads old new (suc k) same k
