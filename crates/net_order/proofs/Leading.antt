-- Where nodes lead.
use Rattle.std.proofs.Common.{◌≡◌, ◌⊎◌, ℕ, zero, suc, ◌<◌, Bool, true, List, [], ◌∷◌, length, get_or, refl, sym, ap, ◌∙◌, subst, inl, inr, arith, map}
use Rattle.std.specs.Prelude.{Contains, slice_index}
use Rattle.lhs_alias.specs.declared.segs.Seg.{Seg}
use Rattle.lhs_alias.specs.Joined.{Kept}
use Rattle.svex_shape.specs.declared.shape.Shape.{Shape}
use Rattle.svex_shape.specs.declared.shape.Shape.TheVariants.{Const, Var, Unary, Binary, Cond, Pick, Slice, Zext, Sext, DynSlice, DynPut}
use Rattle.svex_shape.specs.declared.shape.VarName.{VarName}
use Rattle.svex_shape.specs.declared.shape.VarName.TheVariants.{Now}
use Rattle.svex_shape.specs.Shapes.{OnChildren, IsChild, shape_at}
use Rattle.svex_shape.specs.Values.{each_variable}
use Rattle.svex_arena.specs.Arenas.{IsArena}
use Rattle.svex_arena.specs.Marks.{IsReached, as_root, as_child}
use Rattle.svex_arena.proofs.Numbering.{map_children, join_children}
use Rattle.svex_arena.proofs.Steps.{variables_follow}
use Rattle.svex_arena.proofs.Lifted.{variables_children}
use Rattle.net_order.specs.Rows.{child_list, Feeds, IsTold, IsNodeRow}

-- ---- short lists

pub nothing-in : {X : Type 0} (x : ℕ) → Contains [] x → X
nothing-in x c = absurd (omega (arith, c.1))

pub in-cons : (a : ℕ) (l : List ℕ) (x : ℕ) → Contains (a ∷ l) x → (x ≡ a) ⊎ Contains l x
in-cons a l x c = go c.0 c.1 c.2
  where
    go : (k : ℕ) → k < length (a ∷ l) → get_or (a ∷ l) k x ≡ x → (x ≡ a) ⊎ Contains l x
    go zero lt e = inl (sym e)
    go (suc k) lt e = inr (k, omega (arith, lt), e)

pub cons-head : (a : ℕ) (l : List ℕ) (x : ℕ) → x ≡ a → Contains (a ∷ l) x
cons-head a l x e = (0, omega arith, sym e)

pub cons-tail : (a : ℕ) (l : List ℕ) (x : ℕ) → Contains l x → Contains (a ∷ l) x
cons-tail a l x c = (suc c.0, omega (arith, c.1), c.2)

pub in-one : (a x : ℕ) → Contains (a ∷ []) x → x ≡ a
in-one a x c = elim (in-cons a [] x c) [ inl e ↦ e | inr none ↦ nothing-in x none ]

in-two : (a b x : ℕ) → Contains (a ∷ b ∷ []) x → (x ≡ a) ⊎ (x ≡ b)
in-two a b x c = elim (in-cons a (b ∷ []) x c) [ inl e ↦ inl e | inr more ↦ inr (in-one b x more) ]

in-three : (a b d x : ℕ) → Contains (a ∷ b ∷ d ∷ []) x → (x ≡ a) ⊎ ((x ≡ b) ⊎ (x ≡ d))
in-three a b d x c = elim (in-cons a (b ∷ d ∷ []) x c) [ inl e ↦ inl e | inr more ↦ inr (in-two b d x more) ]

pub one-in : (a x : ℕ) → x ≡ a → Contains (a ∷ []) x
one-in a x e = cons-head a [] x e

two-in : (a b x : ℕ) → (x ≡ a) ⊎ (x ≡ b) → Contains (a ∷ b ∷ []) x
two-in a b x (inl e) = cons-head a (b ∷ []) x e
two-in a b x (inr e) = cons-tail a (b ∷ []) x (one-in b x e)

three-in : (a b d x : ℕ) → (x ≡ a) ⊎ ((x ≡ b) ⊎ (x ≡ d)) → Contains (a ∷ b ∷ d ∷ []) x
three-in a b d x (inl e) = cons-head a (b ∷ d ∷ []) x e
three-in a b d x (inr more) = cons-tail a (b ∷ d ∷ []) x (two-in b d x more)

-- ---- children

listed-child : (s : Shape) (x : ℕ) → Contains (child_list s) x → IsChild x s
listed-child (Const v) x c = nothing-in x c
listed-child (Var name width) x c = nothing-in x c
listed-child (Unary op a) x c = in-one a x c
listed-child (Binary op a b) x c = in-two a b x c
listed-child (Cond t a b) x c = in-three t a b x c
listed-child (Pick t a b) x c = in-three t a b x c
listed-child (Slice a lo width) x c = in-one a x c
listed-child (Zext a width) x c = in-one a x c
listed-child (Sext a width) x c = in-one a x c
listed-child (DynSlice a at spot) x c = in-two a at x c
listed-child (DynPut a at spot put) x c = in-three a at put x c

child-listed : (s : Shape) (x : ℕ) → IsChild x s → Contains (child_list s) x
child-listed (Const v) x c = absurd c
child-listed (Var name width) x c = absurd c
child-listed (Unary op a) x c = one-in a x c
child-listed (Binary op a b) x c = two-in a b x c
child-listed (Cond t a b) x c = three-in t a b x c
child-listed (Pick t a b) x c = three-in t a b x c
child-listed (Slice a lo width) x c = one-in a x c
child-listed (Zext a width) x c = one-in a x c
child-listed (Sext a width) x c = one-in a x c
child-listed (DynSlice a at spot) x c = two-in a at x c
child-listed (DynPut a at spot put) x c = three-in a at put x c

in-map : (f : ℕ → ℕ) (l : List ℕ) (x : ℕ) → Contains (map f l) x → (k : ℕ) × (Contains l k × (x ≡ f k))
in-map f [] x c = nothing-in x c
in-map f (a ∷ l) x c = elim (in-cons (f a) (map f l) x c) [
  | inl e ↦ (a, (cons-head a l a refl, e))
  | inr more ↦ let r = in-map f l x more in (r.0, (cons-tail a l r.0 r.1.0, r.1.1))
]

map-in : (f : ℕ → ℕ) (l : List ℕ) (k : ℕ) → Contains l k → Contains (map f l) (f k)
map-in f [] k c = nothing-in k c
map-in f (a ∷ l) k c = elim (in-cons a l k c) [
  | inl e ↦ cons-head (f a) (map f l) (f k) (ap f e)
  | inr more ↦ cons-tail (f a) (map f l) (f k) (map-in f l k more)
]

pub children_row : (kept : Kept) (segs : List Seg) (nodes : ℕ) (places : List ℕ) (s : Shape) (row : List ℕ) → ((name : VarName) (width : ℕ) → s ≡ Var name width → ⊥) → row ≡ map (slice_index places) (child_list s)
    → IsNodeRow kept segs nodes (slice_index places) s row
children_row kept segs nodes places s row plain e = record {
  only = λ x c. let r = in-map (slice_index places) (child_list s) x (subst (λ l. Contains l x) e c) in inl (record { child = r.0; is = listed-child s r.0 r.1.0; at = r.1.1 });
  children = λ k c. subst (λ l. Contains l (slice_index places k)) (sym e) (map-in (slice_index places) (child_list s) k (child-listed s k c));
  tellers = λ x l. absurd (plain (Now l.wire) l.width l.is);
}

-- ---- variables

same-now : (n m w v : ℕ) → Var (Now n) w ≡ Var (Now m) v → n ≡ m
same-now n m w v e = ap number e
  where
    number : Shape → ℕ
    number (Var (Now k) u) = k
    number s = 0

pub present_row : (kept : Kept) (segs : List Seg) (nodes wire width : ℕ) (row : List ℕ) → IsTold kept segs nodes wire row → (at : ℕ → ℕ) → IsNodeRow kept segs nodes at (Var (Now wire) width) row
present_row kept segs nodes wire width row h at = record {
  only = λ x c. let r = h.only x c in inr (record { wire = wire; width = width; is = refl; eq = r.0; there = r.1.0; place = r.1.1.0; feeds = r.1.1.1 });
  children = λ x c. absurd c;
  tellers = λ x l. subst (Contains row) (sym l.place) (h.all l.eq l.there (subst (λ n. Feeds kept segs n l.eq) (sym (same-now wire l.wire width l.width l.is)) l.feeds));
}

pub other_row : (kept : Kept) (segs : List Seg) (nodes : ℕ) (name : VarName) (width : ℕ) (row : List ℕ) → ((n : ℕ) → name ≡ Now n → ⊥) → row ≡ [] → (at : ℕ → ℕ) → IsNodeRow kept segs nodes at (Var name width) row
other_row kept segs nodes name width row other e at = record {
  only = λ x c. nothing-in x (subst (λ l. Contains l x) e c);
  children = λ x c. absurd c;
  tellers = λ x l. absurd (other l.wire (ap named l.is));
}
  where
    named : Shape → VarName
    named (Var n w) = n
    named s = name

-- ---- what roots reach

pub child-of : (P : ℕ → Type 0) (k : ℕ) (s : Shape) → OnChildren P s → IsChild k s → P k
child-of P k (Const v) h c = absurd c
child-of P k (Var name w) h c = absurd c
child-of P k (Unary op a) h c = subst P (sym c) h
child-of P k (Binary op a b) h (inl c) = subst P (sym c) h.0
child-of P k (Binary op a b) h (inr c) = subst P (sym c) h.1
child-of P k (Cond x a b) h (inl c) = subst P (sym c) h.0
child-of P k (Cond x a b) h (inr (inl c)) = subst P (sym c) h.1
child-of P k (Cond x a b) h (inr (inr c)) = subst P (sym c) h.2
child-of P k (Pick x a b) h (inl c) = subst P (sym c) h.0
child-of P k (Pick x a b) h (inr (inl c)) = subst P (sym c) h.1
child-of P k (Pick x a b) h (inr (inr c)) = subst P (sym c) h.2
child-of P k (Slice a lo w) h c = subst P (sym c) h
child-of P k (Zext a w) h c = subst P (sym c) h
child-of P k (Sext a w) h c = subst P (sym c) h
child-of P k (DynSlice a at spot) h (inl c) = subst P (sym c) h.0
child-of P k (DynSlice a at spot) h (inr c) = subst P (sym c) h.1
child-of P k (DynPut a at spot put) h (inl c) = subst P (sym c) h.0
child-of P k (DynPut a at spot put) h (inr (inl c)) = subst P (sym c) h.1
child-of P k (DynPut a at spot put) h (inr (inr c)) = subst P (sym c) h.2

-- what holds of the roots, and of the children of each node of which it holds, holds of all that they reach
pub reached-have : (P : ℕ → Type 0) (shapes : List Shape) (roots : List ℕ) → ((i : ℕ) → i < length roots → P (slice_index roots i)) → ((j : ℕ) → P j → OnChildren P (shape_at shapes j)) → (k : ℕ) → IsReached shapes roots k → P k
reached-have P shapes roots h step _ (as_root i k lt e) = subst P e (h i lt)
reached-have P shapes roots h step _ (as_child j k r c) = child-of P k (shape_at shapes j) (step j (reached-have P shapes roots h step j r)) c

-- a node that is there, and a test of all its variables holds
pub record Passes (p : VarName → ℕ → Bool) (shapes : List Shape) (k : ℕ) : Type 0 where
  pub there : k < length shapes
  pub each : each_variable p shapes k ≡ true

pub passes-step : (p : VarName → ℕ → Bool) (shapes : List Shape) → IsArena shapes → (j : ℕ) → Passes p shapes j → OnChildren (Passes p shapes) (shape_at shapes j)
passes-step p shapes a j h =
    map_children (λ n. (n < j) × (each_variable p shapes n ≡ true)) (Passes p shapes) (λ n b. record { there = omega (arith, b.0, h.there); each = b.1 }) (shape_at shapes j)
    (join_children (λ n. n < j) (λ n. each_variable p shapes n ≡ true) (shape_at shapes j) (a.children j h.there)
    (variables_children p (each_variable p shapes) (shape_at shapes j) (sym (variables_follow p shapes j a h.there) ∙ h.each)))
