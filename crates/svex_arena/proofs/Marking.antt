-- What marking the children of a node does.
use Rattle.std.proofs.Common.{◌≡◌, ℕ, zero, suc, ◌+◌, ◌-◌, ◌<◌, ◌≤◌, ◌⊎◌, Bool, true, false, cond, List, ◌++◌, length, get_or, take, drop, replicate, refl, sym, ap, ◌∙◌, subst, inl, inr, arith}
use Rattle.std.specs.Prelude.{slice_index, slice_set}
use Rattle.std.proofs.lemmas.Bool.{cases_eq, cases_lt}
use Rattle.std.proofs.lemmas.List.{append-nil, drop_all, take_all, length-set, get_or-set_same, get_or-set_other, get_or_past}
use Rattle.svex_shape.specs.declared.shape.Shape.{Shape}
use Rattle.svex_shape.specs.declared.shape.Shape.TheVariants.{Const, Var, Unary, Binary, Cond, Pick, Slice, Zext, Sext, DynSlice, DynPut}
use Rattle.svex_shape.specs.Shapes.{OnChildren, ChildrenBelow, IsChild, shape_at}
use Rattle.svex_arena.specs.Marks.{IsReached, as_root, as_child, marked, IsMarked, IsClosed, OnlyReached, OnlyRoots, Rises, HasEarlierChildren, HasRoots}
use Rattle.svex_arena.specs.Arenas.{Extends}
use Rattle.svex_arena.proofs.Numbering.{map_children}

pub rises_none : (m : List Bool) → Rises m m
rises_none m = record { stays = λ k h. h }

pub closed_none : (shapes : List Shape) (m : List Bool) → IsClosed shapes m (length m)
closed_none shapes m = record { children = λ k h l. absurd (omega arith) }

stays_set : (m : List Bool) (a k : ℕ) → a < length m → IsMarked m k → IsMarked (slice_set m a true) k
stays_set m a k l h =
    elim (cases_eq k a) [ inl e ↦ subst (λ j. IsMarked (slice_set m a true) j) (sym e) (get_or-set_same m a true false l) | inr ne ↦ get_or-set_other m a k true false ne ∙ h ]

set_within : (m : List Bool) (a b : ℕ) → b < length m → b < length (slice_set m a true)
set_within m a b l = omega (arith, length-set m a true)

length_marked : (s : Shape) (m : List Bool) → length (marked s m) ≡ length m
length_marked (Const v) m = refl
length_marked (Var name width) m = refl
length_marked (Unary op a) m = simp length-set refl
length_marked (Binary op a b) m = simp length-set refl
length_marked (Cond c a b) m = simp length-set refl
length_marked (Pick c a b) m = simp length-set refl
length_marked (Slice a lo width) m = simp length-set refl
length_marked (Zext a width) m = simp length-set refl
length_marked (Sext a width) m = simp length-set refl
length_marked (DynSlice a at spot) m = simp length-set refl
length_marked (DynPut a at spot put) m = simp length-set refl

stays_two : (m : List Bool) (a b k : ℕ) → a < length m → b < length m → IsMarked m k → IsMarked (slice_set (slice_set m a true) b true) k
stays_two m a b k l n h = stays_set (slice_set m a true) b k (set_within m a b n) (stays_set m a k l h)

stays_three : (m : List Bool) (c a b k : ℕ) → c < length m → a < length m → b < length m → IsMarked m k → IsMarked (slice_set (slice_set (slice_set m c true) a true) b true) k
stays_three m c a b k l n o h =
    stays_two (slice_set m c true) a b k (set_within m c a n) (set_within m c b o) (stays_set m c k l h)

stays_marked : (s : Shape) (m : List Bool) (k : ℕ) → ChildrenBelow (length m) s → IsMarked m k → IsMarked (marked s m) k
stays_marked (Const v) m k l h = h
stays_marked (Var name width) m k l h = h
stays_marked (Unary op a) m k l h = stays_set m a k l h
stays_marked (Binary op a b) m k l h = stays_two m a b k l.0 l.1 h
stays_marked (Cond c a b) m k l h = stays_three m c a b k l.0 l.1 l.2 h
stays_marked (Pick c a b) m k l h = stays_three m c a b k l.0 l.1 l.2 h
stays_marked (Slice a lo width) m k l h = stays_set m a k l h
stays_marked (Zext a width) m k l h = stays_set m a k l h
stays_marked (Sext a width) m k l h = stays_set m a k l h
stays_marked (DynSlice a at spot) m k l h = stays_two m a at k l.0 l.1 h
stays_marked (DynPut a at spot put) m k l h = stays_three m a at put k l.0 l.1 l.2 h

hit : (m : List Bool) (a : ℕ) → a < length m → IsMarked (slice_set m a true) a
hit m a l = get_or-set_same m a true false l

hit_two : (m : List Bool) (a b : ℕ) → a < length m → b < length m → IsMarked (slice_set (slice_set m a true) b true) a × IsMarked (slice_set (slice_set m a true) b true) b
hit_two m a b l n =
    (stays_set (slice_set m a true) b a (set_within m a b n) (hit m a l), hit (slice_set m a true) b (set_within m a b n))

hit_three : (m : List Bool) (c a b : ℕ) → c < length m → a < length m → b < length m → IsMarked (slice_set (slice_set (slice_set m c true) a true) b true) c × IsMarked (slice_set (slice_set (slice_set m c true) a true) b true) a × IsMarked (slice_set (slice_set (slice_set m c true) a true) b true) b
hit_three m c a b l n o =
    let rest = hit_two (slice_set m c true) a b (set_within m c a n) (set_within m c b o) in
    (stays_two (slice_set m c true) a b c (set_within m c a n) (set_within m c b o) (hit m c l), rest.0, rest.1)

children_marked : (s : Shape) (m : List Bool) → ChildrenBelow (length m) s → OnChildren (IsMarked (marked s m)) s
children_marked (Const v) m l = tt
children_marked (Var name width) m l = tt
children_marked (Unary op a) m l = hit m a l
children_marked (Binary op a b) m l = hit_two m a b l.0 l.1
children_marked (Cond c a b) m l = hit_three m c a b l.0 l.1 l.2
children_marked (Pick c a b) m l = hit_three m c a b l.0 l.1 l.2
children_marked (Slice a lo width) m l = hit m a l
children_marked (Zext a width) m l = hit m a l
children_marked (Sext a width) m l = hit m a l
children_marked (DynSlice a at spot) m l = hit_two m a at l.0 l.1
children_marked (DynPut a at spot put) m l = hit_three m a at put l.0 l.1 l.2

other : (m : List Bool) (a k n : ℕ) → a < n → n ≤ k → get_or (slice_set m a true) k false ≡ get_or m k false
other m a k n l h = get_or-set_other m a k true false (λ e. omega arith)

high_marked : (s : Shape) (m : List Bool) (n k : ℕ) → ChildrenBelow n s → n ≤ k → get_or (marked s m) k false ≡ get_or m k false
high_marked (Const v) m n k l h = refl
high_marked (Var name width) m n k l h = refl
high_marked (Unary op a) m n k l h = other m a k n l h
high_marked (Binary op a b) m n k l h = other _ b k n l.1 h ∙ other m a k n l.0 h
high_marked (Cond c a b) m n k l h = other _ b k n l.2 h ∙ other _ a k n l.1 h ∙ other m c k n l.0 h
high_marked (Pick c a b) m n k l h = other _ b k n l.2 h ∙ other _ a k n l.1 h ∙ other m c k n l.0 h
high_marked (Slice a lo width) m n k l h = other m a k n l h
high_marked (Zext a width) m n k l h = other m a k n l h
high_marked (Sext a width) m n k l h = other m a k n l h
high_marked (DynSlice a at spot) m n k l h = other _ at k n l.1 h ∙ other m a k n l.0 h
high_marked (DynPut a at spot put) m n k l h = other _ put k n l.2 h ∙ other _ at k n l.1 h ∙ other m a k n l.0 h

-- the children of an earlier node lie within the marks
within : (shapes : List Shape) (m : List Bool) (k : ℕ) → HasEarlierChildren shapes → length m ≤ length shapes → k < length m → ChildrenBelow (length m) (shape_at shapes k)
within shapes m k e w l =
    map_children (λ j. j < k) (λ j. j < length m) (λ j lt. omega arith) (shape_at shapes k) (e.children k (omega arith))

-- one turn of `reach`
pub closed_more : (shapes : List Shape) (m : List Bool) (k : ℕ) → HasEarlierChildren shapes → length m ≤ length shapes → k < length m → IsClosed shapes m (k + 1) → IsClosed shapes (cond (get_or m k false) (marked (shape_at shapes k) m) m) k
closed_more shapes m k e w l h = either (get_or m k false) refl
  where
    either : (b : Bool) → get_or m k false ≡ b → IsClosed shapes (cond b (marked (shape_at shapes k) m) m) k
    either true b = record {
      children = λ j from in_marks is. elim (cases_eq j k) [
        | inl same ↦ subst (λ i. OnChildren (IsMarked (marked (shape_at shapes k) m)) (shape_at shapes i)) (sym same) (children_marked (shape_at shapes k) m (within shapes m k e w l))
        | inr ne ↦ map_children (IsMarked m) (IsMarked (marked (shape_at shapes k) m)) (λ i was. stays_marked (shape_at shapes k) m i (within shapes m k e w l) was) (shape_at shapes j) (h.children j (omega arith) (omega (arith, length_marked (shape_at shapes k) m)) (sym (high_marked (shape_at shapes k) m k j (e.children k (omega arith)) (omega arith)) ∙ is))
      ];
    }
    either false b = record {
      children = λ j from in_marks is. elim (cases_eq j k) [
        | inl same ↦ let not_marked : get_or m j false ≡ false = subst (λ i. get_or m i false ≡ false) (sym same) b in cc
        | inr ne ↦ h.children j (omega arith) in_marks is
      ];
    }

pub rises_more : (shapes : List Shape) (first m : List Bool) (k : ℕ) → HasEarlierChildren shapes → length m ≤ length shapes → k < length m → Rises first m → Rises first (cond (get_or m k false) (marked (shape_at shapes k) m) m)
rises_more shapes first m k e w l h = either (get_or m k false)
  where
    either : (b : Bool) → Rises first (cond b (marked (shape_at shapes k) m) m)
    either true = record {
      stays = λ j is. stays_marked (shape_at shapes k) m j (within shapes m k e w l) (h.stays j is);
    }
    either false = h

pub length_more : (shapes : List Shape) (m : List Bool) (k : ℕ) → length (cond (get_or m k false) (marked (shape_at shapes k) m) m) ≡ length m
length_more shapes m k = either (get_or m k false)
  where
    either : (b : Bool) → length (cond b (marked (shape_at shapes k) m) m) ≡ length m
    either true = length_marked (shape_at shapes k) m
    either false = refl

pub closed_turn : (shapes : List Shape) (m : List Bool) (n : ℕ) → HasEarlierChildren shapes → length m ≤ length shapes → 0 < n → n ≤ length m → IsClosed shapes m n → IsClosed shapes (cond (get_or m (n - 1) false) (marked (shape_at shapes (n - 1)) m) m) (n - 1)
closed_turn shapes m n e w some l h =
    let back : n ≡ n - 1 + 1 = omega arith in
    closed_more shapes m (n - 1) e w (omega arith) (subst (λ i. IsClosed shapes m i) back h)

pub roots_none : (roots : List ℕ) (m : List Bool) → HasRoots roots m 0
roots_none roots m = record { marked_roots = λ i l. absurd (omega arith) }

pub roots_more : (roots : List ℕ) (m : List Bool) (n : ℕ) → slice_index roots n < length m → HasRoots roots m n → HasRoots roots (slice_set m (slice_index roots n) true) (n + 1)
roots_more roots m n l h = record {
  marked_roots = λ i lt. elim (cases_eq i n) [
    | inl is ↦ subst (λ j. IsMarked (slice_set m (slice_index roots n) true) (slice_index roots j)) (sym is) (hit m (slice_index roots n) l)
    | inr not ↦ stays_set m (slice_index roots n) (slice_index roots i) l (h.marked_roots i (omega arith))
  ];
}

pub roots_rise : (roots : List ℕ) (m m' : List Bool) (n : ℕ) → Rises m m' → HasRoots roots m n → HasRoots roots m' n
roots_rise roots m m' n r h = record { marked_roots = λ i l. r.stays (slice_index roots i) (h.marked_roots i l) }

-- ---- what the roots reach

child_of : (P : ℕ → Type 0) (k : ℕ) (s : Shape) → OnChildren P s → IsChild k s → P k
child_of P k (Const v) h c = absurd c
child_of P k (Var name width) h c = absurd c
child_of P k (Unary op a) h c = subst P (sym c) h
child_of P k (Binary op a b) h (inl e) = subst P (sym e) h.0
child_of P k (Binary op a b) h (inr e) = subst P (sym e) h.1
child_of P k (Cond c a b) h (inl e) = subst P (sym e) h.0
child_of P k (Cond c a b) h (inr (inl e)) = subst P (sym e) h.1
child_of P k (Cond c a b) h (inr (inr e)) = subst P (sym e) h.2
child_of P k (Pick c a b) h (inl e) = subst P (sym e) h.0
child_of P k (Pick c a b) h (inr (inl e)) = subst P (sym e) h.1
child_of P k (Pick c a b) h (inr (inr e)) = subst P (sym e) h.2
child_of P k (Slice a lo width) h c = subst P (sym c) h
child_of P k (Zext a width) h c = subst P (sym c) h
child_of P k (Sext a width) h c = subst P (sym c) h
child_of P k (DynSlice a at spot) h (inl e) = subst P (sym e) h.0
child_of P k (DynSlice a at spot) h (inr e) = subst P (sym e) h.1
child_of P k (DynPut a at spot put) h (inl e) = subst P (sym e) h.0
child_of P k (DynPut a at spot put) h (inr (inl e)) = subst P (sym e) h.1
child_of P k (DynPut a at spot put) h (inr (inr e)) = subst P (sym e) h.2

within_marks : (m : List Bool) (k : ℕ) → IsMarked m k → k < length m
within_marks m k is = elim (cases_lt k (length m)) [
  | inl l ↦ l
  | inr past ↦ let off : get_or m k false ≡ false = get_or_past m k false past in cc
]

-- what the roots reach is marked
pub reached_marked : (old new : List Shape) (roots : List ℕ) (m : List Bool) → Extends old new → length m ≡ length old → HasRoots roots m (length roots) → IsClosed new m 0 → (k : ℕ) → IsReached old roots k → (k < length old) × IsMarked m k
reached_marked old new roots m e size h c k r =
    let is = marked_by k r in (omega (arith, within_marks m k is), is)
  where
    marked_by : (j : ℕ) → IsReached old roots j → IsMarked m j
    marked_by j (as_root i _ l same) = subst (IsMarked m) same (h.marked_roots i l)
    marked_by j (as_child n _ up is) =
        let above : IsMarked m n = marked_by n up in
        let below = within_marks m n above in
        child_of (IsMarked m) j (shape_at old n) (subst (OnChildren (IsMarked m)) (e.same n (omega arith)) (c.children n (omega arith) below above)) is

set_before : (m : List Bool) (a k : ℕ) → IsMarked (slice_set m a true) k → IsMarked m k ⊎ (k ≡ a)
set_before m a k is = elim (cases_eq k a) [
  | inl e ↦ inr e
  | inr ne ↦ inl (sym (get_or-set_other m a k true false ne) ∙ is)
]

two_before : (m : List Bool) (a b k : ℕ) → IsMarked (slice_set (slice_set m a true) b true) k → IsMarked m k ⊎ ((k ≡ a) ⊎ (k ≡ b))
two_before m a b k is = elim (set_before (slice_set m a true) b k is) [
  | inl was ↦ elim (set_before m a k was) [ inl first ↦ inl first | inr e ↦ inr (inl e) ]
  | inr e ↦ inr (inr e)
]

three_before : (m : List Bool) (c a b k : ℕ) → IsMarked (slice_set (slice_set (slice_set m c true) a true) b true) k → IsMarked m k ⊎ ((k ≡ c) ⊎ ((k ≡ a) ⊎ (k ≡ b)))
three_before m c a b k is = elim (two_before (slice_set m c true) a b k is) [
  | inl was ↦ elim (set_before m c k was) [ inl first ↦ inl first | inr e ↦ inr (inl e) ]
  | inr e ↦ inr (inr e)
]

-- the marks after a node's children are marked are old ones, or the children's
marked_before : (s : Shape) (m : List Bool) (k : ℕ) → IsMarked (marked s m) k → IsMarked m k ⊎ IsChild k s
marked_before (Const v) m k is = inl is
marked_before (Var name width) m k is = inl is
marked_before (Unary op a) m k is = set_before m a k is
marked_before (Binary op a b) m k is = two_before m a b k is
marked_before (Cond c a b) m k is = three_before m c a b k is
marked_before (Pick c a b) m k is = three_before m c a b k is
marked_before (Slice a lo width) m k is = set_before m a k is
marked_before (Zext a width) m k is = set_before m a k is
marked_before (Sext a width) m k is = set_before m a k is
marked_before (DynSlice a at spot) m k is = two_before m a at k is
marked_before (DynPut a at spot put) m k is = three_before m a at put k is

pub only_roots_none : (roots : List ℕ) (m : List Bool) (n : ℕ) → m ≡ replicate n false → OnlyRoots roots m
only_roots_none roots m n e = record {
  from_roots = λ k is. absurd (unmarked n k (subst (λ x. IsMarked x k) e is));
}
  where
    unmarked : (n k : ℕ) → get_or (replicate n false) k false ≡ true → ⊥
    unmarked zero k h = cc
    unmarked (suc n) zero h = cc
    unmarked (suc n) (suc k) h = unmarked n k h

pub only_roots_more : (roots : List ℕ) (m : List Bool) (i : ℕ) → i < length roots → OnlyRoots roots m → OnlyRoots roots (slice_set m (slice_index roots i) true)
only_roots_more roots m i l h = record {
  from_roots = λ k is. elim (set_before m (slice_index roots i) k is) [
    | inl was ↦ h.from_roots k was
    | inr same ↦ (i, (l, sym same))
  ];
}

pub only_reached : (shapes : List Shape) (roots : List ℕ) (m : List Bool) → OnlyRoots roots m → OnlyReached shapes roots m
only_reached shapes roots m h = record {
  reached = λ k is. let r = h.from_roots k is in as_root r.0 k r.1.0 r.1.1;
}

pub only_more : (shapes : List Shape) (roots : List ℕ) (m : List Bool) (n : ℕ) → OnlyReached shapes roots m → OnlyReached shapes roots (cond (get_or m n false) (marked (shape_at shapes n) m) m)
only_more shapes roots m n h = either (get_or m n false) refl
  where
    either : (b : Bool) → get_or m n false ≡ b → OnlyReached shapes roots (cond b (marked (shape_at shapes n) m) m)
    either true b = record {
      reached = λ k is. elim (marked_before (shape_at shapes n) m k is) [
        | inl was ↦ h.reached k was
        | inr child ↦ as_child n k (h.reached n b) child
      ];
    }
    either false b = h

-- ---- a list that was changed as a slice

pub slice_back : {A : Type 0} → (n : ℕ) (new items was : List A) → n ≡ length items → length new ≡ length was → was ≡ items → take n (new ++ drop (length new) items) ≡ new
slice_back n new items was e same is =
    let l : length new ≡ length items = same ∙ ap length is in
    ap (λ r. take n (new ++ r)) (drop_all (length new) items (omega arith)) ∙ ap (take n) (append-nil new) ∙ take_all n new (omega arith)
