-- A walk down to stale nodes that are evaluated.
use Rattle.std.proofs.Common.{◌≡◌, ℕ, zero, suc, ◌+◌, ◌-◌, ◌<◌, ◌≤◌, Bool, true, false, not, cond, List, [], ◌∷◌, ◌++◌, length, get_or, set, take, refl, sym, ap, ◌∙◌, subst, inl, inr, arith, length-set, take_all, Vec, Global}
use Rattle.std.specs.Prelude.{IfSome, Contains, vec_capacity}
use Rattle.std.proofs.lemmas.Bool.{cases_eq, cases_lt}
use Rattle.std.proofs.lemmas.List.{get_or_append_left, get_or-set_same, get_or-set_other, get_or_default, length_push, take_more}
use Rattle.std.proofs.lemmas.List.Quantifiers.{all_pairs_push}
use Rattle.std.proofs.lemmas.List.Sums.{sum_by-set}
use Rattle.std.proofs.lemmas.List.Elements.{All-push}
use Rattle.std.proofs.Math.Seq.{get_or-append_seam}
use Rattle.svex_shape.specs.declared.shape.Shape.{Shape}
use Rattle.svex_shape.specs.declared.shape.Shape.TheVariants.{Const, Var, Unary, Binary, Cond, Pick, Slice, Zext, Sext, DynSlice, DynPut}
use Rattle.svex_shape.specs.Shapes.{OnChildren, ChildrenBelow, FitsWidths, shape_at, width_at}
use Rattle.svex_shape.specs.Values.{Vector, Reading, HasWidths, value_of, value_at}
use Rattle.svex_arena.specs.Arenas.{IsArena}
use Rattle.svex_arena.specs.Evaluated.{value_in, width_in}
use Rattle.svex_arena.proofs.Numbering.{map_children}
use Rattle.svex_arena.proofs.Steps.{value-step, value_reads, fits_same}
use Rattle.svex_arena.proofs.Widths.{length-value_at}
use Rattle.node_memo.specs.declared.memo.Memo.{Memo}
use Rattle.svex_shape.specs.Children.{children_of}
use Rattle.node_memo.specs.Memos.{rows_in, is_fresh, AreClosed, AreParents, IsMemo}
use Rattle.node_memo.specs.Walks.{IsPath, IsDown, KeepsUp, stale_marks}

-- ---- children

pub children_have : (P : ℕ → Type 0) (s : Shape) → IfSome (children_of s).first P → IfSome (children_of s).second P → IfSome (children_of s).third P → OnChildren P s
children_have P (Const v) f g h = tt
children_have P (Var name width) f g h = tt
children_have P (Unary op a) f g h = f
children_have P (Binary op a b) f g h = (f, g)
children_have P (Cond c a b) f g h = (f, g, h)
children_have P (Pick c a b) f g h = (f, g, h)
children_have P (Slice a lo width) f g h = f
children_have P (Zext a width) f g h = f
children_have P (Sext a width) f g h = f
children_have P (DynSlice a at spot) f g h = (f, g)
children_have P (DynPut a at spot put) f g h = (f, g, h)

pub children_own : (P : ℕ → Type 0) (s : Shape) → OnChildren P s → IfSome (children_of s).first P × IfSome (children_of s).second P × IfSome (children_of s).third P
children_own P (Const v) h = (tt, tt, tt)
children_own P (Var name width) h = (tt, tt, tt)
children_own P (Unary op a) h = (h, tt, tt)
children_own P (Binary op a b) h = (h.0, h.1, tt)
children_own P (Cond c a b) h = (h.0, h.1, h.2)
children_own P (Pick c a b) h = (h.0, h.1, h.2)
children_own P (Slice a lo width) h = (h, tt, tt)
children_own P (Zext a width) h = (h, tt, tt)
children_own P (Sext a width) h = (h, tt, tt)
children_own P (DynSlice a at spot) h = (h.0, h.1, tt)
children_own P (DynPut a at spot put) h = (h.0, h.1, h.2)

-- ---- the path

-- the last node of the path has the lowest number
pub path-lowest : (n : ℕ) (fresh : List Bool) (path : List ℕ) (last : ℕ) → IsPath n fresh path → 0 < length path → last ≡ get_or path (length path - 1) 0
    → (i d : ℕ) → i < length path - 1 → last < get_or path i d
path-lowest n fresh path last h some is i d lt =
    let end : ℕ = length path - 1 in
    let inside : end < length path = omega (arith, some) in
    let same : get_or path end d ≡ last = get_or_default path end d 0 inside ∙ sym is in
    omega (arith, h.falls i end d lt inside, same)

pub path-none : (n : ℕ) (fresh : List Bool) (path : List ℕ) → path ≡ [] → IsPath n fresh path
path-none n fresh path e =
    let none : length path ≡ 0 = ap (λ l. length l) e in
    record {
      stale = λ i d lt. absurd (omega (arith, none, lt));
      falls = λ i j d lt l. absurd (omega (arith, none, l));
      deep = λ i d lt. absurd (omega (arith, none, lt));
    }

pub path-pushes : (n : ℕ) (fresh : List Bool) (path : List ℕ) (k : ℕ) → IsPath n fresh path → k < n → is_fresh fresh k ≡ false
    → ((i d : ℕ) → i < length path → k < get_or path i d) → IsPath n fresh (path ++ k ∷ [])
path-pushes n fresh path k h lt off low = record {
  stale = All-push (λ j. is_fresh fresh j ≡ false) path k h.stale off;
  falls = all_pairs_push (λ a b. b < a) path k h.falls (λ i d l. low i d l);
  deep = λ i d l. elim (cases_lt i (length path)) [
    | inl old ↦ omega (arith, get_or_append_left path (k ∷ []) d i old, h.deep i d old)
    | inr past ↦
        let end : i ≡ length path = omega (arith, past, l, length_push path k) in
        let here : get_or (path ++ k ∷ []) i d ≡ k = ap (λ j. get_or (path ++ k ∷ []) j d) end ∙ get_or-append_seam path k [] d in
        omega (arith, end, here, bound (length path) refl)
  ];
}
  where
    bound : (m : ℕ) → length path ≡ m → m + k < n
    bound zero e = omega (arith, lt)
    bound (suc m) e =
        let inside : m < length path = omega (arith, e) in
        omega (arith, h.deep m 0 inside, low m 0 inside)

-- so there is room for one more
pub path-room : (n : ℕ) (fresh : List Bool) (path : List ℕ) (k room : ℕ) → IsPath n fresh path → k < n → ((i d : ℕ) → i < length path → k < get_or path i d) → n ≤ room → length path < room
path-room n fresh path k room h lt low le = bound (length path) refl
  where
    bound : (m : ℕ) → length path ≡ m → length path < room
    bound zero e = omega (arith, e, lt, le)
    bound (suc m) e =
        let inside : m < length path = omega (arith, e) in
        omega (arith, e, h.deep m 0 inside, low m 0 inside, le)

pub below-all : (n : ℕ) (fresh : List Bool) (path : List ℕ) (last k : ℕ) → IsPath n fresh path → 0 < length path → last ≡ get_or path (length path - 1) 0 → k < last
    → (i d : ℕ) → i < length path → k < get_or path i d
below-all n fresh path last k h some is lt i d l = elim (cases_lt i (length path - 1)) [
  | inl before ↦ omega (arith, lt, path-lowest n fresh path last h some is i d before)
  | inr past ↦
      let end : i ≡ length path - 1 = omega (arith, past, l, some) in
      let here : get_or path i d ≡ last = ap (λ j. get_or path j d) end ∙ get_or_default path (length path - 1) d 0 (omega (arith, some)) ∙ sym is in
      omega (arith, lt, here)
]

pub last-below : (n : ℕ) (fresh : List Bool) (path : List ℕ) (last : ℕ) → IsPath n fresh path → 0 < length path → last ≡ get_or path (length path - 1) 0 → last < n
last-below n fresh path last h some is = omega (arith, is, h.deep (length path - 1) 0 (omega (arith, some)))

pub last-stale : (n : ℕ) (fresh : List Bool) (path : List ℕ) (last : ℕ) → IsPath n fresh path → 0 < length path → last ≡ get_or path (length path - 1) 0 → is_fresh fresh last ≡ false
last-stale n fresh path last h some is = subst (λ (k : ℕ). is_fresh fresh k ≡ false) (sym is) (h.stale (length path - 1) 0 (omega (arith, some)))

path-split : (p : List ℕ) → 0 < length p → p ≡ take (length p - 1) p ++ get_or p (length p - 1) 0 ∷ []
path-split p some =
    let last : ℕ = length p - 1 in
    sym (take_all (last + 1) p (omega (arith, some))) ∙ take_more p last 0 (omega (arith, some))

-- the last node is taken from the path, and is fresh
pub path-leaves : (n : ℕ) (fresh : List Bool) (path : List ℕ) (last : ℕ) → IsPath n fresh path → 0 < length path → last ≡ get_or path (length path - 1) 0
    → IsPath n (set fresh last true) (take (length path - 1) path)
path-leaves n fresh path last h some is = record {
  stale = λ i d lt.
      let before : i < length path - 1 = omega (arith, lt, shorter) in
      let k = get_or path i d in
      let apart : k ≡ last → ⊥ = λ e. omega (arith, e, path-lowest n fresh path last h some is i d before) in
      subst (λ (x : ℕ). is_fresh (set fresh last true) x ≡ false) (same i d lt) (get_or-set_other fresh last k true false apart ∙ h.stale i d (omega (arith, before)));
  falls = λ i j d lt l. omega (arith, same i d (omega (arith, lt, l)), same j d l, h.falls i j d lt (omega (arith, l, shorter)));
  deep = λ i d lt. omega (arith, same i d lt, h.deep i d (omega (arith, lt, shorter)));
}
  where
    rest : List ℕ
    rest = take (length path - 1) path

    split : path ≡ rest ++ get_or path (length path - 1) 0 ∷ []
    split = path-split path some

    shorter : length path ≡ length rest + 1
    shorter = ap (λ l. length l) split ∙ length_push rest (get_or path (length path - 1) 0)

    same : (i d : ℕ) → i < length rest → get_or path i d ≡ get_or rest i d
    same i d lt = ap (λ l. get_or l i d) split ∙ get_or_append_left rest (get_or path (length path - 1) 0 ∷ []) d i lt

-- the first node of the path stays, unless it was the last
pub first-stays : (path : List ℕ) → 1 < length path → get_or (take (length path - 1) path) 0 0 ≡ get_or path 0 0
first-stays path more =
    let split = path-split path (omega (arith, more)) in
    let rest = take (length path - 1) path in
    let shorter : length path ≡ length rest + 1 = ap (λ l. length l) split ∙ length_push rest (get_or path (length path - 1) 0) in
    sym (ap (λ l. get_or l 0 0) split ∙ get_or_append_left rest (get_or path (length path - 1) 0 ∷ []) 0 0 (omega (arith, more, shorter)))

-- ---- a node is evaluated

stays : (fresh : List Bool) (node k : ℕ) → node < length fresh → is_fresh fresh k ≡ true → is_fresh (set fresh node true) k ≡ true
stays fresh node k lt h = elim (cases_eq k node) [
  | inl e ↦ ap (λ j. get_or (set fresh node true) j false) e ∙ get_or-set_same fresh node true false lt
  | inr ne ↦ get_or-set_other fresh node k true false ne ∙ h
]

pub stay-fresh : (fresh : List Bool) (node : ℕ) → node < length fresh → (k : ℕ) → is_fresh fresh k ≡ true → is_fresh (set fresh node true) k ≡ true
stay-fresh fresh node lt k h = stays fresh node k lt h

pub closed-more : (shapes : List Shape) (fresh : List Bool) (node : ℕ) → AreClosed shapes fresh → node < length fresh
    → OnChildren (λ c. (is_fresh fresh c ≡ true) × (c < node)) (shape_at shapes node) → AreClosed shapes (set fresh node true)
closed-more shapes fresh node h lt children k kl on = elim (cases_eq k node) [
  | inl e ↦ subst (λ (j : ℕ). OnChildren (λ c. is_fresh (set fresh node true) c ≡ true) (shape_at shapes j)) (sym e)
      (map_children (λ c. (is_fresh fresh c ≡ true) × (c < node)) (λ c. is_fresh (set fresh node true) c ≡ true) (λ c p. stays fresh node c lt p.0) (shape_at shapes node) children)
  | inr ne ↦ map_children (λ c. is_fresh fresh c ≡ true) (λ c. is_fresh (set fresh node true) c ≡ true) (λ c p. stays fresh node c lt p) (shape_at shapes k)
      (h k kl (sym (get_or-set_other fresh node k true false ne) ∙ on))
]

pub fewer-stale : (fresh : List Bool) (node : ℕ) → node < length fresh → is_fresh fresh node ≡ false → stale_marks (set fresh node true) < stale_marks fresh
fewer-stale fresh node lt off =
    let opens : Bool → ℕ = λ b. cond (not b) 1 0 in
    let one : opens (get_or fresh node false) ≡ 1 = ap opens off in
    omega (arith, one, sum_by-set opens fresh node true false lt)

-- the children's values are right
children-right : (r : Reading) (shapes : List Shape) (values : List Vector) (fresh : List Bool) (node : ℕ)
    → ((k : ℕ) → is_fresh fresh k ≡ true → value_in values k ≡ value_at r shapes k)
    → OnChildren (λ c. (is_fresh fresh c ≡ true) × (c < node)) (shape_at shapes node)
    → OnChildren (λ c. (value_in values c ≡ value_at r shapes c) × (c < node)) (shape_at shapes node)
children-right r shapes values fresh node h children =
    map_children (λ c. (is_fresh fresh c ≡ true) × (c < node)) (λ c. (value_in values c ≡ value_at r shapes c) × (c < node)) (λ c p. (h c p.0, p.1)) (shape_at shapes node) children

pub node-fits : (r : Reading) (shapes : List Shape) (values : List Vector) (fresh : List Bool) (node : ℕ) → HasWidths r → IsArena shapes → node < length shapes
    → ((k : ℕ) → is_fresh fresh k ≡ true → value_in values k ≡ value_at r shapes k)
    → OnChildren (λ c. (is_fresh fresh c ≡ true) × (c < node)) (shape_at shapes node) → FitsWidths (width_in values) (shape_at shapes node)
node-fits r shapes values fresh node w i lt h children =
    fits_same (width_in values) (width_at shapes) (shape_at shapes node)
    (map_children (λ c. (value_in values c ≡ value_at r shapes c) × (c < node)) (λ c. width_in values c ≡ width_at shapes c)
    (λ c p. ap (λ (v : Vector). length v) p.0 ∙ length-value_at r shapes c w i (omega (arith, p.1, lt))) (shape_at shapes node)
    (children-right r shapes values fresh node h children))
    (i.fits node lt)

pub node-is : (r : Reading) (shapes : List Shape) (values : List Vector) (fresh : List Bool) (node : ℕ) → IsArena shapes → node < length shapes
    → ((k : ℕ) → is_fresh fresh k ≡ true → value_in values k ≡ value_at r shapes k)
    → OnChildren (λ c. (is_fresh fresh c ≡ true) × (c < node)) (shape_at shapes node) → value_of r (value_in values) (shape_at shapes node) ≡ value_at r shapes node
node-is r shapes values fresh node i lt h children =
    value_reads r (value_in values) (value_at r shapes) (shape_at shapes node)
    (map_children (λ c. (value_in values c ≡ value_at r shapes c) × (c < node)) (λ c. value_in values c ≡ value_at r shapes c) (λ c p. p.0) (shape_at shapes node)
    (children-right r shapes values fresh node h children))
    ∙ sym (value-step r shapes node (i.children node lt))

pub values-right : (r : Reading) (shapes : List Shape) (values : List Vector) (fresh : List Bool) (node : ℕ) (v : Vector) → node < length values
    → ((k : ℕ) → is_fresh fresh k ≡ true → value_in values k ≡ value_at r shapes k) → v ≡ value_at r shapes node
    → (k : ℕ) → is_fresh (set fresh node true) k ≡ true → value_in (set values node v) k ≡ value_at r shapes k
values-right r shapes values fresh node v lt h is k on = elim (cases_eq k node) [
  | inl e ↦ subst (λ (j : ℕ). value_in (set values node v) j ≡ value_at r shapes j) (sym e) (get_or-set_same values node v [] lt ∙ is)
  | inr ne ↦ get_or-set_other values node k v [] ne ∙ h k (sym (get_or-set_other fresh node k true false ne) ∙ on)
]

pub children-below : (shapes : List Shape) (node n : ℕ) → IsArena shapes → node < length shapes → n ≡ length shapes → ChildrenBelow n (shape_at shapes node)
children-below shapes node n i lt e = map_children (λ k. k < node) (λ k. k < n) (λ k p. omega (arith, p, lt, e)) (shape_at shapes node) (i.children node lt)

-- ---- the memo in a walk down

pub memo-down : (shapes : List Shape) (m : Memo) → IsMemo shapes m → IsDown shapes m
memo-down shapes m h = record {
  values = h.values;
  marks = h.marks;
  closed = h.closed;
  path = path-none (length shapes) m.fresh.items m.path.items h.path;
  path_room = h.path_room;
}

pub down-memo : (shapes : List Shape) (old new : Memo) → IsMemo shapes old → KeepsUp old new → IsDown shapes new → length new.path.items ≤ 0 → IsMemo shapes new
down-memo shapes old new m k d none = record {
  values = d.values;
  marks = d.marks;
  closed = d.closed;
  parents_each = ap (λ (v : Vec (Vec ℕ Global) Global). length v.items) k.parents ∙ m.parents_each;
  parents_inside = subst (λ (v : Vec (Vec ℕ Global) Global). (c j : ℕ) → Contains (get_or (rows_in v.items) c []) j → j < length shapes) (sym k.parents) m.parents_inside;
  parents = subst (λ (v : Vec (Vec ℕ Global) Global). AreParents shapes (rows_in v.items)) (sym k.parents) m.parents;
  path = empty new.path.items none;
  path_room = d.path_room;
  stale_room = subst (λ (v : Vec ℕ Global). length shapes ≤ vec_capacity v) (sym k.stale) m.stale_room;
}
  where
    empty : (l : List ℕ) → length l ≤ 0 → l ≡ []
    empty [] h = refl
    empty (x ∷ l) h = absurd (omega (arith, h))

pub down-pushes : (shapes : List Shape) (old new : Memo) (k : ℕ) → IsDown shapes old → k < length shapes → is_fresh old.fresh.items k ≡ false
    → ((i d : ℕ) → i < length old.path.items → k < get_or old.path.items i d)
    → new.path.items ≡ old.path.items ++ k ∷ [] → vec_capacity new.path ≡ vec_capacity old.path → new.values ≡ old.values → new.fresh ≡ old.fresh → IsDown shapes new
down-pushes shapes old new k h lt off low path room values fresh = record {
  values = ap (λ (v : Vec Vector Global). length v.items) values ∙ h.values;
  marks = ap (λ (v : Vec Bool Global). length v.items) fresh ∙ h.marks;
  closed = subst (λ (v : Vec Bool Global). AreClosed shapes v.items) (sym fresh) h.closed;
  path = subst (λ (v : Vec Bool Global). IsPath (length shapes) v.items new.path.items) (sym fresh)
      (subst (λ (l : List ℕ). IsPath (length shapes) old.fresh.items l) (sym path) (path-pushes (length shapes) old.fresh.items old.path.items k h.path lt off low));
  path_room = omega (arith, h.path_room, room);
}

pub down-leaves : (shapes : List Shape) (old new : Memo) (node : ℕ) (v : Vector) → IsDown shapes old → 0 < length old.path.items → node ≡ get_or old.path.items (length old.path.items - 1) 0
    → OnChildren (λ c. (is_fresh old.fresh.items c ≡ true) × (c < node)) (shape_at shapes node)
    → new.values.items ≡ set old.values.items node v → new.fresh.items ≡ set old.fresh.items node true → new.path.items ≡ take (length old.path.items - 1) old.path.items
    → vec_capacity new.path ≡ vec_capacity old.path → IsDown shapes new
down-leaves shapes old new node v h some is children values fresh path room =
    let n = length shapes in
    let lt : node < n = last-below n old.fresh.items old.path.items node h.path some is in
    let within : node < length old.fresh.items = omega (arith, lt, h.marks) in
    record {
      values = ap (λ l. length l) values ∙ length-set old.values.items node v ∙ h.values;
      marks = ap (λ l. length l) fresh ∙ length-set old.fresh.items node true ∙ h.marks;
      closed = subst (λ (l : List Bool). AreClosed shapes l) (sym fresh) (closed-more shapes old.fresh.items node h.closed within children);
      path = subst (λ (l : List Bool). IsPath n l new.path.items) (sym fresh)
          (subst (λ (l : List ℕ). IsPath n (set old.fresh.items node true) l) (sym path) (path-leaves n old.fresh.items old.path.items node h.path some is));
      path_room = omega (arith, h.path_room, room);
    }
