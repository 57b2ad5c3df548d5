-- Groups of nodes and equations give an order of the equations.
use Rattle.std.proofs.Common.{◌≡◌, ◌≢◌, ◌⊎◌, ℕ, ◌+◌, ◌<◌, ◌≤◌, List, [], ◌∷◌, length, map, get_or, refl, sym, ap, ◌∙◌, subst, inl, inr, arith}
use Rattle.std.specs.Prelude.{All, Contains, AllPairs, slice_index}
use Rattle.std.proofs.lemmas.Bool.{cases_lt}
use Rattle.std.proofs.lemmas.List.{get_or_default, get_or-map, length-map}
use Rattle.lhs_alias.specs.Joined.{Kept}
use Rattle.svex_shape.specs.declared.shape.Shape.{Shape}
use Rattle.svex_shape.specs.Shapes.{shape_at}
use Rattle.svex_arena.specs.Marks.{IsReached, as_root, as_child}
use Rattle.driver_resolve.specs.declared.driver.NetEq.{NetEq}
use Rattle.net_equations.specs.declared.group.Group.{Group}
use Rattle.net_equations.specs.Groups.{Depends, Reaches, IsOrder, members_of}
use Rattle.net_equations.specs.Groups.Reaches.{one, more as on}
use Rattle.dep_groups.specs.Groups.{row, item, Chain, IsGrouping}
use Rattle.dep_groups.specs.Groups.Chain.{none, more}
use Rattle.net_order.specs.Rows.{values_in, segs_in, Feeds, LeadsToEq, IsNodeRow, AreRows, IsUsed}
use Rattle.net_order.specs.Kept.{eqs_in, eq_groups}
use Rattle.net_order.proofs.Leading.{in-one, one-in}
use Rattle.net_order.proofs.Keeping.{in-eqs, eqs-in, apart-of, apart-eqs, pairs-of, origin, origin-is, origin-rises, origin-there, groups-some}

at-of : (xs : List ℕ) (x : ℕ) (c : Contains xs x) → slice_index xs c.0 ≡ x
at-of xs x c = get_or_default xs c.0 0 x c.1 ∙ c.2

has : (xs : List ℕ) (x k : ℕ) → k < length xs → slice_index xs k ≡ x → Contains xs x
has xs x k lt e = (k, lt, get_or_default xs k x 0 lt ∙ e)

module _ (kept : Kept) (shapes : List Shape) (eqs : List NetEq) (n : ℕ) (rows groups : List (List ℕ)) (are : AreRows kept shapes eqs n rows) (g_ok : IsGrouping rows groups) where
  abbrev value : ℕ → ℕ
  value i = slice_index (values_in eqs) i

  -- ---- what a value reaches

  used : (i : ℕ) → i < length eqs → (k : ℕ) → IsReached shapes (value i ∷ []) k → IsUsed shapes eqs k
  used i lt k r = record { eq = i; there = lt; reached = r }

  place-below : (i : ℕ) → i < length eqs → (k : ℕ) → IsReached shapes (value i ∷ []) k → are.place k < n
  place-below i lt k r = are.below k (used i lt k r)

  node-row : (i : ℕ) → i < length eqs → (k : ℕ) → IsReached shapes (value i ∷ []) k → IsNodeRow kept (segs_in eqs) n are.place (shape_at shapes k) (row rows (are.place k))
  node-row i lt k r = are.node k (used i lt k r)

  depends : (i j k : ℕ) → IsReached shapes (value i ∷ []) k → (l : LeadsToEq kept (segs_in eqs) n (shape_at shapes k) (n + j)) → Depends kept shapes eqs i j
  depends i j k r l =
      let same : l.eq ≡ j = omega (arith, l.place) in
      let f : Feeds kept (segs_in eqs) l.wire j = subst (Feeds kept (segs_in eqs) l.wire) same l.feeds in
      record { wire = l.wire; mentions = record { at = k; width = l.width; reached = r; is = l.is }; place = f.place; inside = f.inside; joined = f.joined }

  -- ---- chains of places are chains of dependences

  record Leads (p j : ℕ) : Type 0 where
    node : (i : ℕ) → i < length eqs → (k : ℕ) → IsReached shapes (value i ∷ []) k → p ≡ are.place k → Reaches (Depends kept shapes eqs) i j
    eq : (i : ℕ) → i < length eqs → p ≡ n + i → (i ≡ j) ⊎ Reaches (Depends kept shapes eqs) i j

  reaches-on : (i m j : ℕ) → Depends kept shapes eqs i m → (m ≡ j) ⊎ Reaches (Depends kept shapes eqs) m j → Reaches (Depends kept shapes eqs) i j
  reaches-on i m j d (inl is) = one i j (subst (Depends kept shapes eqs i) is d)
  reaches-on i m j d (inr r) = on i m j d r

  leads : (p q : ℕ) → Chain rows p q → (j : ℕ) → j < length eqs → q ≡ n + j → Leads p j
  leads p q (none _) j jl e = record {
    node = λ i lt k r is. absurd (omega (arith, place-below i lt k r, is, e));
    eq = λ i lt is. inl (omega (arith, is, e));
  }
  leads p q (more _ e _ el c) j jl q_is =
      let rest = leads (item rows p e) q c j jl q_is in
      let listed : Contains (row rows p) (item rows p e) = has (row rows p) (item rows p e) e el refl in
      record {
        node = λ i lt k r is. elim ((node-row i lt k r).only (item rows p e) (subst (λ x. Contains (row rows x) (item rows p e)) is listed)) [
          | inl l ↦ rest.node i lt l.child (as_child k l.child r l.is) l.at
          | inr l ↦
              reaches-on i l.eq j
              (depends i l.eq k r (subst (LeadsToEq kept (segs_in eqs) n (shape_at shapes k)) l.place l))
              (rest.eq l.eq (omega (arith, l.there, length-map eqs (λ (x : NetEq). x.seg))) l.place)
        ];
        eq = λ i lt is.
            let line : row rows p ≡ are.place (value i) ∷ [] = ap (row rows) is ∙ are.value i lt in
            let first : item rows p e ≡ are.place (value i) = in-one (are.place (value i)) (item rows p e) (subst (λ l. Contains l (item rows p e)) line listed) in
            inr (rest.node i lt (value i) (as_root 0 (value i) (omega arith) refl) first);
      }

  -- ---- a dependence leads to no later group

  -- the place is in a group up to this
  record Low (bound p : ℕ) : Type 0 where
    group : ℕ
    rank : ℕ
    there : group < length groups
    within : rank < length (row groups group)
    is : item groups group rank ≡ p
    low : group ≤ bound

  low-step : (bound p x : ℕ) → Low bound p → Contains (row rows p) x → x < length rows → Low bound x
  low-step bound p x l c lt =
      let m = g_ok.covers x lt in
      let at : item rows (item groups l.group l.rank) c.0 ≡ x = ap (λ q. item rows q c.0) l.is ∙ at-of (row rows p) x c in
      let down = g_ok.earlier l.group l.rank m.0 m.1.0 c.0 l.there l.within m.1.1.0 m.1.1.1.0 (subst (λ q. c.0 < length (row rows q)) (sym l.is) c.1) (at ∙ sym m.1.1.1.1) in
      record { group = m.0; rank = m.1.0; there = m.1.1.0; within = m.1.1.1.0; is = m.1.1.1.1; low = omega (arith, down, l.low) }

  low-reached : (bound i : ℕ) → i < length eqs → Low bound (n + i) → (k : ℕ) → IsReached shapes (value i ∷ []) k → Low bound (are.place k)
  low-reached bound i lt l _ (as_root j k jl e) =
      let z : j ≡ 0 = omega (arith, jl) in
      let is : value i ≡ k = ap (slice_index (value i ∷ [])) (sym z) ∙ e in
      let below = place-below i lt (value i) (as_root 0 (value i) (omega arith) refl) in
      subst (λ x. Low bound (are.place x)) is
      (low-step bound (n + i) (are.place (value i)) l (subst (λ r. Contains r (are.place (value i))) (sym (are.value i lt)) (one-in (are.place (value i)) (are.place (value i)) refl)) (omega (arith, below, are.size)))
  low-reached bound i lt l _ (as_child j k r c) =
      low-step bound (are.place j) (are.place k) (low-reached bound i lt l j r) ((node-row i lt j r).children k c) (omega (arith, place-below i lt k (as_child j k r c), are.size))

  low-depends : (bound i j : ℕ) → i < length eqs → j < length eqs → Low bound (n + i) → Depends kept shapes eqs i j → Low bound (n + j)
  low-depends bound i j lt jl l d =
      let m = d.mentions in
      low-step bound (are.place m.at) (n + j) (low-reached bound i lt l m.at m.reached)
      ((node-row i lt m.at m.reached).tellers (n + j) (record { wire = d.wire; width = m.width; is = m.is; eq = j; there = omega (arith, jl, length-map eqs (λ (x : NetEq). x.seg)); place = refl; feeds = record { place = d.place; inside = d.inside; joined = d.joined } }))
      (omega (arith, jl, are.size))

  -- ---- the groups of equations

  abbrev made : List (List ℕ)
  made = eq_groups n groups

  -- where a member of a group stands among the groups of places
  record Stands (g i : ℕ) : Type 0 where
    there : origin n groups g < length groups
    rank : ℕ
    within : rank < length (row groups (origin n groups g))
    is : item groups (origin n groups g) rank ≡ n + i

  stands : (g i : ℕ) → g < length made → Contains (members_of made g) i → Stands g i
  stands g i gl c =
      let o = origin-is n groups g gl in
      let d = in-eqs n (row groups (origin n groups g)) i (subst (λ l. Contains l i) o.1 c) in
      record { there = o.0; rank = d.0; within = d.1; is = at-of (row groups (origin n groups g)) (n + i) d }

  below : (g i : ℕ) → g < length made → Contains (members_of made g) i → i < length eqs
  below g i gl c =
      let s = stands g i gl c in
      omega (arith, g_ok.there (origin n groups g) s.rank s.there s.within, s.is, are.size)

  not-before : (g h : ℕ) → h < length made → origin n groups h ≤ origin n groups g → h ≤ g
  not-before g h hl le = elim (cases_lt g h) [
    | inl less ↦ absurd (omega (arith, origin-rises n groups g h less hl, le))
    | inr fine ↦ fine
  ]

  pub ordered : IsOrder kept shapes eqs made
  ordered = record {
    there = below;
    covers = λ i lt.
        let m = g_ok.covers (n + i) (omega (arith, lt, are.size)) in
        origin-there n groups m.0 i m.1.1.0 (eqs-in n (row groups m.0) i (has (row groups m.0) (n + i) m.1.0 m.1.1.1.0 m.1.1.1.1));
    once = λ g h i gl hl c d.
        let s = stands g i gl c in
        let t = stands h i hl d in
        let same : origin n groups g ≡ origin n groups h = (g_ok.once (origin n groups g) s.rank (origin n groups h) t.rank s.there s.within t.there t.within (s.is ∙ sym t.is)).0 in
        let up = not-before g h hl (omega (arith, same)) in
        let down = not-before h g gl (omega (arith, same)) in
        omega (arith, up, down);
    distinct = λ g gl.
        let o = origin-is n groups g gl in
        subst (λ l. AllPairs ◌≢◌ l) (sym o.1)
        (pairs-of (eqs_in n (row groups (origin n groups g)))
        (apart-eqs n (row groups (origin n groups g)) (apart-of (row groups (origin n groups g)) (λ k l kl ll e. (g_ok.once (origin n groups g) k (origin n groups g) l o.0 kl o.0 ll e).1))));
    loops = λ g i j gl c d.
        let s = stands g i gl c in
        let t = stands g j gl d in
        (leads (item groups (origin n groups g) s.rank) (item groups (origin n groups g) t.rank) (g_ok.loops (origin n groups g) s.rank t.rank s.there s.within t.within) j (below g j gl d) t.is).eq i (below g i gl c) s.is;
    earlier = λ g h i j gl hl c d dep.
        let s = stands g i gl c in
        let t = stands h j hl d in
        let l = low-depends (origin n groups g) i j (below g i gl c) (below h j hl d) (record { group = origin n groups g; rank = s.rank; there = s.there; within = s.within; is = s.is; low = omega arith }) dep in
        let same : l.group ≡ origin n groups h = (g_ok.once l.group l.rank (origin n groups h) t.rank l.there l.within t.there t.within (l.is ∙ sym t.is)).0 in
        not-before g h hl (omega (arith, same, l.low));
  }

pub members-some : (made : List Group) (n : ℕ) (all : List (List ℕ)) → map (λ (g : Group). g.members) made ≡ eq_groups n all → All (λ (g : Group). 0 < length g.members) made
members-some made n all e k d lt =
    let at : get_or (map (λ (g : Group). g.members) made) k d.members ≡ (get_or made k d).members = get_or-map (λ (g : Group). g.members) made k d d.members lt in
    let l : k < length (eq_groups n all) = omega (arith, lt, ap (λ x. length x) e, length-map made (λ (g : Group). g.members)) in
    subst (λ x. 0 < length x) (sym (ap (λ x. get_or x k d.members) e) ∙ at) (groups-some n all k d.members l)
