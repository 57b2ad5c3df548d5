-- One group more is settled, and all of them.
use Rattle.std.proofs.Common.{◌≡◌, ℕ, ◌+◌, ◌<◌, Bool, true, false, List, [], length, get_or, map, refl, sym, ap, ◌∙◌, subst, inl, inr, arith, Vec, Global}
use Rattle.std.specs.Prelude.{slice_index, slice_index_or, Contains}
use Rattle.std.proofs.lemmas.Bool.{cases_eq}
use Rattle.std.proofs.lemmas.List.{get_or_default, get_or-map, length-map, length-append}
use Rattle.lhs_alias.specs.declared.segs.Seg.{Seg}
use Rattle.lhs_alias.specs.Segs.{IsSeg}
use Rattle.compose_rounds.proofs.Systems.{front}
use Rattle.lhs_alias.specs.Joined.{Kept, Stands}
use Rattle.settling.specs.Settling.{Store, Link}
use Rattle.svex_shape.specs.declared.shape.Shape.{Shape}
use Rattle.svex_shape.specs.Values.{value_at}
use Rattle.svex_arena.specs.Arenas.{IsArena, Extends}
use Rattle.svex_arena.specs.Marks.{IsMarked}
use Rattle.svex_arena.proofs.Keeping.{extends_on}
use Rattle.driver_resolve.specs.declared.driver.Resolved.{Resolved}
use Rattle.net_equations.specs.declared.group.Group.{Group}
use Rattle.net_equations.specs.Equations.{IsResolved, seg_at}
use Rattle.net_equations.specs.Groups.{IsOrder, members_of}
use Rattle.compose_rounds.specs.declared.scene.Scene.{Scene}
use Rattle.node_replace.specs.declared.replacer.Replacer.{Replacer}
use Rattle.compose_rounds.specs.Sources.{Covering}
use Rattle.node_replace.specs.Walks.{IsNew}
use Rattle.compose_rounds.specs.Rounds.{store_of, EachMember, DependsOn}
use Rattle.compose_rounds.specs.States.{outer_reading, shown, gives_of, IsProblem, IsGrown}
use Rattle.compose_rounds.specs.Turns.{AreOpen, IsScene, IsReady, IsSettled}
use Rattle.compose_rounds.proofs.Rounding.{member-or, done-stays, each-weaker}
use Rattle.compose_rounds.proofs.Standing.{shown-kept}
use Rattle.compose_rounds.proofs.Turning.{each-from_index, index-from_each, gives-kept, problem_kept, new_ready}
use Rattle.svex_compose.specs.Composed.{IsComposed}
use Rattle.svex_compose.specs.Starting.{AreStarted, IsStart}
use Rattle.svex_compose.specs.Grouping.{AreOrdered, IsNext, IsRest}
use Rattle.svex_compose.proofs.Composing.{problem-of, grown-start, composed}
use Rattle.svex_compose.proofs.Depending.{depends-on}

differ : (b : Bool) → b ≡ false → b ≡ true → ⊥
differ true h k = cc
differ false h k = cc

abbrev segs_in : Resolved → List Seg
segs_in set = map (λ e. e.seg) set.eqs

abbrev values_in : Resolved → List ℕ
values_in set = map (λ e. e.value) set.eqs

pub ordered_kept : (kept : Kept) (old new : List Shape) (set : Resolved) (groups : List (List ℕ)) → Extends old new → AreOrdered kept old set groups → AreOrdered kept new set groups
ordered_kept kept old new set groups e o = record { base = o.base; arena = o.arena; extends = extends_on o.base old new o.extends e; resolved = o.resolved; order = o.order }

-- the problem of a scene
problem-as : (kept : Kept) (shapes : List Shape) (set : Resolved) (segs free : List Seg) (values : List ℕ) → segs ≡ segs_in set → free ≡ set.free → values ≡ values_in set → IsProblem kept shapes (segs_in set) set.free (values_in set)
    → IsProblem kept shapes segs free values
problem-as kept shapes set segs free values e f v p =
    subst (λ (l : List Seg). IsProblem kept shapes l free values) (sym e)
    (subst (λ (l : List Seg). IsProblem kept shapes (segs_in set) l values) (sym f)
    (subst (λ (l : List ℕ). IsProblem kept shapes (segs_in set) set.free l) (sym v) p))

contains-at : (members : List ℕ) (j : ℕ) → j < length members → Contains members (slice_index members j)
contains-at members j lt = (j, lt, get_or_default members j _ 0 lt)

-- ---- the members of the next group are open

pub open_next : (kept : Kept) (shapes : List Shape) (set : Resolved) (s : Scene) (groups : List (List ℕ)) (n : ℕ) (members : List ℕ) → n < length groups → members_of groups n ≡ members → AreOrdered kept shapes set groups
    → IsRest kept shapes set s groups n → AreOpen s.segments.eqs s.settled.items members
open_next kept shapes set s groups n members lt is o r = record {
  there = each-from_index (λ i. i < length s.segments.eqs) members
      (λ j l.
      let there = o.order.there n (slice_index members j) lt (subst (λ (m : List ℕ). Contains m (slice_index members j)) (sym is) (contains-at members j l)) in
      let long = ap length r.of.eqs ∙ length-map set.eqs (λ e. e.seg) in
      omega (arith, there, long));
  unsettled = each-from_index (λ i. slice_index_or s.settled.items i false ≡ false) members
      (λ j l. pick (slice_index members j) (subst (λ (m : List ℕ). Contains m (slice_index members j)) (sym is) (contains-at members j l)) (slice_index_or s.settled.items (slice_index members j) false) refl);
}
  where
    pick : (i : ℕ) → Contains (members_of groups n) i → (t : Bool) → slice_index_or s.settled.items i false ≡ t → t ≡ false
    pick i c true e = absurd (let on = r.only i e in let same = o.order.once n on.0 i lt (let b = on.1.0 in omega (arith, b, lt)) c on.1.1 in let b = on.1.0 in omega (arith, same, b))
    pick i c false e = refl

-- ---- one group more

module _ (kept : Kept) (old new : List Shape) (set : Resolved) (s t : Scene) (groups : List (List ℕ)) (n : ℕ) (members : List ℕ) (lt : n < length groups) (is : members_of groups n ≡ members) (o : AreOrdered kept old set groups)
    (e : Extends old new) (sc : IsScene kept old s) (r : IsRest kept old set s groups n) (settled : IsSettled kept new s.segments.eqs s.values.items members t.nodes.items) (next : IsNext members s t)
    (open_ : AreOpen s.segments.eqs s.settled.items members) where
  abbrev segs : List Seg
  segs = s.segments.eqs

  abbrev values : List ℕ
  values = s.values.items

  abbrev nodes : List ℕ
  nodes = s.nodes.items

  whole : Extends o.base new
  whole = extends_on o.base old new o.extends e

  problem : IsProblem kept o.base segs s.segments.free values
  problem = problem-as kept o.base set segs s.segments.free values r.of.eqs r.of.free r.of.values (problem-of kept o.base set o.resolved)

  no-member : (i : ℕ) → IsMarked s.settled.items i → EachMember (λ j. i ≡ j → ⊥) members
  no-member i h = each-weaker (λ j. slice_index_or s.settled.items j false ≡ false) (λ j. i ≡ j → ⊥) (λ j un same. differ (slice_index_or s.settled.items j false) un (ap (λ k. slice_index_or s.settled.items k false) (sym same) ∙ h)) members open_.unsettled

  was-marked : (i : ℕ) → EachMember (λ j. i ≡ j → ⊥) members → IsMarked t.settled.items i → IsMarked s.settled.items i
  was-marked i none h = sym (next.marks.only i (λ j l same. index-from_each (λ k. i ≡ k → ⊥) members none j l (sym same))) ∙ h

  kept-value : (stim previous : Store) (j : ℕ) → j < length segs → IsMarked s.settled.items j → shown stim previous new t.nodes.items j ≡ shown stim previous old nodes j
  kept-value stim previous j l h =
      ap (value_at (outer_reading stim previous) new) (next.others j (no-member j h))
      ∙ shown-kept kept.widths old new nodes e sc.grown.outer stim previous j (let size = sc.grown.size in omega (arith, l, size))

  -- what an equation gives in the first arena and in a later one
  gives-in : (later : List Shape) → Extends o.base later → (stim previous u : Store) (i : ℕ) → i < length segs → gives_of stim previous later values u i ≡ gives_of stim previous o.base values u i
  gives-in later f stim previous u i l = gives-kept kept o.base later segs s.segments.free values f problem stim previous u i l

  depends : (links : List Link) → Stands kept links → (stim previous : Store) (i : ℕ) → IsMarked s.settled.items i → DependsOn links segs (gives_of stim previous o.base values) (IsMarked s.settled.items) i
  depends links st stim previous i h =
      let on = r.only i h in
      let d = depends-on kept o.base set.eqs set.free groups s.settled.items o.arena (problem-of kept o.base set o.resolved) o.order on.0 (let b = on.1.0 in omega (arith, b, lt))
      (λ h j le l c. r.marked h j (let b = on.1.0 in omega (arith, b, le)) c) i on.1.1 links st stim previous in
      subst (λ (l : List Seg). DependsOn links l (gives_of stim previous o.base values) (IsMarked s.settled.items) i) (sym r.of.eqs)
      (subst (λ (v : List ℕ). DependsOn links (segs_in set) (gives_of stim previous o.base v) (IsMarked s.settled.items) i) (sym r.of.values) d)

  calm : (links : List Link) → Stands kept links → (stim previous : Store) (i : ℕ) → i < length segs → IsMarked t.settled.items i
      → shown stim previous new t.nodes.items i ≡ gives_of stim previous new values (store_of links segs (shown stim previous new t.nodes.items)) i
  calm links st stim previous i l h =
      elim (member-or (λ k. shown stim previous new t.nodes.items k ≡ gives_of stim previous new values (store_of links segs (shown stim previous new t.nodes.items)) k) i members (settled.calm links st stim previous)) [
        | inl none ↦
            let mark = was-marked i none h in
            done-stays links segs (gives_of stim previous o.base values) (IsMarked s.settled.items) (shown stim previous old nodes) (shown stim previous new t.nodes.items) (kept-value stim previous) i l mark
            (depends links st stim previous i mark)
            (r.calm links st stim previous i l mark ∙ gives-in old o.extends stim previous (store_of links segs (shown stim previous old nodes)) i l)
            ∙ sym (gives-in new whole stim previous (store_of links segs (shown stim previous new t.nodes.items)) i l)
        | inr here ↦ here
      ]

  pub rest_next : IsRest kept new set t groups (n + 1)
  rest_next = record {
    of = record { eqs = ap (λ (c : Covering). c.eqs) next.segments ∙ r.of.eqs; free = ap (λ (c : Covering). c.free) next.segments ∙ r.of.free; values = ap (λ (v : Vec ℕ Global). v.items) next.values ∙ r.of.values };
    marked = λ g i l c. elim (cases_eq g n) [
      | inl same ↦
          let at : Contains members i = subst (λ (m : List ℕ). Contains m i) is (subst (λ (h : ℕ). Contains (members_of groups h) i) same c) in
          subst (IsMarked t.settled.items) (get_or_default members at.0 0 i at.1 ∙ at.2) (next.marks.set at.0 at.1)
      | inr ne ↦ next.marks.stays i (r.marked g i (omega (arith, l, ne)) c)
    ];
    only = λ i h. elim (member-or (Contains members) i members (each-from_index (Contains members) members (contains-at members))) [
      | inl none ↦ let on = r.only i (was-marked i none h) in (on.0, (let b = on.1.0 in omega (arith, b), on.1.1))
      | inr c ↦ (n, (omega arith, subst (λ (m : List ℕ). Contains m i) (sym is) c))
    ];
    calm =
        subst (λ (c : Covering). (links : List Link) → Stands kept links → (stim previous : Store) (i : ℕ) → i < length c.eqs → IsMarked t.settled.items i
        → shown stim previous new t.nodes.items i ≡ gives_of stim previous new t.values.items (store_of links c.eqs (shown stim previous new t.nodes.items)) i) (sym next.segments)
        (subst (λ (v : Vec ℕ Global). (links : List Link) → Stands kept links → (stim previous : Store) (i : ℕ) → i < length segs → IsMarked t.settled.items i
        → shown stim previous new t.nodes.items i ≡ gives_of stim previous new v.items (store_of links segs (shown stim previous new t.nodes.items)) i) (sym next.values) calm);
  }

-- ---- before the first group

pub rest_first : (kept : Kept) (shapes : List Shape) (set : Resolved) (s : Scene) (groups : List (List ℕ)) → IsStart shapes set s → IsRest kept shapes set s groups 0
rest_first kept shapes set s groups h = record {
  of = h.of;
  marked = λ g i lt. absurd (omega (arith, lt));
  only = λ i t. absurd (differ (slice_index_or s.settled.items i false) (h.none i) t);
  calm = λ links st stim previous i lt t. absurd (differ (slice_index_or s.settled.items i false) (h.none i) t);
}

pub ready_first : (kept : Kept) (old new : List Shape) (set : Resolved) (s : Scene) (m : Replacer) → IsArena new → Extends old new → IsResolved kept old set → IsStart new set s → IsNew (length old) m → IsReady kept new s m
ready_first kept old new set s m a e h start fresh =
    let base = problem-of kept old set h in
    let p = problem_kept kept old new (segs_in set) set.free (values_in set) e base in
    let count = length-map set.eqs (λ e. e.seg) in
    let grown : IsGrown kept new (segs_in set) (values_in set) s.nodes.items = grown-start kept new (segs_in set) set.free (values_in set) s.nodes.items a p
    (subst (AreStarted new (segs_in set) s.nodes.items) (sym count) start.nodes) in
    new_ready kept new s m (length old)
    (record {
      arena = a;
      problem = problem-as kept new set s.segments.eqs s.segments.free s.values.items start.of.eqs start.of.free start.of.values p;
      grown = subst (λ (l : List Seg). IsGrown kept new l s.values.items s.nodes.items) (sym start.of.eqs) (subst (λ (v : List ℕ). IsGrown kept new (segs_in set) v s.nodes.items) (sym start.of.values) grown);
      marks = start.marks ∙ sym (ap length start.of.eqs ∙ count);
    })
    e.longer
    (λ i lt.
    let same = ap (λ (v : List ℕ). slice_index v i) start.of.values in
    let long = ap length start.of.values ∙ base.count in
    let there = base.there i (omega (arith, lt, long)) in
    omega (arith, there, same))
    fresh

-- ---- at the end

pub composed_end : (kept : Kept) (old new : List Shape) (set : Resolved) (s : Scene) (groups : List (List ℕ)) → IsArena new → Extends old new → IsResolved kept old set → IsOrder kept old set.eqs groups → IsScene kept new s
    → IsRest kept new set s groups (length groups) → IsComposed kept old new set.eqs s.nodes.items
composed_end kept old new set s groups a e h o sc r =
    let p = problem-of kept old set h in
    let pn = problem_kept kept old new (segs_in set) set.free (values_in set) e p in
    let count = length-map set.eqs (λ e. e.seg) in
    composed kept old new set.eqs set.free s.nodes.items a e p pn
    (subst (λ (l : List Seg). IsGrown kept new l (values_in set) s.nodes.items) r.of.eqs (subst (λ (v : List ℕ). IsGrown kept new s.segments.eqs v s.nodes.items) r.of.values sc.grown))
    (subst (λ (l : List Seg). (links : List Link) → Stands kept links → (stim previous : Store) (i : ℕ) → i < length l
    → shown stim previous new s.nodes.items i ≡ gives_of stim previous new (values_in set) (store_of links l (shown stim previous new s.nodes.items)) i) r.of.eqs
    (subst (λ (v : List ℕ). (links : List Link) → Stands kept links → (stim previous : Store) (i : ℕ) → i < length s.segments.eqs
    → shown stim previous new s.nodes.items i ≡ gives_of stim previous new v (store_of links s.segments.eqs (shown stim previous new s.nodes.items)) i) r.of.values
    (λ links st stim previous i l.
    let long = ap length r.of.eqs ∙ count in
    let there = o.covers i (omega (arith, l, long)) in
    r.calm links st stim previous i l (r.marked there.0 i there.1.0 there.1.1))))

pub segs_whole : (kept : Kept) (shapes : List Shape) (set : Resolved) → IsResolved kept shapes set → (i : ℕ) → i < length set.eqs → IsSeg (seg_at (segs_in set) i)
segs_whole kept shapes set h i lt =
    let p = problem-of kept shapes set h in
    let count = length-map set.eqs (λ e. e.seg) in
    let inside : i < length (segs_in set) = omega (arith, lt, count) in
    subst IsSeg (front (segs_in set) set.free i inside) (p.lies i _ (let l = length-append (segs_in set) set.free in omega (arith, l, inside))).whole

pub members_here : (groups : List Group) (at : ℕ) (g : Group) (m : List ℕ) → at < length groups → m ≡ (get_or groups at g).members → members_of (map (λ (x : Group). x.members) groups) at ≡ m
members_here groups at g m lt is = get_or-map (λ (x : Group). x.members) groups at g [] lt ∙ sym is
