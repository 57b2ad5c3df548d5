-- Turns of a group, until it is at rest.
use Rattle.std.proofs.Common.{◌≡◌, ◌⊎◌, ℕ, zero, suc, ◌+◌, ◌<◌, ◌≤◌, Bool, true, false, List, [], ◌∷◌, length, get_or, refl, sym, ap, ◌∙◌, subst, inl, inr, arith, Vec, Global}
use Rattle.std.specs.Prelude.{slice_index}
use Rattle.lhs_alias.specs.declared.segs.Seg.{Seg}
use Rattle.lhs_alias.specs.Joined.{Kept, Stands}
use Rattle.settling.specs.Settling.{Store, Link}
use Rattle.svex_shape.specs.declared.shape.Shape.{Shape}
use Rattle.svex_shape.specs.Shapes.{width_at}
use Rattle.svex_shape.specs.Values.{Vector, value_at}
use Rattle.svex_arena.specs.Arenas.{IsArena, Extends}
use Rattle.svex_arena.specs.Marks.{IsMarked}
use Rattle.svex_arena.proofs.Steps.{value-extends, variables-extends, width-extends}
use Rattle.driver_resolve.specs.Drivers.{reading}
use Rattle.net_equations.specs.Equations.{phase_of, is_of_phase, seg_at}
use Rattle.net_equations.specs.Groups.{bits_in}
use Rattle.compose_rounds.specs.declared.scene.Scene.{Scene}
use Rattle.node_replace.specs.declared.replacer.Replacer.{Replacer}
use Rattle.node_replace.specs.Walks.{IsAnswered, IsNew, IsForgotten, is_loose, answer_at}
use Rattle.compose_rounds.specs.Sources.{Covering}
use Rattle.compose_rounds.specs.Rounds.{store_of, Gives, EachMember, IsCalm}
use Rattle.compose_rounds.specs.States.{is_outer, IsOuter, outer_reading, shown, gives_of, IsProblem, IsGrown}
use Rattle.compose_rounds.specs.Answers.{StandsIn, RestsOn, IsMemo, IsFixed}
use Rattle.compose_rounds.specs.Turns.{IsTaken, answer_of, IsPut, IsTurn, IsSettled, AreOpen, IsScene, HasValues, HaveAnswers, IsReady, OnlyNodes}
use Rattle.compose_rounds.proofs.Rounding.{IsRound, reached-next, reached-as, reached-at, each-both, each-weaker, member-or, store-alike, risen-next, risen-end, risen-start, HasRisen}
use Rattle.compose_rounds.proofs.Making.{outer_kept}
use Rattle.compose_rounds.proofs.Systems.{system-of}
use Rattle.compose_rounds.proofs.Standing.{shown-kept}
use Rattle.node_replace.proofs.Replacing.{forgotten_walk, forgotten_values, forgotten_tests}
use Rattle.compose_rounds.proofs.Holding.{stands_of, holding_kept}

-- ---- members by number

pub each-from_index : (P : ℕ → Type 0) (members : List ℕ) → ((j : ℕ) → j < length members → P (slice_index members j)) → EachMember P members
each-from_index P [] h = tt
each-from_index P (i ∷ more) h = (h 0 (omega arith), each-from_index P more (λ j lt. h (suc j) (omega (arith, lt))))

pub index-from_each : (P : ℕ → Type 0) (members : List ℕ) → EachMember P members → (j : ℕ) → j < length members → P (slice_index members j)
index-from_each P [] h j lt = absurd (omega (arith, lt))
index-from_each P (i ∷ more) h zero lt = h.0
index-from_each P (i ∷ more) h (suc j) lt = index-from_each P more h.1 j (omega (arith, lt))

-- ---- as the arena grows

pub problem_kept : (kept : Kept) (old new : List Shape) (segs free : List Seg) (values : List ℕ) → Extends old new → IsProblem kept old segs free values → IsProblem kept new segs free values
problem_kept kept old new segs free values e p = record {
  count = p.count;
  there = λ i lt. omega (arith, p.there i lt, e.longer);
  wide = λ i lt. width-extends old new (slice_index values i) e (p.there i lt) ∙ p.wide i lt;
  mentions = λ i lt. variables-extends (is_of_phase kept.widths) old new (slice_index values i) e (p.there i lt) ∙ p.mentions i lt;
  lies = p.lies;
  firsts = p.firsts;
  apart = p.apart;
  covers = p.covers;
}

pub gives-kept : (kept : Kept) (old new : List Shape) (segs free : List Seg) (values : List ℕ) → Extends old new → IsProblem kept old segs free values → (stim previous s : Store) (i : ℕ) → i < length segs
    → gives_of stim previous new values s i ≡ gives_of stim previous old values s i
gives-kept kept old new segs free values e p stim previous s i lt = value-extends (reading (phase_of stim previous s)) old new (slice_index values i) e (p.there i lt)

pub grown_kept : (kept : Kept) (old new : List Shape) (segs free : List Seg) (values nodes : List ℕ) → Extends old new → IsProblem kept old segs free values → IsGrown kept old segs values nodes → IsGrown kept new segs values nodes
grown_kept kept old new segs free values nodes e p h = record {
  size = h.size;
  outer = outer_kept kept.widths old new nodes e h.outer;
  widths = λ i lt. width-extends old new (slice_index nodes i) e (h.outer i (omega (arith, lt, h.size))).there ∙ h.widths i lt;
  reached = λ links s stim previous.
      reached-as links segs (gives_of stim previous old values) (gives_of stim previous new values) (gives-kept kept old new segs free values e p stim previous) (shown stim previous new nodes)
      (reached-at links segs (gives_of stim previous old values) (shown stim previous old nodes) (shown stim previous new nodes)
      (λ i lt. shown-kept kept.widths old new nodes e h.outer stim previous i (omega (arith, lt, h.size))) (h.reached links s stim previous));
}

pub scene_kept : (kept : Kept) (old new : List Shape) (s : Scene) → IsArena new → Extends old new → IsScene kept old s → IsScene kept new s
scene_kept kept old new s a e h = record {
  arena = a;
  problem = problem_kept kept old new s.segments.eqs s.segments.free s.values.items e h.problem;
  grown = grown_kept kept old new s.segments.eqs s.segments.free s.values.items s.nodes.items e h.problem h.grown;
  marks = h.marks;
}

pub memo_kept : (kept : Kept) (old new : List Shape) (s : Scene) (m : Replacer) → Extends old new → IsScene kept old s → IsMemo kept old s.segments.eqs s.nodes.items s.settled.items m → IsMemo kept new s.segments.eqs s.nodes.items s.settled.items m
memo_kept kept old new s m e h k = record {
  holding = holding_kept kept old new s.segments.eqs s.nodes.items s.settled.items m e h.grown.size h.grown.outer k.holding;
  idle = k.idle;
}

-- ---- one turn

-- what each member has got
abbrev Got : Kept → List Shape → List Shape → List Seg → List ℕ → List ℕ → List ℕ → List ℕ → ℕ → Type 0
Got kept old new segs values nodes answers later i = (slice_index later i ≡ answer_of answers values i) × IsTaken kept old new segs values nodes i (answer_of answers values i)

differ : (b : Bool) → b ≡ false → b ≡ true → ⊥
differ true h k = cc
differ false h k = cc

module _ (kept : Kept) (old new : List Shape) (s : Scene) (m : Replacer) (members later : List ℕ) (a : IsArena old) (b : IsArena new) (e : Extends old new) (sc : IsScene kept old s)
    (mm : IsMemo kept new s.segments.eqs s.nodes.items s.settled.items m) (have : HaveAnswers m.marks.items s.values.items members) (open_ : AreOpen s.segments.eqs s.settled.items members)
    (put : IsPut m.answers.items s.values.items members s.nodes.items later (length members)) where
  abbrev segs : List Seg
  segs = s.segments.eqs

  abbrev values : List ℕ
  values = s.values.items

  abbrev nodes : List ℕ
  nodes = s.nodes.items

  abbrev answers : List ℕ
  answers = m.answers.items

  same-shown : (stim previous : Store) (i : ℕ) → i < length segs → shown stim previous new nodes i ≡ shown stim previous old nodes i
  same-shown stim previous i lt = shown-kept kept.widths old new nodes e sc.grown.outer stim previous i (omega (arith, lt, sc.grown.size))

  idle : (k : ℕ) → IsMarked m.marks.items k → IsAnswered m k
  idle k t = record { marked = t; waits = λ on. let lt : on.0 < length m.path.items = on.1 in let n = ap length mm.idle in omega (arith, lt, n) }

  answered : (i : ℕ) → i < length segs → IsMarked m.marks.items (slice_index values i) → StandsIn kept new segs nodes s.settled.items (is_loose m (slice_index values i)) (slice_index values i) (answer_at m (slice_index values i))
  answered i lt t =
      stands_of kept new segs nodes s.settled.items m (slice_index values i) mm.holding (idle (slice_index values i) t)
      (variables-extends (is_of_phase kept.widths) old new (slice_index values i) e (sc.problem.there i lt) ∙ sc.problem.mentions i lt)

  taken : (i : ℕ) → i < length segs → IsMarked m.marks.items (slice_index values i) → IsTaken kept old new segs values nodes i (answer_of answers values i)
  taken i lt t =
      let k = slice_index values i in
      let h = answered i lt t in
      let there = sc.problem.there i lt in
      record {
        there = h.there;
        wide = h.wide ∙ width-extends old new k e there;
        outer = h.outer;
        value = λ links st stim previous.
            let r = reading (phase_of stim previous (store_of links segs (shown stim previous new nodes))) in
            h.value links st stim previous (shown stim previous new nodes) (λ j l on. refl)
            ∙ value-extends r old new k e there
            ∙ ap (λ t. value_at (reading (phase_of stim previous t)) old k) (store-alike links segs (shown stim previous new nodes) (shown stim previous old nodes) (same-shown stim previous));
      }

  got : EachMember (Got kept old new segs values nodes answers later) members
  got = each-from_index (Got kept old new segs values nodes answers later) members
      (λ j lt.
      let i = slice_index members j in
      (put.put j lt, taken i (index-from_each (λ k. k < length segs) members open_.there j lt) (index-from_each (λ k. IsMarked m.marks.items (slice_index values k)) members have j lt)))

  none-is : (i : ℕ) → EachMember (λ j. i ≡ j → ⊥) members → slice_index later i ≡ slice_index nodes i
  none-is i none = put.only i (λ j lt is. index-from_each (λ k. i ≡ k → ⊥) members none j lt (sym is))

  place : (i : ℕ) → (slice_index later i ≡ slice_index nodes i) ⊎ Got kept old new segs values nodes answers later i
  place i = elim (member-or (Got kept old new segs values nodes answers later) i members got) [
    | inl none ↦ inl (none-is i none)
    | inr g ↦ inr g
  ]

  same-value : (i : ℕ) → i < length segs → slice_index later i ≡ slice_index nodes i → (stim previous : Store) → shown stim previous new later i ≡ shown stim previous old nodes i
  same-value i lt same stim previous = ap (value_at (outer_reading stim previous) new) same ∙ same-shown stim previous i lt

  got-value : (links : List Link) → Stands kept links → (stim previous : Store) (i : ℕ) → Got kept old new segs values nodes answers later i
      → shown stim previous new later i ≡ gives_of stim previous old values (store_of links segs (shown stim previous old nodes)) i
  got-value links st stim previous i g = ap (value_at (outer_reading stim previous) new) g.0 ∙ g.1.value links st stim previous

  either : (links : List Link) → Stands kept links → (stim previous : Store) (i : ℕ) → i < length segs
      → (shown stim previous new later i ≡ shown stim previous old nodes i) ⊎ (shown stim previous new later i ≡ gives_of stim previous old values (store_of links segs (shown stim previous old nodes)) i)
  either links st stim previous i lt = elim (place i) [
    | inl same ↦ inl (same-value i lt same stim previous)
    | inr g ↦ inr (got-value links st stim previous i g)
  ]

  pub turned : IsTurn kept old new segs values members nodes later
  turned = record {
    round = λ links st stim previous. record {
      taken = each-weaker (Got kept old new segs values nodes answers later)
          (λ i. shown stim previous new later i ≡ gives_of stim previous old values (store_of links segs (shown stim previous old nodes)) i) (got-value links st stim previous) members got;
      either = either links st stim previous;
      only = λ i lt none. same-value i lt (none-is i none) stim previous;
    };
    others = none-is;
  }

  outer-at : (i : ℕ) → i < length segs → IsOuter kept.widths new (slice_index later i)
  outer-at i lt = elim (place i) [
    | inl same ↦ subst (IsOuter kept.widths new) (sym same) (outer_kept kept.widths old new nodes e sc.grown.outer i (omega (arith, lt, sc.grown.size)))
    | inr g ↦ subst (IsOuter kept.widths new) (sym g.0) (record { there = g.1.there; mentions = g.1.outer })
  ]

  wide-at : (i : ℕ) → i < length segs → width_at new (slice_index later i) ≡ (seg_at segs i).width
  wide-at i lt = elim (place i) [
    | inl same ↦ ap (width_at new) same ∙ width-extends old new (slice_index nodes i) e (sc.grown.outer i (omega (arith, lt, sc.grown.size))).there ∙ sc.grown.widths i lt
    | inr g ↦ ap (width_at new) g.0 ∙ g.1.wide ∙ sc.problem.wide i lt
  ]

  pub grown_on : IsGrown kept new segs values later
  unfolding IsRound
  grown_on = record {
    size = put.size ∙ sc.grown.size;
    outer = λ i lt. outer-at i (omega (arith, lt, put.size, sc.grown.size));
    widths = wide-at;
    reached = λ links st stim previous.
        reached-as links segs (gives_of stim previous old values) (gives_of stim previous new values) (gives-kept kept old new segs s.segments.free values e sc.problem stim previous) (shown stim previous new later)
        (reached-next links segs (gives_of stim previous old values) (system-of kept old segs s.segments.free values a sc.problem links st stim previous) (shown stim previous old nodes) (shown stim previous new later)
        (sc.grown.reached links st stim previous) (either links st stim previous));
  }

  pub scene_on : (t : Vec ℕ Global) → t.items ≡ later → IsScene kept new (record { segments = s.segments; values = s.values; nodes = t; settled = s.settled })
  scene_on t is = record {
    arena = b;
    problem = problem_kept kept old new segs s.segments.free values e sc.problem;
    grown = subst (IsGrown kept new segs values) (sym is) grown_on;
    marks = sc.marks;
  }

  -- ---- at rest

  -- each member had its answer already
  pub rest_same : later ≡ nodes → IsSettled kept new segs values members later
  rest_same same = record {
    calm = λ links st stim previous.
        let here : (i : ℕ) → i < length segs → shown stim previous new later i ≡ shown stim previous old nodes i = λ i lt. same-value i lt (ap (λ l. slice_index l i) same) stim previous in
        let stores = store-alike links segs (shown stim previous new later) (shown stim previous old nodes) here in
        each-both (λ i. i < length segs) (Got kept old new segs values nodes answers later)
        (λ i. shown stim previous new later i ≡ gives_of stim previous new values (store_of links segs (shown stim previous new later)) i)
        (λ i lt g.
        got-value links st stim previous i g
        ∙ ap (λ t. gives_of stim previous old values t i) (sym stores)
        ∙ sym (gives-kept kept old new segs s.segments.free values e sc.problem stim previous (store_of links segs (shown stim previous new later)) i lt))
        members open_.there got;
  }

  no-member : (j : ℕ) → IsMarked s.settled.items j → EachMember (λ i. j ≡ i → ⊥) members
  no-member j h = each-weaker (λ i. get_or s.settled.items i false ≡ false) (λ i. j ≡ i → ⊥) (λ i un is. differ (get_or s.settled.items i false) un (ap (λ k. get_or s.settled.items k false) (sym is) ∙ h)) members open_.unsettled

  settled-same : (j : ℕ) → IsMarked s.settled.items j → slice_index later j ≡ slice_index nodes j
  settled-same j h = none-is j (no-member j h)

  on-settled : (j : ℕ) (loose : Bool) → loose ≡ false → RestsOn s.settled.items loose j → IsMarked s.settled.items j
  on-settled j loose e (inl t) = absurd (differ loose e t)
  on-settled j loose e (inr h) = h

  -- no answer rests on a member
  pub rest_fixed : m.touched.items ≡ [] → IsSettled kept new segs values members later
  rest_fixed none = record {
    calm = λ links st stim previous.
        each-both (λ i. (i < length segs) × IsMarked m.marks.items (slice_index values i)) (Got kept old new segs values nodes answers later)
        (λ i. shown stim previous new later i ≡ gives_of stim previous new values (store_of links segs (shown stim previous new later)) i)
        (λ i t g.
        let k = slice_index values i in
        ap (value_at (outer_reading stim previous) new) g.0
        ∙ (answered i t.0 t.1).value links st stim previous (shown stim previous new later)
        (λ j l on. ap (value_at (outer_reading stim previous) new) (settled-same j (on-settled j (is_loose m k) (untouched k) on))))
        members
        (each-both (λ i. i < length segs) (λ i. IsMarked m.marks.items (slice_index values i)) (λ i. (i < length segs) × IsMarked m.marks.items (slice_index values i)) (λ i l t. (l, t)) members open_.there have) got;
  }
    where
      untouched : (k : ℕ) → is_loose m k ≡ false
      untouched k = pick (is_loose m k) refl
        where
          pick : (t : Bool) → is_loose m k ≡ t → t ≡ false
          pick true is = absurd (let on = mm.holding.walk.touched k is in let lt : on.0 < length m.touched.items = on.1 in let n = ap length none in omega (arith, lt, n))
          pick false is = refl

  -- ---- the memo once loose answers are taken back

  pub fixed_again : (m2 : Replacer) → IsForgotten m m2 → IsFixed kept new segs later s.settled.items m2
  fixed_again m2 f =
      let walk = mm.holding.walk in
      let alone : m2.path.items ≡ [] = ap (λ (v : Vec ℕ Global). v.items) f.path ∙ mm.idle in
      let n = ap length alone in
      record {
        memo = record {
          holding = record {
            walk = forgotten_walk new m m2 f walk mm.idle;
            values = λ links st stim previous u all agree.
                forgotten_values new m m2 f walk mm.idle (outer_reading stim previous) (reading (phase_of stim previous (store_of links segs u))) all
                (mm.holding.values links st stim previous u false
                (λ j l on.
                let mark = on-settled j false refl on in
                agree j l (inr mark) ∙ ap (value_at (outer_reading stim previous) new) (settled-same j mark)));
            tests = forgotten_tests new m m2 f walk mm.idle (is_outer kept.widths) (is_of_phase kept.widths) true (record { test = λ k a c t. mm.holding.tests.test k a (inl refl) t });
            path = λ i d lt. absurd (omega (arith, lt, n));
          };
          idle = alone;
        };
        touched = f.touched;
      }

-- ---- the rounds of a group

unfoldable pub Risen : Kept → List Shape → List Seg → List ℕ → List ℕ → List ℕ → ℕ → ℕ → Type 0
Risen kept shapes segs values members nodes rounds bits = (links : List Link) → Stands kept links → (stim previous : Store)
    → HasRisen links segs (gives_of stim previous shapes values) members (shown stim previous shapes nodes) rounds bits

pub risen-first : (kept : Kept) (shapes : List Shape) (segs : List Seg) (values members nodes : List ℕ) (bits : ℕ) → EachMember (λ i. i < length segs) members → bits_in segs members ≤ bits
    → IsGrown kept shapes segs values nodes → Risen kept shapes segs values members nodes 0 bits
unfolding Risen
risen-first kept shapes segs values members nodes bits inside most g links s stim previous =
    elim (risen-start links segs (gives_of stim previous shapes values) members (shown stim previous shapes nodes) inside (g.reached links s stim previous)) [
      | inl calm ↦ inl calm
      | inr less ↦ inr (omega (arith, less, most))
    ]

calm-as : (links : List Link) (segs : List Seg) (gives other : Gives) (members : List ℕ) (v : ℕ → Vector) → EachMember (λ i. i < length segs) members
    → ((s : Store) (i : ℕ) → i < length segs → other s i ≡ gives s i) → IsCalm links segs gives members v → IsCalm links segs other members v
calm-as links segs gives other members v inside same h =
    each-both (λ i. i < length segs) (λ i. v i ≡ gives (store_of links segs v) i) (λ i. v i ≡ other (store_of links segs v) i) (λ i lt e. e ∙ sym (same (store_of links segs v) i lt)) members inside h

pub risen-on : (kept : Kept) (old new : List Shape) (segs free : List Seg) (values members nodes later : List ℕ) (rounds bits : ℕ) → IsArena old → IsProblem kept old segs free values → Extends old new
    → EachMember (λ i. i < length segs) members → IsGrown kept old segs values nodes → IsTurn kept old new segs values members nodes later
    → Risen kept old segs values members nodes rounds bits → Risen kept new segs values members later (rounds + 1) bits
unfolding Risen
risen-on kept old new segs free values members nodes later rounds bits a p e inside g t h links s stim previous =
    let gives = gives_of stim previous old values in
    elim (risen-next links segs gives (system-of kept old segs free values a p links s stim previous) members inside (shown stim previous old nodes) (shown stim previous new later) rounds bits
    (g.reached links s stim previous) (t.round links s stim previous) (h links s stim previous)) [
      | inl calm ↦ inl (calm-as links segs gives (gives_of stim previous new values) members (shown stim previous new later) inside (gives-kept kept old new segs free values e p stim previous) calm)
      | inr more ↦ inr more
    ]

pub risen-last : (kept : Kept) (shapes : List Shape) (segs free : List Seg) (values members nodes : List ℕ) (rounds bits : ℕ) → IsArena shapes → IsProblem kept shapes segs free values → bits ≤ rounds
    → EachMember (λ i. i < length segs) members → IsGrown kept shapes segs values nodes → Risen kept shapes segs values members nodes rounds bits → IsSettled kept shapes segs values members nodes
unfolding Risen
risen-last kept shapes segs free values members nodes rounds bits a p all inside g h = record {
  calm = λ links s stim previous.
      risen-end links segs (gives_of stim previous shapes values) (system-of kept shapes segs free values a p links s stim previous) members inside (shown stim previous shapes nodes) rounds bits all
      (g.reached links s stim previous) (h links s stim previous);
}

-- ---- the same scene, but for its nodes

pub only_self : (s : Scene) → OnlyNodes s s
only_self s = record { segments = refl; values = refl; settled = refl }

pub only_on : (r s t : Scene) → OnlyNodes r s → OnlyNodes s t → OnlyNodes r t
only_on r s t h k = record { segments = k.segments ∙ h.segments; values = k.values ∙ h.values; settled = k.settled ∙ h.settled }

pub open_as : (s t : Scene) (members : List ℕ) → OnlyNodes s t → AreOpen s.segments.eqs s.settled.items members → AreOpen t.segments.eqs t.settled.items members
open_as s t members h o =
    subst (λ (c : Covering). AreOpen c.eqs t.settled.items members) (sym h.segments) (subst (λ (v : Vec Bool Global). AreOpen s.segments.eqs v.items members) (sym h.settled) o)

pub values_long : (values answers more : List ℕ) → length more ≡ length answers → HasValues values answers → HasValues values more
values_long values answers more e h = record { has = λ i lt. let b = h.has i lt in omega (arith, b, e) }

pub turn_as : (kept : Kept) (old new : List Shape) (s t : Scene) (members nodes later : List ℕ) → OnlyNodes s t → IsTurn kept old new t.segments.eqs t.values.items members nodes later → IsTurn kept old new s.segments.eqs s.values.items members nodes later
turn_as kept old new s t members nodes later h k =
    subst (λ (c : Covering). IsTurn kept old new c.eqs s.values.items members nodes later) h.segments (subst (λ (v : Vec ℕ Global). IsTurn kept old new t.segments.eqs v.items members nodes later) h.values k)

pub settled_as : (kept : Kept) (shapes : List Shape) (s t : Scene) (members nodes : List ℕ) → OnlyNodes s t → IsSettled kept shapes t.segments.eqs t.values.items members nodes → IsSettled kept shapes s.segments.eqs s.values.items members nodes
settled_as kept shapes s t members nodes h k =
    subst (λ (c : Covering). IsSettled kept shapes c.eqs s.values.items members nodes) h.segments (subst (λ (v : Vec ℕ Global). IsSettled kept shapes t.segments.eqs v.items members nodes) h.values k)

pub risen_as : (kept : Kept) (shapes : List Shape) (s t : Scene) (members nodes : List ℕ) (rounds bits : ℕ) → OnlyNodes s t → Risen kept shapes s.segments.eqs s.values.items members nodes rounds bits
    → Risen kept shapes t.segments.eqs t.values.items members nodes rounds bits
risen_as kept shapes s t members nodes rounds bits h k =
    subst (λ (c : Covering). Risen kept shapes c.eqs t.values.items members nodes rounds bits) (sym h.segments) (subst (λ (v : Vec ℕ Global). Risen kept shapes s.segments.eqs v.items members nodes rounds bits) (sym h.values) k)

pub risen_back : (kept : Kept) (shapes : List Shape) (s t : Scene) (members nodes : List ℕ) (rounds bits : ℕ) → OnlyNodes s t → Risen kept shapes t.segments.eqs t.values.items members nodes rounds bits
    → Risen kept shapes s.segments.eqs s.values.items members nodes rounds bits
risen_back kept shapes s t members nodes rounds bits h k =
    subst (λ (c : Covering). Risen kept shapes c.eqs s.values.items members nodes rounds bits) h.segments (subst (λ (v : Vec ℕ Global). Risen kept shapes t.segments.eqs v.items members nodes rounds bits) h.values k)

pub risen_step : (kept : Kept) (old new : List Shape) (s t : Scene) (members later : List ℕ) (rounds bits : ℕ) → Extends old new → OnlyNodes s t → IsScene kept old t → AreOpen s.segments.eqs s.settled.items members
    → IsTurn kept old new s.segments.eqs s.values.items members t.nodes.items later → Risen kept old s.segments.eqs s.values.items members t.nodes.items rounds bits
    → Risen kept new s.segments.eqs s.values.items members later (rounds + 1) bits
risen_step kept old new s t members later rounds bits e h sc o turn r =
    let k = open_as s t members h o in
    let turn-2 = subst (λ (c : Covering). IsTurn kept old new c.eqs t.values.items members t.nodes.items later) (sym h.segments) (subst (λ (v : Vec ℕ Global). IsTurn kept old new s.segments.eqs v.items members t.nodes.items later) (sym h.values) turn) in
    risen_back kept new s t members later (rounds + 1) bits h
    (risen-on kept old new t.segments.eqs t.segments.free t.values.items members t.nodes.items later rounds bits sc.arena sc.problem e k.there sc.grown turn-2 (risen_as kept old s t members t.nodes.items rounds bits h r))

pub settled_end : (kept : Kept) (shapes : List Shape) (s t : Scene) (members : List ℕ) (rounds bits : ℕ) → bits ≤ rounds → OnlyNodes s t → IsScene kept shapes t → AreOpen s.segments.eqs s.settled.items members
    → Risen kept shapes s.segments.eqs s.values.items members t.nodes.items rounds bits → IsSettled kept shapes s.segments.eqs s.values.items members t.nodes.items
settled_end kept shapes s t members rounds bits all h sc o r =
    let k = open_as s t members h o in
    settled_as kept shapes s t members t.nodes.items h
    (risen-last kept shapes t.segments.eqs t.segments.free t.values.items members t.nodes.items rounds bits sc.arena sc.problem all k.there sc.grown (risen_as kept shapes s t members t.nodes.items rounds bits h r))

-- ---- scenes and memos between groups

pub new_ready : (kept : Kept) (shapes : List Shape) (s : Scene) (m : Replacer) (n : ℕ) → IsScene kept shapes s → n ≤ length shapes → ((i : ℕ) → i < length s.values.items → slice_index s.values.items i < n) → IsNew n m → IsReady kept shapes s m
new_ready kept shapes s m n sc within values h =
    let empty = ap length h.path in
    let none = ap length h.touched in
    let long = h.answers in
    record {
      scene = sc;
      memo = record {
        memo = record {
          holding = record {
            walk = record {
              marks = h.marks ∙ sym h.answers;
              looses = h.looses ∙ sym h.answers;
              within = omega (arith, within, long);
              is = λ k a. absurd (differ (get_or m.marks.items k false) (h.unmarked k) a.marked);
              path = λ i d lt. absurd (omega (arith, lt, empty));
              falling = λ i j d lt l. absurd (omega (arith, l, empty));
              touched = λ k t. absurd (differ (get_or m.loose.items k false) (h.fixed k) t);
              below = λ i d lt. absurd (omega (arith, lt, none));
            };
            values = λ links st stim previous u all agree. record { value = λ k a c. absurd (differ (get_or m.marks.items k false) (h.unmarked k) a.marked) };
            tests = record { test = λ k a c t. absurd (differ (get_or m.marks.items k false) (h.unmarked k) a.marked) };
            path = λ i d lt. absurd (omega (arith, lt, empty));
          };
          idle = h.path;
        };
        touched = h.touched;
      };
      values = record { has = λ i lt. let b = values i lt in omega (arith, b, long) };
    }

-- more equations are settled
pub ready_more : (kept : Kept) (shapes : List Shape) (s : Scene) (m : Replacer) (more : Vec Bool Global) → length more.items ≡ length s.settled.items → ((i : ℕ) → IsMarked s.settled.items i → IsMarked more.items i) → IsReady kept shapes s m
    → IsReady kept shapes (record { segments = s.segments; values = s.values; nodes = s.nodes; settled = more }) m
ready_more kept shapes s m more size stays h =
    let hold = h.memo.memo.holding in
    record {
      scene = record { arena = h.scene.arena; problem = h.scene.problem; grown = h.scene.grown; marks = size ∙ h.scene.marks };
      memo = record {
        memo = record {
          holding = record {
            walk = hold.walk;
            values = λ links st stim previous u all agree. record {
              value = λ k a c. (hold.values links st stim previous u false (λ j l on. agree j l (inr (stays j (marked j on))))).value k a (inr (tight k));
            };
            tests = hold.tests;
            path = hold.path;
          };
          idle = h.memo.memo.idle;
        };
        touched = h.memo.touched;
      };
      values = h.values;
    }
  where
    marked : (j : ℕ) → RestsOn s.settled.items false j → IsMarked s.settled.items j
    marked j (inl e) = cc
    marked j (inr t) = t

    tight : (k : ℕ) → is_loose m k ≡ false
    tight k = pick (is_loose m k) refl
      where
        pick : (t : Bool) → is_loose m k ≡ t → t ≡ false
        pick true is = absurd (let on = h.memo.memo.holding.walk.touched k is in let lt : on.0 < length m.touched.items = on.1 in let n = ap length h.memo.touched in omega (arith, lt, n))
        pick false is = refl
