-- Turns of a group: its members take what their equations give.
use Rattle.std.specs.Prelude.{◌≡◌, ◌<◌, ℕ, Bool, false, List, length, IsTrue, slice_index, slice_index_or}
use Rattle.lhs_alias.specs.declared.segs.Seg.{Seg}
use Rattle.lhs_alias.specs.Joined.{Kept, Stands}
use Rattle.settling.specs.Settling.{Store, Link}
use Rattle.svex_shape.specs.declared.shape.Shape.{Shape}
use Rattle.svex_shape.specs.Shapes.{width_at}
use Rattle.svex_shape.specs.Values.{value_at, each_variable}
use Rattle.svex_arena.specs.Arenas.{IsArena}
use Rattle.svex_arena.specs.Marks.{IsMarked}
use Rattle.compose_rounds.specs.declared.scene.Scene.{Scene}
use Rattle.node_replace.specs.declared.replacer.Replacer.{Replacer}
use Rattle.compose_rounds.specs.Rounds.{store_of, EachMember, IsCalm, IsGroupRound}
use Rattle.compose_rounds.specs.States.{is_outer, outer_reading, shown, gives_of, IsProblem, IsGrown}
use Rattle.compose_rounds.specs.Answers.{IsMemo, IsFixed}

-- a later node that has what the equation of a segment gives where nodes show the valuation
pub record IsTaken (kept : Kept) (old new : List Shape) (segs : List Seg) (values nodes : List ℕ) (i node : ℕ) : Type 0 where
  pub there : node < length new
  pub wide : width_at new node ≡ width_at old (slice_index values i)
  pub outer : IsTrue (each_variable (is_outer kept.widths) new node)
  pub value : (links : List Link) → Stands kept links → (stim previous : Store)
      → value_at (outer_reading stim previous) new node ≡ gives_of stim previous old values (store_of links segs (shown stim previous old nodes)) i

-- the answer for the value of an equation
abbrev pub answer_of : List ℕ → List ℕ → ℕ → ℕ
answer_of answers values i = slice_index answers (slice_index values i)

-- the first n members have their answers, and all else is as before
pub record IsPut (answers values members old new : List ℕ) (n : ℕ) : Type 0 where
  pub size : length new ≡ length old
  pub put : (k : ℕ) → k < n → slice_index new (slice_index members k) ≡ answer_of answers values (slice_index members k)
  pub only : (i : ℕ) → ((j : ℕ) → j < n → slice_index members j ≡ i → ⊥) → slice_index new i ≡ slice_index old i

-- a turn of the members, from some nodes to others
pub record IsTurn (kept : Kept) (old new : List Shape) (segs : List Seg) (values members nodes later : List ℕ) : Type 0 where
  pub round : (links : List Link) → Stands kept links → (stim previous : Store)
      → IsGroupRound links segs (gives_of stim previous old values) members (shown stim previous old nodes) (shown stim previous new later)
  pub others : (i : ℕ) → EachMember (λ j. i ≡ j → ⊥) members → slice_index later i ≡ slice_index nodes i

-- the members have what their equations give
pub record IsSettled (kept : Kept) (shapes : List Shape) (segs : List Seg) (values members nodes : List ℕ) : Type 0 where
  pub calm : (links : List Link) → Stands kept links → (stim previous : Store)
      → IsCalm links segs (gives_of stim previous shapes values) members (shown stim previous shapes nodes)

-- members that are there and not yet settled
pub record AreOpen (segs : List Seg) (settled : List Bool) (members : List ℕ) : Type 0 where
  pub there : EachMember (λ i. i < length segs) members
  pub unsettled : EachMember (λ i. slice_index_or settled i false ≡ false) members

-- ---- the state of the rounds

-- equations, nodes that rounds have reached, and which of them are settled
pub record IsScene (kept : Kept) (shapes : List Shape) (s : Scene) : Type 0 where
  pub arena : IsArena shapes
  pub problem : IsProblem kept shapes s.segments.eqs s.segments.free s.values.items
  pub grown : IsGrown kept shapes s.segments.eqs s.values.items s.nodes.items
  pub marks : length s.settled.items ≡ length s.segments.eqs

-- a memo over the nodes of the values
pub record HasValues (values answers : List ℕ) : Type 0 where
  pub has : (i : ℕ) → i < length values → slice_index values i < length answers

abbrev pub IsMemoOf : Kept → List Shape → Scene → Replacer → Type 0
IsMemoOf kept shapes s m = IsMemo kept shapes s.segments.eqs s.nodes.items s.settled.items m

abbrev pub IsFixedOf : Kept → List Shape → Scene → Replacer → Type 0
IsFixedOf kept shapes s m = IsFixed kept shapes s.segments.eqs s.nodes.items s.settled.items m

-- between rounds: a scene, and a memo over its values in which no answer is loose
pub record IsReady (kept : Kept) (shapes : List Shape) (s : Scene) (m : Replacer) : Type 0 where
  pub scene : IsScene kept shapes s
  pub memo : IsFixedOf kept shapes s m
  pub values : HasValues s.values.items m.answers.items

-- the values of members have answers
abbrev pub HaveAnswers : List Bool → List ℕ → List ℕ → Type 0
HaveAnswers marks values members = EachMember (λ i. IsMarked marks (slice_index values i)) members

-- the nodes alone change
pub record OnlyNodes (old new : Scene) : Type 0 where
  pub segments : new.segments ≡ old.segments
  pub values : new.values ≡ old.values
  pub settled : new.settled ≡ old.settled
