-- What stands for the nodes of values, once the present valuation is that of the segments' nodes.
use Rattle.std.specs.Prelude.{◌≡◌, ◌⊎◌, ◌<◌, ℕ, Bool, true, List, [], length, IsTrue}
use Rattle.lhs_alias.specs.declared.segs.Seg.{Seg}
use Rattle.lhs_alias.specs.Joined.{Kept, Stands}
use Rattle.settling.specs.Settling.{Store, Link}
use Rattle.svex_shape.specs.declared.shape.Shape.{Shape}
use Rattle.svex_shape.specs.Shapes.{width_at}
use Rattle.svex_shape.specs.Values.{Vector, value_at, each_variable}
use Rattle.svex_arena.specs.Marks.{IsMarked}
use Rattle.driver_resolve.specs.Drivers.{reading}
use Rattle.net_equations.specs.Equations.{phase_of, is_of_phase}
use Rattle.node_replace.specs.declared.replacer.Replacer.{Replacer}
use Rattle.node_replace.specs.Walks.{IsWalk, HasValues, HasTests, PathHas}
use Rattle.compose_rounds.specs.Rounds.{store_of}
use Rattle.compose_rounds.specs.States.{is_outer, outer_reading, shown}

-- a loose answer rests on the values of all segments, any other on those of the settled ones alone
abbrev pub RestsOn : List Bool → Bool → ℕ → Type 0
RestsOn settled loose j = (loose ≡ true) ⊎ IsMarked settled j

-- segments on which it rests have in u the values that their nodes show
abbrev pub AgreesWith : List Bool → Bool → List Seg → (ℕ → Vector) → (ℕ → Vector) → Type 0
AgreesWith settled loose segs v u = (j : ℕ) → j < length segs → RestsOn settled loose j → u j ≡ v j

-- A node stands for node k: it is as wide, over stimuli and previous values alone, and has the value that k has in each valuation
-- of the segments that agrees with their nodes where it rests on them.
pub record StandsIn (kept : Kept) (shapes : List Shape) (segs : List Seg) (nodes : List ℕ) (settled : List Bool) (loose : Bool) (k node : ℕ) : Type 0 where
  pub there : node < length shapes
  pub wide : width_at shapes node ≡ width_at shapes k
  pub outer : IsTrue (each_variable (is_outer kept.widths) shapes node)
  pub value : (links : List Link) → Stands kept links → (stim previous : Store) (u : ℕ → Vector)
      → AgreesWith settled loose segs (shown stim previous shapes nodes) u
      → value_at (outer_reading stim previous) shapes node ≡ value_at (reading (phase_of stim previous (store_of links segs u))) shapes k

-- a node of values, whose present variables are wires
pub record IsInner (widths : List ℕ) (shapes : List Shape) (k : ℕ) : Type 0 where
  pub there : k < length shapes
  pub mentions : IsTrue (each_variable (is_of_phase widths) shapes k)

-- ---- all answers of a walk

-- Each stands for its node, and what waits is of the values.
pub record IsHolding (kept : Kept) (shapes : List Shape) (segs : List Seg) (nodes : List ℕ) (settled : List Bool) (m : Replacer) : Type 0 where
  pub walk : IsWalk shapes m
  pub values : (links : List Link) → Stands kept links → (stim previous : Store) (u : ℕ → Vector) (all : Bool) → AgreesWith settled all segs (shown stim previous shapes nodes) u
      → HasValues (outer_reading stim previous) (reading (phase_of stim previous (store_of links segs u))) all shapes m
  pub tests : HasTests (is_outer kept.widths) (is_of_phase kept.widths) true shapes m
  pub path : PathHas (is_of_phase kept.widths) shapes m

-- between walks nothing waits
pub record IsMemo (kept : Kept) (shapes : List Shape) (segs : List Seg) (nodes : List ℕ) (settled : List Bool) (m : Replacer) : Type 0 where
  pub holding : IsHolding kept shapes segs nodes settled m
  pub idle : m.path.items ≡ []

-- between rounds nothing is loose
pub record IsFixed (kept : Kept) (shapes : List Shape) (segs : List Seg) (nodes : List ℕ) (settled : List Bool) (m : Replacer) : Type 0 where
  pub memo : IsMemo kept shapes segs nodes settled m
  pub touched : m.touched.items ≡ []
