-- Groups that are settled, one after another.
use Rattle.std.specs.Prelude.{◌≡◌, ◌<◌, ℕ, Bool, false, List, length, slice_index, slice_index_or, Contains}
use Rattle.lhs_alias.specs.Joined.{Kept, Stands}
use Rattle.settling.specs.Settling.{Store, Link}
use Rattle.svex_shape.specs.declared.shape.Shape.{Shape}
use Rattle.svex_arena.specs.Arenas.{IsArena, Extends}
use Rattle.svex_arena.specs.Marks.{IsMarked}
use Rattle.driver_resolve.specs.declared.driver.Resolved.{Resolved}
use Rattle.net_equations.specs.Groups.{members_of, IsOrder}
use Rattle.net_equations.specs.Equations.{IsResolved}
use Rattle.compose_rounds.specs.declared.scene.Scene.{Scene}
use Rattle.compose_rounds.specs.Rounds.{store_of, EachMember}
use Rattle.compose_rounds.specs.States.{shown, gives_of}
use Rattle.svex_compose.specs.Starting.{IsSceneOf}

-- the first n members are marked, and what was marked; nothing else is
pub record AreMarked (members : List ℕ) (old new : List Bool) (n : ℕ) : Type 0 where
  pub size : length new ≡ length old
  pub stays : (i : ℕ) → IsMarked old i → IsMarked new i
  pub set : (j : ℕ) → j < n → IsMarked new (slice_index members j)
  pub only : (i : ℕ) → ((j : ℕ) → j < n → slice_index members j ≡ i → ⊥) → slice_index_or new i false ≡ slice_index_or old i false

-- the nodes of members may change, and the members are settled
pub record IsNext (members : List ℕ) (s t : Scene) : Type 0 where
  pub segments : t.segments ≡ s.segments
  pub values : t.values ≡ s.values
  pub others : (i : ℕ) → EachMember (λ j. i ≡ j → ⊥) members → slice_index t.nodes.items i ≡ slice_index s.nodes.items i
  pub marks : AreMarked members s.settled.items t.settled.items (length members)

-- The members of the first n groups are settled, and they alone: each has what its equation gives.
pub record IsRest (kept : Kept) (shapes : List Shape) (set : Resolved) (s : Scene) (groups : List (List ℕ)) (n : ℕ) : Type 0 where
  pub of : IsSceneOf set s
  pub marked : (g i : ℕ) → g < n → Contains (members_of groups g) i → IsMarked s.settled.items i
  pub only : (i : ℕ) → IsMarked s.settled.items i → (g : ℕ) × ((g < n) × Contains (members_of groups g) i)
  pub calm : (links : List Link) → Stands kept links → (stim previous : Store) (i : ℕ) → i < length s.segments.eqs → IsMarked s.settled.items i
      → shown stim previous shapes s.nodes.items i ≡ gives_of stim previous shapes s.values.items (store_of links s.segments.eqs (shown stim previous shapes s.nodes.items)) i

-- groups in an order of dependence, over an arena that has grown since
pub record AreOrdered (kept : Kept) (shapes : List Shape) (set : Resolved) (groups : List (List ℕ)) : Type 0 where
  pub base : List Shape
  pub arena : IsArena base
  pub extends : Extends base shapes
  pub resolved : IsResolved kept base set
  pub order : IsOrder kept base set.eqs groups
