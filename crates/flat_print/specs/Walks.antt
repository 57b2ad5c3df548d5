-- The walk that finds the nodes that drivers reach: what waits on its stack, and what is known of each node.
use Rattle.std.specs.Prelude.{◌≡◌, ℕ, ◌+◌, ◌*◌, ◌<◌, ◌==◌, ◌||◌, not, Bool, true, false, List, [], ◌∷◌, ◌++◌, length, count_by, slice_index, slice_index_or}
use Rattle.svex_shape.specs.declared.shape.Shape.{Shape}
use Rattle.flat_print.specs.declared.visits.Visit.{Visit}
use Rattle.flat_print.specs.declared.visits.Visit.TheVariants.{Enter, Leave}
use Rattle.flat_print.specs.Printed.{has, put, place_in}

-- a fact holds of each element
abbrev pub Each : {X : Type 0} → (X → Type 0) → List X → Type 0
Each P [] = Unit {0}
Each P (x ∷ more) = P x × Each P more

abbrev pub node_of : Visit → ℕ
node_of (Enter k) = k
node_of (Leave k) = k

-- what one visit makes of the nodes so far
abbrev pub one : (ℕ → List ℕ → List ℕ) → Visit → List ℕ → List ℕ
one below (Enter k) done = put below k done
one below (Leave k) done = done ++ (k ∷ [])

-- what all visits of a stack make of them, the last first
unfoldable pub finish : (ℕ → List ℕ → List ℕ) → List Visit → List ℕ → List ℕ
finish below [] done = done
finish below (v ∷ above) done = one below v (finish below above done)

-- what stands above a node that waits to be left has a lower number
abbrev pub Under : Visit → Visit → Type 0
Under (Enter k) w = Unit {0}
Under (Leave k) w = node_of w < k

abbrev pub Falls : List Visit → Type 0
Falls [] = Unit {0}
Falls (v ∷ above) = Each (Under v) above × Falls above

-- the node waits to be left
unfoldable pub waits : ℕ → List Visit → Bool
waits k [] = false
waits k (Enter j ∷ more) = waits k more
waits k (Leave j ∷ more) = (k == j) || waits k more

-- a node that waits to be left has no place yet
abbrev pub IsApart : List ℕ → Visit → Type 0
IsApart order (Enter k) = Unit {0}
IsApart order (Leave k) = has k order ≡ false

-- A node is marked as seen where it has a place in the order, or waits to be left; and where it has a place, its number is that.
pub record IsWalk (shapes : List Shape) (stack : List Visit) (seen : List Bool) (numbers order : List ℕ) : Type 0 where
  pub marks : length seen ≡ length shapes
  pub places : length numbers ≡ length shapes
  pub within : Each (λ v. node_of v < length shapes) stack
  pub falls : Falls stack
  pub marked : (k : ℕ) → slice_index_or seen k false ≡ (has k order || waits k stack)
  pub apart : Each (IsApart order) stack
  pub inside : (k : ℕ) → has k order ≡ true → k < length shapes
  pub numbered : (k : ℕ) → has k order ≡ true → slice_index numbers k ≡ place_in order k

-- Each node may still be entered, which puts four visits on the stack at most.
abbrev pub work_left : List Bool → List Visit → ℕ
work_left seen stack = 4 * count_by (λ b. not b) seen + length stack
