-- Values of nodes that are kept, and which of them are fresh.
use Rattle.std.specs.Prelude.{◌≡◌, ℕ, ◌<◌, ◌≤◌, Bool, true, false, List, [], length, map, Contains, slice_index_or, vec_capacity}
use Rattle.std.specs.declared.vec.Vec.{Vec}
use Rattle.std.specs.declared.alloc.Global.{Global}
use Rattle.svex_shape.specs.declared.shape.Shape.{Shape}
use Rattle.svex_shape.specs.Shapes.{OnChildren, shape_at}
use Rattle.svex_shape.specs.Values.{Reading, value_at}
use Rattle.svex_arena.specs.Evaluated.{value_in}
use Rattle.node_memo.specs.declared.memo.Memo.{Memo}

abbrev pub rows_in : List (Vec ℕ Global) → List (List ℕ)
rows_in lists = map (λ v. v.items) lists

abbrev pub is_fresh : List Bool → ℕ → Bool
is_fresh fresh k = slice_index_or fresh k false

-- the children of a fresh node are fresh
abbrev pub AreClosed : List Shape → List Bool → Type 0
AreClosed shapes fresh = (k : ℕ) → k < length shapes → is_fresh fresh k ≡ true → OnChildren (λ c. is_fresh fresh c ≡ true) (shape_at shapes k)

-- each node is one of the parents of each of its children
abbrev pub AreParents : List Shape → List (List ℕ) → Type 0
AreParents shapes parents = (k : ℕ) → k < length shapes → OnChildren (λ c. Contains (slice_index_or parents c []) k) (shape_at shapes k)

-- what is kept between two calls
pub record IsMemo (shapes : List Shape) (memo : Memo) : Type 0 where
  pub values : length memo.values.items ≡ length shapes
  pub marks : length memo.fresh.items ≡ length shapes
  pub closed : AreClosed shapes memo.fresh.items
  pub parents_each : length memo.parents.items ≡ length shapes
  pub parents_inside : (c k : ℕ) → Contains (slice_index_or (rows_in memo.parents.items) c []) k → k < length shapes
  pub parents : AreParents shapes (rows_in memo.parents.items)
  pub path : memo.path.items ≡ []
  pub path_room : length shapes ≤ vec_capacity memo.path
  pub stale_room : length shapes ≤ vec_capacity memo.stale

-- each fresh node has its value
pub record HasFresh (r : Reading) (shapes : List Shape) (memo : Memo) : Type 0 where
  pub is : (k : ℕ) → is_fresh memo.fresh.items k ≡ true → value_in memo.values.items k ≡ value_at r shapes k

-- what was fresh stays so
abbrev pub StayFresh : Memo → Memo → Type 0
StayFresh old new = (k : ℕ) → is_fresh old.fresh.items k ≡ true → is_fresh new.fresh.items k ≡ true

-- A node was forgotten, and with it all that were fresh and reach it; these are told.
pub record IsForgotten (old : Memo) (node : ℕ) (new : Memo) : Type 0 where
  pub values : new.values ≡ old.values
  pub gone : is_fresh new.fresh.items node ≡ false
  pub fewer : StayFresh new old
  pub told : (k : ℕ) → is_fresh old.fresh.items k ≡ true → is_fresh new.fresh.items k ≡ false → Contains new.stale.items k
