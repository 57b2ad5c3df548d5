-- A walk down to stale nodes that are evaluated, and one up from a node that is forgotten.
use Rattle.std.specs.Prelude.{◌≡◌, ◌⊎◌, ℕ, ◌+◌, ◌<◌, ◌≤◌, Bool, true, false, not, List, ◌++◌, length, Option, None, Some, All, AllPairs, Contains, slice_index_or, vec_capacity}
use Rattle.std.specs.List.{count_by}
use Rattle.svex_shape.specs.declared.shape.Shape.{Shape}
use Rattle.svex_shape.specs.Shapes.{OnChildren, shape_at}
use Rattle.node_memo.specs.declared.memo.Memo.{Memo}
use Rattle.node_memo.specs.Memos.{is_fresh, AreClosed}

abbrev pub is_stale : List Bool → Option ℕ → Bool
is_stale fresh None = false
is_stale fresh (Some k) = not (is_fresh fresh k)

-- ---- down

-- Nodes on the path are stale, each has a lower number than the one before it, and there is room for as many as its last one allows.
pub record IsPath (n : ℕ) (fresh : List Bool) (path : List ℕ) : Type 0 where
  pub stale : All (λ k. is_fresh fresh k ≡ false) path
  pub falls : AllPairs (λ a b. b < a) path
  pub deep : (i d : ℕ) → i < length path → i + slice_index_or path i d < n

-- what holds of a memo in a walk down
pub record IsDown (shapes : List Shape) (memo : Memo) : Type 0 where
  pub values : length memo.values.items ≡ length shapes
  pub marks : length memo.fresh.items ≡ length shapes
  pub closed : AreClosed shapes memo.fresh.items
  pub path : IsPath (length shapes) memo.fresh.items memo.path.items
  pub path_room : length shapes ≤ vec_capacity memo.path

-- what a walk down leaves as it is
pub record KeepsUp (old new : Memo) : Type 0 where
  pub parents : new.parents ≡ old.parents
  pub stale : new.stale ≡ old.stale

abbrev pub stale_marks : List Bool → ℕ
stale_marks fresh = count_by (λ b. not b) fresh

abbrev pub fresh_marks : List Bool → ℕ
fresh_marks fresh = count_by (λ b. b) fresh

-- ---- up

-- Nodes were forgotten: those that were fresh are put behind the others.
pub record AreDropped (nodes : List ℕ) (fresh : List Bool) (stale : List ℕ) (fresh2 : List Bool) (stale2 : List ℕ) : Type 0 where
  pub marks : length fresh2 ≡ length fresh
  pub gone : All (λ k. is_fresh fresh2 k ≡ false) nodes
  pub fewer : (k : ℕ) → is_fresh fresh2 k ≡ true → is_fresh fresh k ≡ true
  pub count : fresh_marks fresh2 + length stale2 ≡ fresh_marks fresh + length stale
  pub behind : (more : List ℕ) × (stale2 ≡ stale ++ more)
      × ((k : ℕ) → is_fresh fresh k ≡ true → (is_fresh fresh2 k ≡ true) ⊎ Contains more k)
      × All (Contains nodes) more

-- Of a fresh node each child is fresh, or waits for its parents to be forgotten.
abbrev pub AreClosedBut : List Shape → List Bool → List ℕ → Type 0
AreClosedBut shapes fresh waiting =
    (k : ℕ) → k < length shapes → is_fresh fresh k ≡ true → OnChildren (λ c. (is_fresh fresh c ≡ true) ⊎ Contains waiting c) (shape_at shapes k)
