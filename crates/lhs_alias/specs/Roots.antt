-- A forest of numbers: each is linked to another, and the links end at the roots.
use Rattle.std.specs.Prelude.{◌≡◌, ◌≢◌, ℕ, ◌+◌, ◌<◌, ◌≤◌, ◌⊎◌, ◌==◌, if◌then◌else◌, List, length, map, slice_index}
use Rattle.std.specs.List.{range_with_len}
use Rattle.std.proofs.Common.{zero, suc}

-- where so many links lead
unfoldable pub climb : ℕ → List ℕ → ℕ → ℕ
climb zero links at = at
climb (suc n) links at = climb n links (slice_index links at)

-- where the links end
unfoldable pub root_of : List ℕ → ℕ → ℕ
root_of links at = climb (length links) links at

-- all links end, each at a number that is linked to itself
pub record EndAtRoots (links : List ℕ) : Type 0 where
  pub within : (k : ℕ) → k < length links → slice_index links k < length links
  pub ends : (k : ℕ) → k < length links → slice_index links (root_of links k) ≡ root_of links k

-- the sum of f over the numbers below n
unfoldable pub sum_below : (ℕ → ℕ) → ℕ → ℕ
sum_below f zero = 0
sum_below f (suc n) = sum_below f n + f n

-- the size of the tree at a root
unfoldable pub tree_size : List ℕ → List ℕ → ℕ → ℕ
tree_size links sizes k = if slice_index links k == k then slice_index sizes k else 0

-- sizes grow along the links, and those of the roots count all numbers
pub record IsSized (links sizes : List ℕ) : Type 0 where
  pub as_many : length sizes ≡ length links
  pub within : (k : ℕ) → k < length links → slice_index links k < length links
  pub some : (k : ℕ) → k < length links → 1 ≤ slice_index sizes k
  pub most : (k : ℕ) → k < length links → slice_index sizes k ≤ length links
  pub grow : (k : ℕ) → k < length links → (slice_index links k ≡ k) ⊎ (slice_index sizes k < slice_index sizes (slice_index links k))
  pub total : sum_below (tree_size links sizes) (length links) ≡ length links

-- what is kept as first at a root is a number of its tree
pub record IsForest (links sizes firsts : List ℕ) : Type 0 where
  pub sized : IsSized links sizes
  pub as_many : length firsts ≡ length links
  pub within : (k : ℕ) → k < length links → slice_index links k ≡ k → slice_index firsts k < length links
  pub first : (k : ℕ) → k < length links → slice_index links k ≡ k → root_of links (slice_index firsts k) ≡ k

-- one root may be linked to another, with that number of their trees as first
pub record IsLinkable (links sizes : List ℕ) (low high first : ℕ) : Type 0 where
  pub low_within : low < length links
  pub high_within : high < length links
  pub low_root : slice_index links low ≡ low
  pub high_root : slice_index links high ≡ high
  pub apart : low ≢ high
  pub smaller : slice_index sizes low ≤ slice_index sizes high
  pub first_within : first < length links
  pub first_root : (root_of links first ≡ low) ⊎ (root_of links first ≡ high)

-- for each number what is kept as first at its root
unfoldable pub firsts_of : List ℕ → List ℕ → List ℕ
firsts_of links firsts = map (λ k. slice_index firsts (root_of links k)) (range_with_len 0 (length links))

-- the class of a goes over to that of b, whose first stays
unfoldable pub merged : List ℕ → ℕ → ℕ → List ℕ
merged firsts a b = map (λ x. if x == slice_index firsts a then slice_index firsts b else x) firsts
