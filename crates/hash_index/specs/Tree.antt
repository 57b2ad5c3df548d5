-- Trees of entries by the bits of their hashes. A link is one more than the number of an entry, or 0 for none.
use Rattle.std.specs.Prelude.{◌≡◌, ℕ, zero, suc, ◌/◌, ◌%◌, ◌-◌, ◌<◌, ◌≤◌, ◌⊎◌, ◌==◌, List, length, slice_index, if◌then◌else◌}
use Rattle.hash_index.specs.declared.tree.Place.{Place}
use Rattle.hash_index.specs.declared.tree.Place.TheVariants.{Root, Low, High}

-- ---- places and their links

abbrev pub link_at : List ℕ → List ℕ → List ℕ → Place → ℕ
link_at low high roots (Root b) = slice_index roots b
link_at low high roots (Low k) = slice_index low k
link_at low high roots (High k) = slice_index high k

-- the place is in the lists
abbrev pub IsAt : List ℕ → List ℕ → List ℕ → Place → Type 0
IsAt low high roots (Root b) = b < length roots
IsAt low high roots (Low k) = k < length low
IsAt low high roots (High k) = k < length high

-- one more than the number of the entry whose link it is; 0 for a root
abbrev pub owner : Place → ℕ
owner (Root b) = 0
owner (Low k) = suc k
owner (High k) = suc k

-- the place behind an entry, by the lowest bit of what is left of a hash
abbrev pub child : ℕ → ℕ → Place
child rest k = if rest % 2 == 1 then High k else Low k

-- ---- ways

abbrev pub next : (Place → ℕ) → ℕ → ℕ → ℕ
next links rest zero = 0
next links rest (suc k) = links (child rest k)

-- the link after so many steps; none goes on to none
unfoldable pub way : (Place → ℕ) → ℕ → ℕ → ℕ → ℕ
way links rest at zero = at
way links rest at (suc steps) = way links (rest / 2) (next links rest at) steps

-- the way of what is left of a hash comes from one link to another
pub record Reaches (links : Place → ℕ) (rest at to : ℕ) : Type 0 where
  pub steps : ℕ
  pub is : way links rest at steps ≡ to

-- ---- trees

-- links name entries below n, younger than those that they stand in
pub record IsRising (n : ℕ) (links : Place → ℕ) : Type 0 where
  pub within : (p : Place) → links p ≤ n
  pub above : (p : Place) → 0 < links p → owner p < links p

-- The first n entries are linked over so many buckets: one link names each of them, and the way of its hash comes to it.
pub record IsTree (n buckets : ℕ) (hashes : List ℕ) (links : Place → ℕ) : Type 0 where
  pub rising : IsRising n links
  pub apart : (p q : Place) (k : ℕ) → links p ≡ suc k → links q ≡ suc k → p ≡ q
  pub reached : (k : ℕ) → k < n → Reaches links (slice_index hashes k) (links (Root (slice_index hashes k % buckets))) (suc k)

-- the same in three lists
pub record IsLinked (n : ℕ) (hashes low high roots : List ℕ) : Type 0 where
  pub low_room : n ≤ length low
  pub high_room : n ≤ length high
  pub tree : IsTree n (length roots) hashes (link_at low high roots)

-- what an index keeps
pub record IsKept (hashes low high roots : List ℕ) : Type 0 where
  pub low_len : length low ≡ length hashes
  pub high_len : length high ≡ length hashes
  pub tree : IsTree (length hashes) (length roots) hashes (link_at low high roots)

-- ---- changes

-- one link is written
pub record Puts (old new : Place → ℕ) (place : Place) (link : ℕ) : Type 0 where
  pub here : new place ≡ link
  pub others : (p : Place) → (p ≡ place → ⊥) → new p ≡ old p

-- the links to the first n entries stay
pub record Keeps (n : ℕ) (old new : Place → ℕ) : Type 0 where
  pub kept : (p : Place) (k : ℕ) → k < n → old p ≡ suc k → new p ≡ suc k

-- a way goes from a root to a place, also where links are written that were none
pub record Leads (n : ℕ) (links : Place → ℕ) (hash : ℕ) (root : Place) (rest : ℕ) (place : Place) : Type 0 where
  pub owned : (m : ℕ) → ((p : Place) → links p ≤ m) → owner place ≤ m
  pub leads : (new : Place → ℕ) (to : ℕ) → Keeps n links new → Reaches new rest (new place) to → Reaches new hash (new root) to

-- the place has the wanted link, and the way of a hash leads there
pub record IsEnd (n : ℕ) (links : Place → ℕ) (hash : ℕ) (root : Place) (wanted : ℕ) (place : Place) : Type 0 where
  pub link : links place ≡ wanted
  pub owned : (m : ℕ) → ((p : Place) → links p ≤ m) → owner place ≤ m
  pub leads : (new : Place → ℕ) (to : ℕ) → Keeps n links new → new place ≡ to → Reaches new hash (new root) to

-- ---- a look

-- the entries that have a hash are still ahead, or are ruled out
pub record IsAhead (hashes : List ℕ) (links : Place → ℕ) (Out : ℕ → Type 0) (hash rest at : ℕ) : Type 0 where
  pub within : at ≤ length hashes
  pub ahead : (j : ℕ) → j < length hashes → slice_index hashes j ≡ hash → Reaches links rest at (suc j) ⊎ Out j

-- how far a link is from the last entry
abbrev pub left : ℕ → ℕ → ℕ
left n zero = 0
left n (suc k) = n - k
