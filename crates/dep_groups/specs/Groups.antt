-- Groups of places in an order of dependence, over lists of what each place depends on.
use Rattle.std.specs.Prelude.{◌≡◌, ◌<◌, ◌≤◌, ℕ, List, [], length, slice_index, slice_index_or}

abbrev pub row : List (List ℕ) → ℕ → List ℕ
row all i = slice_index_or all i []

-- the k-th of a row
abbrev pub item : List (List ℕ) → ℕ → ℕ → ℕ
item all i k = slice_index (row all i) k

-- none or more dependences, one after the other
pub data Chain (all : List (List ℕ)) : ℕ → ℕ → Type 0 where
  none : (i : ℕ) → Chain all i i
  more : (i k j : ℕ) → k < length (row all i) → Chain all (item all i k) j → Chain all i j

-- Each group has a member, and each place is a member of one group, once. Members of one group reach each other, and depend only on
-- earlier groups and their own.
-- (So a group is maximal: what reaches it and is reached by it stands neither before nor behind it.)
pub record IsGrouping (all groups : List (List ℕ)) : Type 0 where
  pub some : (g : ℕ) → g < length groups → 0 < length (row groups g)
  pub there : (g k : ℕ) → g < length groups → k < length (row groups g) → item groups g k < length all
  pub covers : (i : ℕ) → i < length all → (g : ℕ) × ((k : ℕ) × ((g < length groups) × ((k < length (row groups g)) × (item groups g k ≡ i))))
  pub once : (g k h l : ℕ) → g < length groups → k < length (row groups g) → h < length groups → l < length (row groups h) → item groups g k ≡ item groups h l → (g ≡ h) × (k ≡ l)
  pub loops : (g k l : ℕ) → g < length groups → k < length (row groups g) → l < length (row groups g) → Chain all (item groups g k) (item groups g l)
  pub earlier : (g k h l e : ℕ) → g < length groups → k < length (row groups g) → h < length groups → l < length (row groups h)
      → e < length (row all (item groups g k)) → item all (item groups g k) e ≡ item groups h l → h ≤ g
