-- On which others an equation depends, and groups in an order of dependence.
use Rattle.std.specs.Prelude.{◌≡◌, ◌≢◌, ◌⊎◌, ◌<◌, ◌≤◌, ◌+◌, nat_lt, ℕ, List, [], ◌∷◌, length, map, Contains, AllPairs, IsTrue, Option, None, Some, if◌then◌else◌, slice_index, slice_index_or}
use Rattle.lhs_alias.specs.declared.segs.Seg.{Seg}
use Rattle.lhs_alias.specs.Segs.{bit}
use Rattle.lhs_alias.specs.Lies.{IsBitOf}
use Rattle.lhs_alias.specs.Joined.{Kept, first_of}
use Rattle.svex_shape.specs.declared.shape.Shape.{Shape}
use Rattle.svex_shape.specs.declared.shape.Shape.TheVariants.{Var}
use Rattle.svex_shape.specs.declared.shape.VarName.TheVariants.{Now}
use Rattle.svex_shape.specs.Shapes.{shape_at}
use Rattle.svex_arena.specs.Marks.{IsReached}
use Rattle.driver_resolve.specs.declared.driver.NetEq.{NetEq}
use Rattle.net_equations.specs.Equations.{has_bit, seg_at}

-- ---- dependence

-- a node mentions the present value of a wire: it reaches that variable
pub record Mentions (shapes : List Shape) (node wire : ℕ) : Type 0 where
  pub at : ℕ
  pub width : ℕ
  pub reached : IsReached shapes (node ∷ []) at
  pub is : shape_at shapes at ≡ Var (Now wire) width

-- An equation depends on another where its value mentions the present value of a wire that has a bit joined to a bit of the other.
pub record Depends (kept : Kept) (shapes : List Shape) (eqs : List NetEq) (i j : ℕ) : Type 0 where
  pub wire : ℕ
  pub mentions : Mentions shapes (slice_index (map (λ e. e.value) eqs) i) wire
  pub place : ℕ
  pub inside : IsBitOf kept.widths (bit wire place)
  pub joined : IsTrue (has_bit (seg_at (map (λ e. e.seg) eqs) j) (first_of kept (bit wire place)))

-- by a chain of dependences, one at least
pub data Reaches (On : ℕ → ℕ → Type 0) : ℕ → ℕ → Type 0 where
  one : (i j : ℕ) → On i j → Reaches On i j
  more : (i j k : ℕ) → On i j → Reaches On j k → Reaches On i k

-- ---- groups

abbrev pub members_of : List (List ℕ) → ℕ → List ℕ
members_of groups g = slice_index_or groups g []

-- Each of so many is a member of one group, once. Members of one group reach each other, and depend only on earlier groups and their own.
-- (So a group is maximal: what reaches it and is reached by it stands neither before nor behind it.)
pub record AreInOrder (On : ℕ → ℕ → Type 0) (count : ℕ) (groups : List (List ℕ)) : Type 0 where
  pub there : (g i : ℕ) → g < length groups → Contains (members_of groups g) i → i < count
  pub covers : (i : ℕ) → i < count → (g : ℕ) × ((g < length groups) × Contains (members_of groups g) i)
  pub once : (g h i : ℕ) → g < length groups → h < length groups → Contains (members_of groups g) i → Contains (members_of groups h) i → g ≡ h
  pub distinct : (g : ℕ) → g < length groups → AllPairs ◌≢◌ (members_of groups g)
  pub loops : (g i j : ℕ) → g < length groups → Contains (members_of groups g) i → Contains (members_of groups g) j → (i ≡ j) ⊎ Reaches On i j
  pub earlier : (g h i j : ℕ) → g < length groups → h < length groups → Contains (members_of groups g) i → Contains (members_of groups h) j → On i j → h ≤ g

-- groups of equations
abbrev pub IsOrder : Kept → List Shape → List NetEq → List (List ℕ) → Type 0
IsOrder kept shapes eqs groups = AreInOrder (Depends kept shapes eqs) (length eqs) groups

-- ---- wide groups

-- the bits of the segments of members
unfoldable pub bits_in : List Seg → List ℕ → ℕ
bits_in segs [] = 0
bits_in segs (m ∷ rest) = (seg_at segs m).width + bits_in segs rest

-- the bits of the first group that has over 1,024
unfoldable pub first_wide : List Seg → List (List ℕ) → Option ℕ
first_wide segs [] = None
first_wide segs (g ∷ rest) = if nat_lt 1024 (bits_in segs g) then Some (bits_in segs g) else first_wide segs rest
