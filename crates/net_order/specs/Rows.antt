-- What nodes and equations lead to: the places of a graph in which an equation leads to the node of its value, a node to its children,
-- and a present variable to the equations that tell a bit of its wire.
use Rattle.std.specs.Prelude.{◌≡◌, ◌⊎◌, ◌+◌, ◌<◌, ◌&&◌, ◌==◌, nat_lt, ℕ, Bool, List, [], ◌∷◌, length, map, ◌^◌, All, Contains, IsTrue, slice_index, slice_index_or}
use Rattle.lhs_alias.specs.declared.segs.Seg.{Seg}
use Rattle.lhs_alias.specs.Segs.{bit, IsSeg}
use Rattle.lhs_alias.specs.Lies.{IsBitOf}
use Rattle.lhs_alias.specs.Joined.{Kept, first_of}
use Rattle.svex_shape.specs.declared.shape.Shape.{Shape}
use Rattle.svex_shape.specs.declared.shape.Shape.TheVariants.{Const, Var, Unary, Binary, Cond, Pick, Slice, Zext, Sext, DynSlice, DynPut}
use Rattle.svex_shape.specs.declared.shape.VarName.TheVariants.{Now}
use Rattle.svex_shape.specs.Shapes.{shape_at, IsChild}
use Rattle.svex_arena.specs.Marks.{IsReached, IsMarked}
use Rattle.driver_resolve.specs.declared.driver.NetEq.{NetEq}
use Rattle.net_equations.specs.Equations.{has_bit, seg_at}
use Rattle.net_order.specs.declared.tellers.Tellers.{Tellers}

abbrev pub segs_in : List NetEq → List Seg
segs_in eqs = map (λ e. e.seg) eqs

abbrev pub values_in : List NetEq → List ℕ
values_in eqs = map (λ e. e.value) eqs

-- a bit of the wire is joined to a bit of the segment of this number
pub record Feeds (kept : Kept) (segs : List Seg) (wire j : ℕ) : Type 0 where
  pub place : ℕ
  pub inside : IsBitOf kept.widths (bit wire place)
  pub joined : IsTrue (has_bit (seg_at segs j) (first_of kept (bit wire place)))

-- the places of the segments that feed a wire, and no others
pub record IsTold (kept : Kept) (segs : List Seg) (nodes wire : ℕ) (row : List ℕ) : Type 0 where
  pub all : (j : ℕ) → j < length segs → Feeds kept segs wire j → Contains row (nodes + j)
  pub only : (x : ℕ) → Contains row x → (j : ℕ) × ((j < length segs) × ((x ≡ nodes + j) × Feeds kept segs wire j))

-- ---- lists of the places to which one leads

-- the equations stand behind so many nodes
pub record LeadsToEq (kept : Kept) (segs : List Seg) (nodes : ℕ) (shape : Shape) (x : ℕ) : Type 0 where
  pub wire : ℕ
  pub width : ℕ
  pub is : shape ≡ Var (Now wire) width
  pub eq : ℕ
  pub there : eq < length segs
  pub place : x ≡ nodes + eq
  pub feeds : Feeds kept segs wire eq

-- the place of a child
pub record LeadsToChild (place : ℕ → ℕ) (shape : Shape) (x : ℕ) : Type 0 where
  pub child : ℕ
  pub is : IsChild child shape
  pub at : x ≡ place child

-- A node of this shape leads to its children and, where it is a wire's present value, to the equations that tell it.
pub record IsNodeRow (kept : Kept) (segs : List Seg) (nodes : ℕ) (place : ℕ → ℕ) (shape : Shape) (row : List ℕ) : Type 0 where
  pub only : (x : ℕ) → Contains row x → LeadsToChild place shape x ⊎ LeadsToEq kept segs nodes shape x
  pub children : (k : ℕ) → IsChild k shape → Contains row (place k)
  pub tellers : (x : ℕ) → LeadsToEq kept segs nodes shape x → Contains row x

-- some equation's value reaches the node
pub record IsUsed (shapes : List Shape) (eqs : List NetEq) (k : ℕ) : Type 0 where
  pub eq : ℕ
  pub there : eq < length eqs
  pub reached : IsReached shapes (slice_index (values_in eqs) eq ∷ []) k

-- Each place has the list of those to which it leads. The first are those of the used nodes, each at its own; the equations follow.
pub record AreRows (kept : Kept) (shapes : List Shape) (eqs : List NetEq) (nodes : ℕ) (rows : List (List ℕ)) : Type 0 where
  pub place : ℕ → ℕ
  pub size : length rows ≡ nodes + length eqs
  pub below : (k : ℕ) → IsUsed shapes eqs k → place k < nodes
  pub node : (k : ℕ) → IsUsed shapes eqs k → IsNodeRow kept (segs_in eqs) nodes place (shape_at shapes k) (slice_index_or rows (place k) [])
  pub value : (i : ℕ) → i < length eqs → slice_index_or rows (nodes + i) [] ≡ place (slice_index (values_in eqs) i) ∷ []

-- ---- as they are found

-- the children of a shape
abbrev pub child_list : Shape → List ℕ
child_list (Const v) = []
child_list (Var name width) = []
child_list (Unary op a) = a ∷ []
child_list (Binary op a b) = a ∷ b ∷ []
child_list (Cond c a b) = c ∷ a ∷ b ∷ []
child_list (Pick c a b) = c ∷ a ∷ b ∷ []
child_list (Slice a lo width) = a ∷ []
child_list (Zext a width) = a ∷ []
child_list (Sext a width) = a ∷ []
child_list (DynSlice a at spot) = a ∷ at ∷ []
child_list (DynPut a at spot put) = a ∷ at ∷ put ∷ []

-- The marked ones of the first n nodes, in one row, and for each node the number of marked ones before it: its place in the row, where
-- it is marked.
pub record AreMarked (marks : List Bool) (nodes places : List ℕ) (n : ℕ) : Type 0 where
  pub size : length places ≡ n
  pub only : (p : ℕ) → p < length nodes → (slice_index nodes p < n) × IsMarked marks (slice_index nodes p)
  pub all : (k : ℕ) → k < n → IsMarked marks k → (slice_index places k < length nodes) × (slice_index nodes (slice_index places k) ≡ k)

-- segments have a bit in common
abbrev pub shares : Seg → Seg → Bool
shares s t = s.wire == t.wire && (nat_lt s.lo (t.lo + t.width) && nat_lt t.lo (s.lo + s.width))

-- for each wire the segments that are on it, by their numbers
pub record AreByWire (segs : List Seg) (lists : List (List ℕ)) (n : ℕ) : Type 0 where
  pub only : (wire j : ℕ) → Contains (slice_index_or lists wire []) j → (j < n) × ((seg_at segs j).wire ≡ wire)
  pub all : (j : ℕ) → j < n → Contains (slice_index_or lists (seg_at segs j).wire []) j

-- Segments that can be looked up by their wires: each has a bit at least, and a place behind so many nodes.
pub record CanTell (nodes : ℕ) (t : Tellers) : Type 0 where
  pub lists : AreByWire t.segs.items t.lists.items (length t.segs.items)
  pub whole : All IsSeg t.segs.items
  pub fits : nodes + length t.segs.items < 2 ^ 64

-- the places of the segments among some that share a bit with one were put behind those that a list had
pub record IsFedBy (segs : List Seg) (nodes : ℕ) (seg : Seg) (numbers old new : List ℕ) : Type 0 where
  pub keeps : (x : ℕ) → Contains old x → Contains new x
  pub adds : (j : ℕ) → Contains numbers j → IsTrue (shares seg (seg_at segs j)) → Contains new (nodes + j)
  pub only : (x : ℕ) → Contains new x → Contains old x ⊎ ((j : ℕ) × (Contains numbers j × (IsTrue (shares seg (seg_at segs j)) × (x ≡ nodes + j))))

-- the places of the segments that share a bit with one of some
pub record IsFed (segs : List Seg) (nodes : ℕ) (of : List Seg) (row : List ℕ) : Type 0 where
  pub all : (c j : ℕ) → c < length of → j < length segs → IsTrue (shares (seg_at of c) (seg_at segs j)) → Contains row (nodes + j)
  pub only : (x : ℕ) → Contains row x → (c : ℕ) × ((j : ℕ) × ((c < length of) × ((j < length segs) × (IsTrue (shares (seg_at of c) (seg_at segs j)) × (x ≡ nodes + j)))))
