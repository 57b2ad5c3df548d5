-- Parts of nodes, and nodes with parts put into them (IEEE 1800-2017, 11.5.1).
use Rattle.std.specs.Prelude.{◌≡◌, ℕ, ◌+◌, ◌<◌, ◌≤◌, Bool, true, List, ◌++◌, length, take, drop, Option, Some, IsTrue, ℤ}
use Rattle.fourvec.specs.declared.Bit.{Bit}
use Rattle.fourvec.specs.Bits.{slice_of}
use Rattle.fourvec.specs.Spots.{reached, overlaid}
use Rattle.svex_shape.specs.declared.shape.VarName.{VarName}
use Rattle.svex_shape.specs.declared.shape.Shape.{Shape}
use Rattle.svex_shape.specs.Shapes.{width_at}
use Rattle.svex_shape.specs.Values.{each_variable}
use Rattle.sv_meaning.specs.Meanings.{bits_at}
use Rattle.sv_meaning.specs.Targets.{put_at}
use Rattle.sv_typed.specs.declared.tree.Pick.{Pick}
use Rattle.sv_typed.specs.Typed.{pick_place, place_names, spot_place, names_picked}
use Rattle.sv_typing.specs.Picks.{picked_put}
use Rattle.sv_lower.specs.Nodes.{bits_at_node}
use Rattle.sv_stores.specs.declared.scene.Scene.{Scene}
use Rattle.sv_blocks.specs.declared.parts.Spotted.{Spotted}
use Rattle.sv_blocks.specs.declared.parts.Spotted.TheVariants.{At, Moving}
use Rattle.sv_stores.specs.Scenes.{store_of, reads_in, Allows, HoldsIn}

-- ---- where parts begin

abbrev pub spotted_place : Spotted → (VarName → ℕ → Bit) → List Shape → Option ℤ
spotted_place (At p) bits shapes = Some (reached p.below p.far)
spotted_place (Moving at spot) bits shapes = spot_place spot (bits_at_node bits shapes at)

abbrev pub spotted_test : Spotted → (VarName → ℕ → Bool) → List Shape → Bool
spotted_test (At p) test shapes = true
spotted_test (Moving at spot) test shapes = each_variable test shapes at

-- the node of an index is there
abbrev pub SpotIsIn : Spotted → List Shape → Type 0
SpotIsIn (At p) shapes = Unit {0}
SpotIsIn (Moving at spot) shapes = at < length shapes

-- a part at the place of an index has so many bits
abbrev pub SpotIsWide : Spotted → ℕ → Type 0
SpotIsWide (At p) w = Unit {0}
SpotIsWide (Moving at spot) w = spot.width ≡ w

-- where the part of a pick begins
pub record Spots (scene : Scene) (old new : List Shape) (nodes : List ℕ) (pick : Pick) (s : Spotted) : Type 0 where
  pub there : SpotIsIn s new
  pub wide : SpotIsWide s pick.width
  pub place : (bits : VarName → ℕ → Bit) → spotted_place s bits new ≡ pick_place pick (reads_in scene bits (store_of scene old bits nodes))
  pub mentions : (p : VarName → ℕ → Bool) → Allows scene p (place_names pick.place) → HoldsIn p old nodes → IsTrue (spotted_test s p new)

-- ---- parts

pub record ReadsPart (old new : List Shape) (s : Spotted) (w of node : ℕ) : Type 0 where
  pub within : node < length new
  pub width : width_at new node ≡ w
  pub value : (bits : VarName → ℕ → Bit) → bits_at_node bits new node ≡ bits_at (spotted_place s bits old) w (bits_at_node bits old of)
  pub mentions : (p : VarName → ℕ → Bool) → IsTrue (spotted_test s p old) → IsTrue (each_variable p old of) → IsTrue (each_variable p new node)

pub record PutsPart (old new : List Shape) (s : Spotted) (of part node : ℕ) : Type 0 where
  pub within : node < length new
  pub width : width_at new node ≡ width_at old of
  pub value : (bits : VarName → ℕ → Bit) → bits_at_node bits new node ≡ put_at (spotted_place s bits old) (bits_at_node bits old of) (bits_at_node bits old part)
  pub mentions : (p : VarName → ℕ → Bool) → IsTrue (spotted_test s p old) → IsTrue (each_variable p old of) → IsTrue (each_variable p old part) → IsTrue (each_variable p new node)

-- How a part of a width lies over a vector of a size from a place on: of the part the bits from `below` on, `inside` of them, take the
-- place of those from `lo` on.
pub record IsLay (size : ℕ) (place : ℤ) (width below lo inside : ℕ) : Type 0 where
  pub from : below + inside ≤ width
  pub within : lo + inside ≤ size
  pub gives : (v put : List Bit) → length v ≡ size → length put ≡ width → overlaid v place put ≡ take lo v ++ slice_of put below inside ++ drop (lo + inside) v

-- ---- chains of selects

-- a node with a value written into the part that picks name
pub record IsWritten (scene : Scene) (old new : List Shape) (nodes : List ℕ) (picks : List Pick) (of put node : ℕ) : Type 0 where
  pub within : node < length new
  pub width : width_at new node ≡ width_at old of
  pub value : (bits : VarName → ℕ → Bit)
      → bits_at_node bits new node ≡ picked_put (reads_in scene bits (store_of scene old bits nodes)) picks (bits_at_node bits old of) (bits_at_node bits old put)
  pub mentions : (p : VarName → ℕ → Bool) → Allows scene p (names_picked picks) → HoldsIn p old nodes
      → IsTrue (each_variable p old of) → IsTrue (each_variable p old put) → IsTrue (each_variable p new node)
