-- Drivers of the bits that a block writes.
use Rattle.std.specs.Prelude.{◌≡◌, ℕ, ◌<◌, Bool, List, length, map, slice_index, slice_index_or, IsTrue}
use Rattle.std.specs.List.{All}
use Rattle.lhs_alias.specs.declared.segs.WireBit.{WireBit}
use Rattle.lhs_alias.specs.declared.segs.Seg.{Seg}
use Rattle.lhs_alias.specs.Segs.{lhs_bits}
use Rattle.lhs_alias.specs.Lies.{LieIn}
use Rattle.settling.specs.Settling.{Store, Contribution, value_at}
use Rattle.svex_shape.specs.declared.shape.VarName.{VarName}
use Rattle.svex_shape.specs.declared.shape.Shape.{Shape}
use Rattle.svex_shape.specs.Shapes.{width_at}
use Rattle.svex_shape.specs.Values.{each_variable}
use Rattle.driver_resolve.specs.declared.driver.Driver.{Driver}
use Rattle.driver_resolve.specs.Drivers.{Phase, bits_in, driver_gives, drivers_give}
use Rattle.sv_stores.specs.declared.scene.Scene.{Scene}
use Rattle.sv_stores.specs.Scenes.{width_in, store_of, HoldsIn}

-- so many bits of a wire from one on
abbrev pub run_seg : WireBit → ℕ → Seg
run_seg first count = record { wire = first.wire; lo = first.at; width = count }

-- what a store gives to bits
abbrev pub given : Store → List WireBit → List Contribution
given end bits = map (λ b. (b, value_at end b)) bits

-- the wire at each place has its width among these
abbrev pub SceneFits : List ℕ → Scene → Type 0
SceneFits widths scene = (i : ℕ) → i < length scene.wires → (slice_index_or scene.wires i 0 < length widths) × (slice_index widths (slice_index_or scene.wires i 0) ≡ width_in scene i)

-- what a driver needs but that its variables are those of wires
pub record IsPlaced (shapes : List Shape) (d : Driver) : Type 0 where
  pub there : d.value < length shapes
  pub wide : width_at shapes d.value ≡ length (lhs_bits d.target)

-- A driver gives to some bits what the store of nodes has there, and mentions nothing that these do not.
pub record Drives (scene : Scene) (old new : List Shape) (nodes : List ℕ) (bits : List WireBit) (d : Driver) : Type 0 where
  pub gives : (p : Phase) → driver_gives new p d ≡ given (store_of scene old (bits_in p) nodes) bits
  pub lies : (widths : List ℕ) → SceneFits widths scene → LieIn widths d.target
  pub placed : IsPlaced new d
  pub mentions : (p : VarName → ℕ → Bool) → HoldsIn p old nodes → IsTrue (each_variable p new d.value)

-- the same of drivers, one after the other
pub record DriveAll (scene : Scene) (old new : List Shape) (nodes : List ℕ) (bits : List WireBit) (all : List Driver) : Type 0 where
  pub gives : (p : Phase) → drivers_give new all p ≡ given (store_of scene old (bits_in p) nodes) bits
  pub lies : (widths : List ℕ) → SceneFits widths scene → All (λ d. LieIn widths d.target) all
  pub placed : All (IsPlaced new) all
  pub mentions : (p : VarName → ℕ → Bool) → HoldsIn p old nodes → All (λ d. IsTrue (each_variable p new d.value)) all
