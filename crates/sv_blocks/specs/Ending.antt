-- What a block contributes at its end (IEEE 1800-2017, 9.2.2).
use Rattle.std.specs.Prelude.{◌≡◌, ℕ, ◌<◌, Bool, List, length, slice_index_or, IsTrue}
use Rattle.std.specs.List.{All, Contains}
use Rattle.fourvec.specs.declared.Bit.{Bit}
use Rattle.lhs_alias.specs.declared.segs.WireBit.{WireBit}
use Rattle.svex_shape.specs.declared.shape.VarName.{VarName}
use Rattle.svex_shape.specs.declared.shape.Shape.{Shape}
use Rattle.svex_shape.specs.Values.{each_variable}
use Rattle.settling.specs.Settling.{Store}
use Rattle.lhs_alias.specs.Lies.{LieIn}
use Rattle.driver_resolve.specs.declared.driver.Driver.{Driver}
use Rattle.driver_resolve.specs.Drivers.{Phase, bits_in, drivers_give}
use Rattle.sv_meaning.specs.Deeds.{merged}
use Rattle.sv_meaning.specs.declared.events.WireEdge.{WireEdge}
use Rattle.sv_meaning.specs.Blocks.{trigger}
use Rattle.sv_actions.specs.declared.action.Action.{Action}
use Rattle.sv_actions.specs.Doing.{run_all, names_all}
use Rattle.sv_stores.specs.declared.scene.Manner.{Manner}
use Rattle.sv_stores.specs.declared.scene.Manner.TheVariants.{Comb, Latch, HeldLatch, Clocked}
use Rattle.sv_stores.specs.declared.scene.Scene.{Scene}
use Rattle.sv_stores.specs.Scenes.{width_in, base, store_of, reads_in, Allows, HoldsIn, AreNodes, start_test}
use Rattle.sv_stores.specs.Starting.{before, present, EdgeHolds}
use Rattle.sv_blocks.specs.Driving.{given, SceneFits, IsPlaced}

-- What is contributed, where the actions leave a store: in a clocked block where one of its events takes place, and else what was
-- before.
abbrev pub end_store : Manner → (VarName → ℕ → Bit) → Store → Store → Store
end_store Comb bits left start = left
end_store Latch bits left start = left
end_store HeldLatch bits left start = left
end_store (Clocked edges) bits left start = merged (trigger edges (before bits) (present bits)) left start

-- a test of what the wires have where the block begins
abbrev pub StartHolds : Scene → (VarName → ℕ → Bool) → Type 0
StartHolds scene p = (i : ℕ) → i < length scene.wires → IsTrue (start_test scene.manner p (slice_index_or scene.wires i 0) (width_in scene i))

-- and of both values of the wires of its events
abbrev pub EventHolds : Manner → (VarName → ℕ → Bool) → Type 0
EventHolds Comb p = Unit {0}
EventHolds Latch p = Unit {0}
EventHolds HeldLatch p = Unit {0}
EventHolds (Clocked edges) p = (x : WireEdge) → Contains edges x → EdgeHolds p x

pub record Ends (scene : Scene) (old new : List Shape) (start left ends : List ℕ) : Type 0 where
  pub nodes_are : AreNodes scene new ends
  pub value : (bits : VarName → ℕ → Bit) → store_of scene new bits ends ≡ end_store scene.manner bits (store_of scene old bits left) (store_of scene old bits start)
  pub mentions : (p : VarName → ℕ → Bool) → EventHolds scene.manner p → HoldsIn p old start → HoldsIn p old left → HoldsIn p new ends

-- the nodes of the wires at the end of a block that does these actions
pub record Runs (scene : Scene) (new : List Shape) (all : List Action) (ends : List ℕ) : Type 0 where
  pub nodes_are : AreNodes scene new ends
  pub value : (bits : VarName → ℕ → Bit) → store_of scene new bits ends ≡ end_store scene.manner bits (run_all all (reads_in scene bits) (base scene.manner bits)) (base scene.manner bits)
  pub mentions : (p : VarName → ℕ → Bool) → StartHolds scene p → EventHolds scene.manner p → Allows scene p (names_all all) → HoldsIn p new ends

-- the drivers of some bits of these wires
pub record Finishes (scene : Scene) (new : List Shape) (all : List Action) (bits : List WireBit) (drivers : List Driver) : Type 0 where
  pub gives : (p : Phase) → drivers_give new drivers p ≡ given (end_store scene.manner (bits_in p) (run_all all (reads_in scene (bits_in p)) (base scene.manner (bits_in p))) (base scene.manner (bits_in p))) bits
  pub lies : (widths : List ℕ) → SceneFits widths scene → All (λ d. LieIn widths d.target) drivers
  pub placed : All (IsPlaced new) drivers
  pub mentions : (p : VarName → ℕ → Bool) → StartHolds scene p → EventHolds scene.manner p → Allows scene p (names_all all) → All (λ d. IsTrue (each_variable p new d.value)) drivers
