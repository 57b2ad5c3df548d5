-- Assignments as steps over nodes.
use Rattle.std.specs.Prelude.{◌≡◌, ℕ, Bool, List, ◌++◌, IsTrue}
use Rattle.fourvec.specs.declared.Bit.{Bit}
use Rattle.svex_shape.specs.declared.shape.VarName.{VarName}
use Rattle.svex_shape.specs.declared.shape.Shape.{Shape}
use Rattle.svex_shape.specs.Values.{each_variable}
use Rattle.settling.specs.Settling.{Store}
use Rattle.sv_meaning.specs.Layouts.{Read, NamedSignal}
use Rattle.sv_typed.specs.declared.tree.Typed.{Typed}
use Rattle.sv_typed.specs.Typed.{names_of, names_picked}
use Rattle.sv_targets.specs.declared.targets.TypedTarget.{TypedTarget}
use Rattle.sv_targets.specs.Targets.{width_of_all}
use Rattle.sv_lower.specs.Nodes.{bits_at_node}
use Rattle.sv_actions.specs.Doing.{assigned_bits, write_to, write_into, target_names}
use Rattle.sv_stores.specs.declared.scene.Scene.{Scene}
use Rattle.sv_stores.specs.Scenes.{store_of, reads_in, Allows, HoldsIn}

-- a node is written into a target
pub record Wrote (scene : Scene) (old new : List Shape) (before after : List ℕ) (t : TypedTarget) (part : ℕ) : Type 0 where
  pub value : (bits : VarName → ℕ → Bit)
      → store_of scene new bits after ≡ write_to (reads_in scene bits (store_of scene old bits before)) t (bits_at_node bits old part) (store_of scene old bits before)
  pub mentions : (p : VarName → ℕ → Bool) → Allows scene p (names_picked t.picks) → IsTrue (each_variable p old part) → HoldsIn p old before → HoldsIn p new after

-- a node is written into targets, the first the most significant
pub record WroteAll (scene : Scene) (old new : List Shape) (before after : List ℕ) (to : List TypedTarget) (whole : ℕ) : Type 0 where
  pub value : (bits : VarName → ℕ → Bit)
      → store_of scene new bits after ≡ write_into (reads_in scene bits) to (bits_at_node bits old whole) (store_of scene old bits before)
  pub mentions : (p : VarName → ℕ → Bool) → Allows scene p (target_names to) → IsTrue (each_variable p old whole) → HoldsIn p old before → HoldsIn p new after

-- what an assignment does, and which signals it names
abbrev pub assigns : List TypedTarget → Typed → (Store → Read) → Store → Store
assigns to v look store = write_into look to (assigned_bits v (look store) (width_of_all to)) store

abbrev pub assign_names : List TypedTarget → Typed → List NamedSignal
assign_names to v = names_of v ++ target_names to
