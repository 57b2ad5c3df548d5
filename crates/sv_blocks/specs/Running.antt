-- Arms of case statements as steps over nodes (IEEE 1800-2017, 12.5).
use Rattle.std.specs.Prelude.{◌≡◌, ℕ, Bool, List, [], ◌∷◌, ◌++◌}
use Rattle.std.specs.List.{All}
use Rattle.fourvec.specs.declared.Bit.{Bit}
use Rattle.fourvec.specs.Bits.{first}
use Rattle.svex_shape.specs.declared.shape.VarName.{VarName}
use Rattle.svex_shape.specs.declared.shape.Shape.{Shape}
use Rattle.settling.specs.Settling.{Store}
use Rattle.lhs_alias.specs.declared.segs.WireBit.{WireBit}
use Rattle.sv_meaning.specs.Layouts.{Read, NamedSignal}
use Rattle.sv_meaning.specs.Deeds.{merged}
use Rattle.sv_typed.specs.Typed.{names_of, names_together}
use Rattle.sv_actions.specs.declared.action.Case.{Case}
use Rattle.sv_actions.specs.declared.action.Arm.{Arm}
use Rattle.sv_actions.specs.Doing.{label_matches, run_all, writes_all, names_all, Fits, LabelFits}
use Rattle.sv_stores.specs.declared.scene.Scene.{Scene}
use Rattle.sv_stores.specs.Scenes.{store_of, reads_in, Allows, HoldsIn}

pub record ArmFits (c : Case) (arm : Arm) : Type 0 where
  pub labels : All (LabelFits c) arm.labels
  pub body : All Fits arm.body

-- what an arm leaves over what the others leave, all from one store
abbrev pub arm_run : Case → Arm → (Store → Read) → Store → Store → Store
arm_run c arm look store rest = merged (first (label_matches c (look store) arm.labels)) (run_all arm.body look store) rest

unfoldable pub arms_run : Case → List Arm → (Store → Read) → Store → Store → Store
arms_run c [] look store rest = rest
arms_run c (arm ∷ more) look store rest = arm_run c arm look store (arms_run c more look store rest)

-- the bits that arms write, in the order of the text
unfoldable pub arms_bits : List Arm → List WireBit
arms_bits [] = []
arms_bits (arm ∷ more) = writes_all arm.body ++ arms_bits more

abbrev pub arm_names : Case → Arm → List NamedSignal
arm_names c arm = names_of c.value ++ names_together arm.labels ++ names_all arm.body

unfoldable pub arms_names : Case → List Arm → List NamedSignal
arms_names c [] = []
arms_names c (arm ∷ more) = arm_names c arm ++ arms_names c more

-- A step from the store at the start, over what is left where no arm is taken.
pub record Steps (scene : Scene) (old new : List Shape) (f : (Store → Read) → Store → Store → Store) (names : List NamedSignal) (start before after : List ℕ) : Type 0 where
  pub value : (bits : VarName → ℕ → Bit) → store_of scene new bits after ≡ f (reads_in scene bits) (store_of scene old bits start) (store_of scene old bits before)
  pub mentions : (p : VarName → ℕ → Bool) → Allows scene p names → HoldsIn p old start → HoldsIn p old before → HoldsIn p new after

abbrev pub RanArm : Scene → List Shape → List Shape → Case → Arm → List ℕ → List ℕ → List ℕ → Type 0
RanArm scene old new c arm start before after = Steps scene old new (arm_run c arm) (arm_names c arm) start before after

abbrev pub RanArms : Scene → List Shape → List Shape → Case → List Arm → List ℕ → List ℕ → List ℕ → Type 0
RanArms scene old new c arms start before after = Steps scene old new (arms_run c arms) (arms_names c arms) start before after
