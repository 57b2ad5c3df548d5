-- Actions over a scene: the wires of their targets have places there, and names read no more bits than these wires have.
use Rattle.std.specs.Prelude.{◌≡◌, ℕ, ◌+◌, ◌<◌, ◌≤◌, true, Some, is_some}
use Rattle.std.specs.List.{All}
use mathlib.Core.Former.{Count}
use Rattle.lhs_alias.specs.declared.segs.WireBit.{WireBit}
use Rattle.sv_typed.specs.declared.tree.Typed.{Typed}
use Rattle.sv_typed.specs.declared.tree.Pick.{Pick}
use Rattle.sv_typed.specs.Typed.{names_of, place_names}
use Rattle.sv_targets.specs.declared.targets.TypedTarget.{TypedTarget}
use Rattle.sv_actions.specs.declared.action.Arm.{Arm}
use Rattle.sv_actions.specs.declared.action.Action.{Action, Assign, Choose', Match', Row_of-Action, end_of-Action, more_of-Action, Row_of-Arm, end_of-Arm, more_of-Arm}
use Rattle.sv_stores.specs.declared.scene.Scene.{Scene}
use Rattle.sv_stores.specs.Scenes.{place_in, width_in, Narrow}

-- a wire has a place, and so many bits there
pub record HasPlace (scene : Scene) (n w : ℕ) : Type 0 where
  pub there : is_some (place_in scene n) ≡ true
  pub width : (i : ℕ) → place_in scene n ≡ Some i → width_in scene i ≡ w

abbrev pub PickSits : Scene → Pick → Type 0
PickSits scene p = Narrow scene (place_names p.place)

abbrev pub LabelSits : Scene → Typed → Type 0
LabelSits scene m = Narrow scene (names_of m)

pub record TargetSits (scene : Scene) (t : TypedTarget) : Type 0 where
  pub place : HasPlace scene t.wire t.wire_width
  pub picks : All (PickSits scene) t.picks

unfoldable mutual
  pub Sits : Scene → Action → Type 0
  Sits scene (Assign to v) = Narrow scene (names_of v) × All (TargetSits scene) to
  Sits scene (Choose' c s a t b) = Narrow scene (names_of c) × (SitsRow scene a × SitsRow scene b)
  Sits scene (Match' c s arms t other) = Narrow scene (names_of c.value) × (SitsArms scene arms × SitsRow scene other)

  pub SitsRow : {m : Count} → Scene → Row_of-Action m → Type 0
  SitsRow scene end_of-Action = Unit {0}
  SitsRow scene (more_of-Action x all) = Sits scene x × SitsRow scene all

  pub SitsArms : {m : Count} → Scene → Row_of-Arm m → Type 0
  SitsArms scene end_of-Arm = Unit {0}
  SitsArms scene (more_of-Arm labels s body all) = All (LabelSits scene) labels × (SitsRow scene body × SitsArms scene all)

pub record ArmSits (scene : Scene) (arm : Arm) : Type 0 where
  pub labels : All (LabelSits scene) arm.labels
  pub body : All (Sits scene) arm.body

-- a bit of a wire that has a place
pub record BitSits (scene : Scene) (b : WireBit) : Type 0 where
  pub there : is_some (place_in scene b.wire) ≡ true
  pub near : (i : ℕ) → place_in scene b.wire ≡ Some i → b.at < width_in scene i

-- so many bits of such a wire from one on
pub record RunSits (scene : Scene) (first : WireBit) (count : ℕ) : Type 0 where
  pub there : is_some (place_in scene first.wire) ≡ true
  pub room : (i : ℕ) → place_in scene first.wire ≡ Some i → first.at + count ≤ width_in scene i
