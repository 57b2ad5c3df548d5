use Rattle.std.proofs.lemmas.Result.{IfOk-from_err}
use Rattle.std.proofs.Common.{rules, subst}
use Rattle.sv_typed.proofs.Below as below
use Rattle.sv_blocks.proofs.Parting.{names_moving, spots_fixed, spots_known, spots_moving}
use Rattle.sv_stores.specs.Scenes.{Narrow}
use Rattle.sv_stores.proofs.Yielding.{typed_own}
use Rattle.sv_blocks.proofs.parts.spot_of.Goals as goal

pub known_place-requires : goal.known_place-requires
known_place-requires c = below.index_sound _ _ _ _ c.in-Moving.is c.get-index.ensures c.requires.sound

pub returns-in-Some-clause-ok : goal.returns-in-Some-clause-ok
returns-in-Some-clause-ok c = spots_known _ _ _ _ _ _ _ _ c.in-Moving.is c.get-index.ensures c.in-Some.ensures

pub lowered-requires-clause-sound : goal.lowered-requires-clause-sound
lowered-requires-clause-sound c = below.index_sound _ _ _ _ c.in-Moving.is c.get-index.ensures c.requires.sound

pub lowered-requires-clause-most : goal.lowered-requires-clause-most
lowered-requires-clause-most c = typed_own _ (below.index_sound _ _ _ _ c.in-Moving.is c.get-index.ensures c.requires.sound)

pub returns-in-Fixed-clause-ok : goal.returns-in-Fixed-clause-ok
returns-in-Fixed-clause-ok c = spots_fixed _ _ _ _ _ _ c.in-Fixed.is (search rules)

pub returns-in_ok-at-in-Moving-clause-ok : goal.returns-in_ok-at-in-Moving-clause-ok
returns-in_ok-at-in-Moving-clause-ok c = spots_moving _ _ _ _ _ _ _ _ _ c.in-Moving.is c.get-index.ensures (below.spot_width _ _ _ c.in-Moving.is c.requires.sound) c.in_ok-at-in-Moving.ensures.ok

pub lowered-requires-clause-narrow : goal.lowered-requires-clause-narrow
lowered-requires-clause-narrow c = subst (Narrow c.args.scene.now) (names_moving c.args.pick.now _ _ _ c.in-Moving.is c.get-index.ensures) c.requires.narrow

pub returns-in_err-at-in-Moving-clause-ok : goal.returns-in_err-at-in-Moving-clause-ok
returns-in_err-at-in-Moving-clause-ok c = IfOk-from_err _ _ c.from_residual.ensures.0
