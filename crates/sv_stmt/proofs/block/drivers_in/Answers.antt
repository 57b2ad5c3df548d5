use Rattle.std.proofs.lemmas.Result.{IfOk-from_err}
use Rattle.std.proofs.Common.{List, All, sym, ◌∙◌, subst}
use Rattle.lhs_alias.specs.declared.segs.WireBit.{WireBit}
use Rattle.sv_names.specs.Names.{names_are}
use Rattle.sv_actions.specs.Doing.{writes_all}
use Rattle.sv_actions.specs.Texts.{target_signals}
use Rattle.sv_blocks.specs.Fitting.{BitSits}
use Rattle.sv_blocks.specs.Ending.{Finishes}
use Rattle.sv_blocks.proofs.Marking.{same_scene}
use Rattle.sv_blocks.proofs.Sitting.{bits_sit_all, distinct_sit_all}
use Rattle.sv_stmt.proofs.Having.{have_bits}
use Rattle.sv_stmt.proofs.Contributing.{contributes}
use Rattle.sv_stmt.proofs.Placing.{scene_sits, same_wires}
use Rattle.sv_stmt.proofs.block.drivers_in.Goals as goal

pub marked_in-requires-clause-sits : goal.marked_in-requires-clause-sits
marked_in-requires-clause-sits c =
    let s = c.in_ok-scene.scene in
    scene_sits (names_are c.args.names.now) c.args.body.now c.args.actions.now c.args.manner s s (same_wires s) c.in_ok-scene.ensures.begun c.in_ok-scene.ensures.there c.requires.aims c.requires.names c.requires.widths

pub marked_in-requires-clause-sound : goal.marked_in-requires-clause-sound
marked_in-requires-clause-sound c = c.in_ok-scene.ensures.begun.sound

pub marked_in-requires-clause-marks : goal.marked_in-requires-clause-marks
marked_in-requires-clause-marks c = c.in_ok-scene.ensures.begun.marks

pub marked_in-requires-clause-clear : goal.marked_in-requires-clause-clear
marked_in-requires-clause-clear c = c.in_ok-scene.ensures.begun.clear

pub scene_drivers-requires-clause-scene : goal.scene_drivers-requires-clause-scene
scene_drivers-requires-clause-scene c = same_scene c.in_ok-scene.scene c.in_ok-scene-2.field-0.scene c.in_ok-scene-2.ensures.same c.in_ok-scene.ensures.begun.sound

pub scene_drivers-requires-clause-sits : goal.scene_drivers-requires-clause-sits
scene_drivers-requires-clause-sits c =
    scene_sits (names_are c.args.names.now) c.args.body.now c.args.actions.now c.args.manner c.in_ok-scene.scene c.in_ok-scene-2.field-0.scene c.in_ok-scene-2.ensures.same c.in_ok-scene.ensures.begun c.in_ok-scene.ensures.there
    c.requires.aims c.requires.names c.requires.widths

pub scene_drivers-requires-clause-bits : goal.scene_drivers-requires-clause-bits
scene_drivers-requires-clause-bits c =
    let marked = c.in_ok-scene-2.field-0 in
    let sits =
    scene_sits (names_are c.args.names.now) c.args.body.now c.args.actions.now c.args.manner c.in_ok-scene.scene marked.scene c.in_ok-scene-2.ensures.same c.in_ok-scene.ensures.begun c.in_ok-scene.ensures.there c.requires.aims c.requires.names c.requires.widths in
    subst (All (BitSits marked.scene)) (sym (c.as_slice.ensures ∙ c.in_ok-scene-2.ensures.bits_are)) (distinct_sit_all marked.scene (writes_all c.args.actions.now) (bits_sit_all marked.scene c.args.actions.now sits))

pub returns-clause-ok : goal.returns-clause-ok
returns-clause-ok c =
    let at = names_are c.args.names.now in
    let marked = c.in_ok-scene-2.field-0 in
    contributes at (target_signals at c.args.body.now) c.args.manner c.args.actions.now c.in_ok-scene.scene marked (writes_all c.args.actions.now) c.scene_drivers.new.arena c.in_ok-all.all c.in_ok-scene.ensures.begun
    (λ i. writes_all c.args.actions.now) c.in_ok-scene-2.ensures (have_bits c.args.actions.now c.requires.fits)
    (subst (λ (z : List WireBit). Finishes marked.scene c.scene_drivers.new.arena c.args.actions.now z c.in_ok-all.all) c.as_slice.ensures c.in_ok-all.ensures.ok)

pub returns-in_err-all-clause-ok : goal.returns-in_err-all-clause-ok
returns-in_err-all-clause-ok c = IfOk-from_err _ _ c.from_residual-in_err-all.ensures.0

pub returns-in_err-scene-2-clause-ok : goal.returns-in_err-scene-2-clause-ok
returns-in_err-scene-2-clause-ok c = IfOk-from_err _ _ c.from_residual-in_err-scene-2.ensures.0

pub returns-in_err-scene-clause-ok : goal.returns-in_err-scene-clause-ok
returns-in_err-scene-clause-ok c = IfOk-from_err _ _ c.from_residual.ensures.0
