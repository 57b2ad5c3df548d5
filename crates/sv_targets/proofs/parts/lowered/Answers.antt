use Rattle.std.proofs.Common.{List, min, refl, ap, ◌∙◌, subst}
use Rattle.sv_targets.specs.declared.targets.TypedTarget.{TypedTarget}
use Rattle.sv_targets.specs.Slots.{Slots, slots_of, all_fixed, AreParts}
use Rattle.sv_targets.specs.Targets.{width_of_all}
use Rattle.sv_targets.proofs.Slotting.{lowered_ok}
use Rattle.sv_targets.proofs.parts.lowered.Goals as goal

pub returns-in_ok-parts-in-Ok : goal.returns-in_ok-parts-in-Ok
returns-in_ok-parts-in-Ok c = λ f ts h.
    lowered_ok f ts c.args.targets c.in-Ok.targets c.in_ok-all-in-Ok.all _ c.width_of_all-width.result c.in-Ok.is h c.requires.narrow c.requires.some
    (c.width_of_all-width.ensures ∙ ap (λ (z : List TypedTarget). min 255 (width_of_all z)) c.as_slice.ensures) refl
    (c.in_ok-all-in-Ok.ensures.is ∙ ap slots_of c.as_slice-in-Ok.ensures)
    (subst (λ (z : Slots). AreParts z c.in_ok-parts-in-Ok.parts) c.as_slice-in-Ok-2.ensures c.in_ok-parts-in-Ok.ensures)
    (c.are_fixed-fixed.ensures ∙ ap all_fixed c.as_slice-in-Ok-3.ensures)
