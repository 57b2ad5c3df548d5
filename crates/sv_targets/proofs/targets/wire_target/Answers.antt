use Rattle.std.proofs.Common.{refl, sym, subst}
use Rattle.sv_names.specs.Kinds.{layout_is}
use Rattle.sv_typing.specs.Roots.{JudgesChain}
use Rattle.sv_names.proofs.Sound.{sound_is, sound_some, sound_most}
use Rattle.sv_targets.proofs.Targeting.{chain_stands}
use Rattle.sv_targets.proofs.targets.wire_target.Goals as goal

pub returns-in-Ok : goal.returns-in-Ok
returns-in-Ok c = λ judge steps h.
    let x = c.args.layout.now in
    let k = subst (JudgesChain judge (layout_is x) steps) c.in-Ok.is h in
    record {
      clear = k.follows.clear;
      stands = chain_stands judge _ (record { wire = c.args.wire; layout = layout_is x; steps = steps }) c.in-Ok.field-0 k refl refl refl (sym (sound_is x c.requires)) (sound_some x c.requires) (sound_most x c.requires);
    }
