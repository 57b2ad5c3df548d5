use Rattle.std.proofs.Common.{◌∙◌, List, length, min, eqb, ap, refl, sym}
use Rattle.sv_targets.specs.declared.parts.Part.{Part}
use Rattle.sv_elab.specs.Working.{parts_bits}
use Rattle.sv_elab.proofs.Joining.{counted, fixed_there, same_test}
use Rattle.sv_elab.proofs.joins.is_joined.Goals as goal

pub returns-clause-long : goal.returns-clause-long
returns-clause-long c = λ e.
    counted c.bits_in.result (length (parts_bits c.args.target.now.parts)) c.args.width e (c.bits_in.ensures ∙ ap (λ (z : List Part). min 255 (length (parts_bits z))) c.as_slice.ensures) c.requires

pub returns-clause-is : goal.returns-clause-is
returns-clause-is c = λ f ts h.
    let n = length (parts_bits c.args.target.now.parts) in
    let counts = same_test c.bits_in.result n c.args.width (c.bits_in.ensures ∙ ap (λ (z : List Part). min 255 (length (parts_bits z))) c.as_slice.ensures) c.requires in
    fixed_there f ts c.args.target.now c.args.width n _ h c.if-target-width.false c.if-not-target.false refl (counts ∙ sym (ap (eqb n) c.if-target-width.false))
