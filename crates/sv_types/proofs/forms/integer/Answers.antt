use Rattle.std.proofs.Common.{◌≡◌, ◌*◌, ap, ◌∙◌, arith}
use Rattle.sv_meaning.specs.Layouts as m
use Rattle.sv_names.proofs.Sound.{sound_is}
use Rattle.sv_types.proofs.forms.integer.Goals as goal

pub dim-requires-clause-most : goal.dim-requires-clause-most
dim-requires-clause-most c =
    let w = sound_is c.scalar.result c.scalar.ensures.sound ∙ ap m.width c.scalar.ensures.is in
    let e : m.count_between c.new.result.left c.new.result.right * c.scalar.result.width ≡ 32 = (λ i. m.count_between (c.new.ensures.left i) (c.new.ensures.right i) * w i) in
    omega arith
