use Rattle.std.proofs.Common.{sym, ap, ◌∙◌}
use Rattle.sv_meaning.specs.Forms.{can_hold}
use Rattle.sv_types.specs.Types.{whole_is}
use Rattle.sv_types.specs.declared.whole.Whole.{Whole}
use Rattle.sv_types.proofs.Wholes.{past}
use Rattle.sv_types.proofs.whole.Whole.fits_in.Goals as goal

pub returns-in-Past : goal.returns-in-Past
returns-in-Past c = sym (ap (λ (z : Whole). can_hold c.args.width c.args.signed (whole_is z)) c.in-Past.is ∙ past c.args.width c.args.signed c.requires.most)
