use Rattle.std.proofs.Common.{refl, ap}
use Rattle.sv_types.specs.Types.{whole_is}
use Rattle.sv_types.proofs.Wholes.{never_past}
use Rattle.sv_types.proofs.whole.Whole.next.Goals as goal

pub returns-in-Past : goal.returns-in-Past
returns-in-Past c = absurd (never_past c.args.width c.args.signed c.args.self _ c.requires.most (ap whole_is c.in-Past.is) refl c.requires.held)
