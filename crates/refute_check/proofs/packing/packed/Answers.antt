use Rattle.refute_check.proofs.Packs.{literal_back}
use Rattle.refute_check.proofs.packing.packed.Goals as goal

pub returns-clause-back : goal.returns-clause-back
returns-clause-back c = literal_back c.args.var c.args.negated c.ranges.var.fits
