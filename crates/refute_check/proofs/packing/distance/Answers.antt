use Rattle.refute_check.proofs.Packs.{place_back}
use Rattle.refute_check.proofs.packing.distance.Goals as goal

pub returns-then-from-to-clause-back : goal.returns-then-from-to-clause-back
returns-then-from-to-clause-back c = place_back c.args.from c.args.to c.ranges.from.fits c.ranges.to.fits

pub returns-else-from-to-clause-back : goal.returns-else-from-to-clause-back
returns-else-from-to-clause-back c = place_back c.args.from c.args.to c.ranges.from.fits c.ranges.to.fits
