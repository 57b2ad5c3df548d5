use Rattle.refute_check.proofs.Rows.{whole_back}
use Rattle.refute_check.proofs.number.Number.of.Goals as goal

pub returns-clause-back : goal.returns-clause-back
returns-clause-back c = whole_back c.args.n c.ranges.n.fits
