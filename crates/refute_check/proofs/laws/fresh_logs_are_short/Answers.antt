use Rattle.refute_check.proofs.Bounds.{fresh_short}
use Rattle.refute_check.proofs.laws.fresh_logs_are_short.Goals as goal

pub returns : goal.returns
returns c = fresh_short
