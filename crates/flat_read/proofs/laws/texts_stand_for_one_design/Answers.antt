use Rattle.std.proofs.Common.{arith}
use Rattle.flat_read.proofs.Unique.{one_design, settle_alike}
use Rattle.flat_read.proofs.laws.texts_stand_for_one_design.Goals as goal

pub returns-clause-same : goal.returns-clause-same
returns-clause-same c f g t u = one_design c.args.text.now f g (omega arith) t u

pub returns-clause-settles : goal.returns-clause-settles
returns-clause-settles c f g a b h k t u over stim prev now settled = settle_alike f g a b h k (one_design c.args.text.now f g (omega arith) t u) over stim prev now settled
