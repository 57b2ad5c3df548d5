use Rattle.refute_check.proofs.Known.{known_given}
use Rattle.refute_check.proofs.follow.given.Goals as goal

pub returns : goal.returns
returns c = λ log k. known_given c.args.clauses.now log k c.args.hint _ _ c.requires c.index-clauses-hint.is c.as_slice.ensures.value
