use Rattle.refute_check.proofs.Known.{known_step}
use Rattle.refute_check.proofs.follow.cited.Goals as goal

pub returns : goal.returns
returns c = known_step c.args.clauses.now c.args.steps.now c.args.k c.args.hint _ c.requires.k c.requires.past c.requires.hint c.index-steps-hint.is
