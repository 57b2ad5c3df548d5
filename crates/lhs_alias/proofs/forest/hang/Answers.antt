use Rattle.lhs_alias.proofs.Trees.{forest-linked}
use Rattle.lhs_alias.proofs.forest.hang.Goals as goal

pub returns-clause-forest : goal.returns-clause-forest
returns-clause-forest c = forest-linked c.args.links.now c.args.sizes.now c.args.firsts.now c.args.low c.args.high c.args.first c.requires.forest c.requires.linkable
