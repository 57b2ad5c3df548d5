use Rattle.goal_tree.proofs.Parsed.{deep_is}
use Rattle.goal_tree.proofs.parse.nested.Goals as goal

pub returns : goal.returns
returns c = deep_is c.args.tokens.now c.args.end c.args.deep c.args.left c.place_before.result c.refusal.result c.requires c.place_before.ensures c.refusal.ensures
