use Rattle.goal_tree.proofs.Parsed.{syntax_is}
use Rattle.goal_tree.proofs.parse.stopped.Goals as goal

pub returns : goal.returns
returns c =
    syntax_is c.args.tokens.now c.args.end c.args.left c.number_before.result c.place_before.result c.refusal.result c.requires c.number_before.ensures c.place_before.ensures c.refusal.ensures
